use Rattle.std.proofs.Common.{◌≡◌, [], map, take, flat_map}
use Rattle.ci_tree.specs.SeenBound.{cell_of, array_of, global_of}
use Rattle.ci_names.specs.Declarations.{each_behind}
use Rattle.ci_names.specs.Binding.{bound_cells, bound_array, bound_global}
use Rattle.ci_scopes.specs.Listed.{variable_at}
use Rattle.ci_binder.proofs.shared.Shared.of.Given as goal

abbrev pub invariant-loop-v : goal.invariant-loop-v
invariant-loop-v l = record {
  cells : map cell_of l.shared.cells ≡ flat_map bound_cells (map variable_at (take l.v-index l.all));
  arrays : map array_of l.shared.arrays ≡ each_behind bound_array [] (map variable_at (take l.v-index l.all));
  globals : map global_of l.shared.globals ≡ each_behind bound_global [] (map variable_at (take l.v-index l.all));
}
