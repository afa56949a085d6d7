use Rattle.std.proofs.Common.{◌≡◌, ◌++◌, map, replicate}
use Rattle.ci_tree.specs.SeenBound.{cell_of}
use Rattle.ci_binder.proofs.shared.add_cells.Given as goal

abbrev pub invariant-loop : goal.invariant-loop
invariant-loop l = map cell_of l.cells ≡ map cell_of l.initial.cells ++ replicate l.counter (record { kind = l.kind; first = l.first })
