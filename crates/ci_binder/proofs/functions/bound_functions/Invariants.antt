use Rattle.std.proofs.Common.{◌≡◌, [], map, take}
use Rattle.ci_tree.specs.SeenBound.{function_of}
use Rattle.ci_names.specs.Fault.{noted}
use Rattle.ci_names.specs.Declarations.{each_behind}
use Rattle.ci_names.specs.Faults.{function_faults}
use Rattle.ci_names.specs.Binding.{heads_in, bound_function}
use Rattle.ci_scopes.specs.Seen.{declared_of}
use Rattle.ci_binder.proofs.functions.bound_functions.Given as goal

abbrev pub invariant-loop-count : goal.invariant-loop-count
invariant-loop-count l = record {
  value : map (function_of (heads_in (declared_of l.names))) l.functions ≡ map (bound_function (declared_of l.names)) (take l.count (declared_of l.names).functions);
  faults : l.found ≡ noted l.initial.found (each_behind (function_faults (declared_of l.names)) [] (take l.count (declared_of l.names).functions));
}
