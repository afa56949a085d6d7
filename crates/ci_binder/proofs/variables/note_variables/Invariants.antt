use Rattle.std.proofs.Common.{◌≡◌, [], take}
use Rattle.ci_names.specs.Fault.{noted}
use Rattle.ci_names.specs.Declarations.{each_behind}
use Rattle.ci_names.specs.Faults.{variable_faults}
use Rattle.ci_scopes.specs.Seen.{declared_of}
use Rattle.ci_binder.specs.Before.{counted}
use Rattle.ci_binder.proofs.variables.note_variables.Given as goal

abbrev pub invariant-loop-count : goal.invariant-loop-count
invariant-loop-count l = record {
  faults : l.found ≡ noted l.initial.found (each_behind (variable_faults (declared_of l.names)) [] (take l.count (declared_of l.names).variables));
  cells : l.cells ≡ counted (take l.count (declared_of l.names).variables);
}
