use Rattle.std.proofs.Common.{◌≡◌, [], map, take}
use Rattle.std.specs.List.{list_any}
use Rattle.ci_tree.specs.SeenBound.{param_of}
use Rattle.ci_names.specs.Fault.{noted}
use Rattle.ci_names.specs.Declarations.{each_behind}
use Rattle.ci_names.specs.Scopes.{with_locals, param_local}
use Rattle.ci_names.specs.Faults.{has_default, param_faults}
use Rattle.ci_names.specs.Binding.{bound_param}
use Rattle.ci_scopes.specs.Seen.{scope_of}
use Rattle.ci_binder.proofs.parameters.bound_params.Given as goal

abbrev pub invariant-loop-param : goal.invariant-loop-param
invariant-loop-param l = record {
  value : map param_of l.all ≡ map bound_param (take l.param-index l.params);
  faults : l.found ≡ noted l.initial.found (each_behind (param_faults (scope_of l.initial.scope)) [] (take l.param-index l.params));
  scope : scope_of l.scope ≡ with_locals (scope_of l.initial.scope) (map param_local (take l.param-index l.params));
  default : l.behind_default ≡ list_any has_default (take l.param-index l.params);
}
