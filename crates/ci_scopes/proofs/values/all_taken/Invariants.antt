use Rattle.std.proofs.Common.{◌≡◌, map, take}
use Rattle.ci_tree.specs.declared.tree.Param.{Param}
use Rattle.ci_names.specs.Declarations.{kind_of_type, taken}
use Rattle.ci_scopes.specs.Values.{taken_of}
use Rattle.ci_scopes.proofs.values.all_taken.Given as goal

abbrev pub invariant-loop-param : goal.invariant-loop-param
invariant-loop-param l = map taken_of l.takes ≡ map (λ (p : Param). taken (kind_of_type p.kind.name) p.first) (take l.param-index l.params)
