use Rattle.std.proofs.Common.{◌≡◌, map, take}
use Rattle.ci_emit.proofs.functions.param_kinds.Given as goal

abbrev pub invariant-loop-param : goal.invariant-loop-param
invariant-loop-param l = l.kinds.items ≡ map (λ p. p.kind) (take l.param-index l.params)
