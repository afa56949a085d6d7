use Rattle.std.proofs.Common.{ℕ, ◌<◌}
use Rattle.ci_verify.specs.Rules.{Holds}
use Rattle.ci_verify.proofs.verifier.first_broken.Given as goal

abbrev pub invariant-loop-number : goal.invariant-loop-number
invariant-loop-number l = (g o q : ℕ) → g < l.number → Holds q l.code g o
