use Rattle.std.proofs.Common.{ℕ, ◌<◌}
use Rattle.ci_verify.specs.Rules.{Kept}
use Rattle.ci_verify.proofs.verifier.broken_in.Given as goal

abbrev pub invariant-loop-place : goal.invariant-loop-place
invariant-loop-place l = (o q : ℕ) → o < l.place → Kept q l.code l.head l.function o
