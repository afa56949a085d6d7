use Rattle.std.proofs.Common.{◌≡◌, replicate}
use Rattle.ci_builtin.proofs.numbers.padded.Given as goal

abbrev pub invariant-loop-space : goal.invariant-loop-space
invariant-loop-space l = l.kept.items ≡ replicate l._space 32
