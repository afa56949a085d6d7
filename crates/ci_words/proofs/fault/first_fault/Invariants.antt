use Rattle.std.proofs.Common.{◌≡◌, ℕ, ◌<◌}
use Rattle.ci_words.specs.Role.{role_at}
use Rattle.ci_words.specs.Fault.{IsFreeAt}
use Rattle.ci_words.proofs.fault.first_fault.Given as goal

abbrev pub invariant-loop-at : goal.invariant-loop-at
invariant-loop-at l = record {
  role : l.role ≡ role_at l.command l.words l.at;
  free : (before : ℕ) → before < l.at → IsFreeAt l.command l.words before;
}
