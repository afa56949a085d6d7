use Rattle.std.proofs.Common.{◌≡◌, ◌≤◌}
use Rattle.ci_words.specs.Role.{role_at, count_before}
use Rattle.ci_words.proofs.role.count_before.Given as goal

abbrev pub invariant-loop-at : goal.invariant-loop-at
invariant-loop-at l = record {
  role : l.current ≡ role_at l.command l.words l.at;
  counted : l.count ≡ count_before l.command l.words l.role l.at;
  below : l.count ≤ l.at;
}
