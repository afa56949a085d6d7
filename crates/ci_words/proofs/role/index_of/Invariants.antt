use Rattle.std.proofs.Common.{◌≡◌}
use Rattle.ci_words.specs.Role.{role_at, index_before}
use Rattle.ci_words.proofs.role.index_of.Given as goal

abbrev pub invariant-loop-at : goal.invariant-loop-at
invariant-loop-at l = record {
  role : l.current ≡ role_at l.command l.words l.at;
  placed : l.index ≡ index_before l.command l.words l.role l.at;
}
