use Rattle.std.proofs.Common.{◌≡◌}
use Rattle.ci_words.specs.declared.role.Role.TheVariants as roles
use Rattle.ci_words.specs.Role.{role_at, indexes_before}
use Rattle.ci_words.proofs.order.indexes_of_plain.Given as goal

abbrev pub invariant-loop-at : goal.invariant-loop-at
invariant-loop-at l = record {
  role : l.role ≡ role_at l.command l.words l.at;
  placed : l.files ≡ indexes_before l.command l.words roles.Plain l.at;
}
