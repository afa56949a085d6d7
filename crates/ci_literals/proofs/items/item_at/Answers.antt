use Rattle.std.proofs.Common.{sym, ◌∙◌}
use Rattle.ci_literals.proofs.Escaping.{plain_at, end_at}
use Rattle.ci_literals.proofs.items.item_at.Goals as goal

pub returns-then-is_plain : goal.returns-then-is_plain
returns-then-is_plain c =
    plain_at c.args.left.now (sym c.is_empty.ensures ∙ c.if-is_empty.false) (sym c.is_plain.ensures ∙ c.if-is_plain.true)

pub returns-else-first-eq94 : goal.returns-else-first-eq94
returns-else-first-eq94 c =
    end_at c.args.left.now (sym c.is_empty.ensures ∙ c.if-is_empty.false) (sym c.is_plain.ensures ∙ c.if-is_plain.false) c.if-first-eq34.false c.if-first-eq94.false
