use Rattle.std.proofs.Common.{sym, ◌∙◌}
use Rattle.ci_literals.proofs.Escaping.{short_at, no_escape, caret_rest}
use Rattle.ci_literals.proofs.items.short_escape_at.Goals as goal

pub returns-in-Some : goal.returns-in-Some
returns-in-Some c =
    short_at c.args.left.now c.in-Some.value c.requires.caret c.requires.more (sym c.short_escape.ensures ∙ c.in-Some.is)

pub returns-in-None : goal.returns-in-None
returns-in-None c =
    let rest = caret_rest c.args.left.now c.requires.caret in
    (rest.0, rest.1, no_escape c.args.left.now c.requires.caret (λ _. sym c.short_escape.ensures ∙ c.in-None.is) c.requires.short)
