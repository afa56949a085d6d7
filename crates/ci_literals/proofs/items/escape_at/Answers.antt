use Rattle.std.proofs.Common.{◌≡◌, sym, ◌∙◌, subst, ℕ, List, ◌++◌, take, drop, length, ◌-◌, arith}
use Rattle.ci_base.specs.Texts.{IsItem}
use Rattle.ci_literals.proofs.Escaping.{hex_at, no_escape, caret_rest}
use Rattle.ci_literals.proofs.items.escape_at.Goals as goal

pub returns-then-begins_hexadecimal : goal.returns-then-begins_hexadecimal
returns-then-begins_hexadecimal c =
    let s = c.args.left.now in
    subst (λ (b : ℕ). (item : List ℕ) × IsItem item b × (s ≡ item ++ take (length s - 5) (drop 5 s))) (sym c.hexadecimal_value.ensures) (hex_at s (sym c.begins_hexadecimal.ensures ∙ c.if-begins_hexadecimal.true))

pub returns-else-left-gt1 : goal.returns-else-left-gt1
returns-else-left-gt1 c =
    let rest = caret_rest c.args.left.now c.requires in
    (rest.0, rest.1, no_escape c.args.left.now c.requires (λ long. absurd (omega arith)) (sym c.begins_hexadecimal.ensures ∙ c.if-begins_hexadecimal.false))
