use Rattle.std.proofs.Common.{◌∙◌, ap, sym, Some, List, [], ℕ, arith}
use Rattle.ci_base.specs.declared.value.Value.TheVariants.{Str}
use Rattle.ci_stack.proofs.Placing.{text_there, same_text, no_text}
use Rattle.ci_stack.proofs.table.Table.text.Goals as goal

pub returns-then-place-len-clause-value : goal.returns-then-place-len-clause-value
returns-then-place-len-clause-value c =
    c.requires.1
    ∙ ap (λ (s : List ℕ). Some (Str s)) (sym (text_there c.self.inside.words.items c.self.inside.texts.items c.args.self.now c.args.place c.requires.0 c.self.invariant.each c.self.view_is c.requires.1))
    ∙ ap (λ (s : List ℕ). Some (Str s)) (same_text c.self.inside.texts.items c.args.place [] c.index.result.now (omega (arith, c.if-place-len.true, c.len.ensures)) ∙ sym c.index.ensures ∙ sym c.bytes.ensures.value)

pub returns-else-place-len-clause-value : goal.returns-else-place-len-clause-value
returns-else-place-len-clause-value c =
    c.requires.1
    ∙ ap (λ (s : List ℕ). Some (Str s)) (sym (text_there c.self.inside.words.items c.self.inside.texts.items c.args.self.now c.args.place c.requires.0 c.self.invariant.each c.self.view_is c.requires.1))
    ∙ ap (λ (s : List ℕ). Some (Str s)) (no_text c.self.inside.texts.items c.args.place (omega (arith, c.if-place-len.false, c.len.ensures)))
