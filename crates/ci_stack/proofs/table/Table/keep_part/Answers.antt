use Rattle.std.proofs.Common.{◌≡◌, ◌<◌, ◌∙◌, ℕ, zero, suc, List, [], length, take, drop, set, Some, refl, ap, sym, arith}
use Rattle.ci_base.specs.declared.value.Value.{Value}
use Rattle.ci_base.specs.declared.value.Value.TheVariants.{Str}
use Rattle.ci_stack.proofs.Placing.{length-values, text_there, same_text, no_text, changed_text, same_set}
use Rattle.ci_stack.proofs.table.Table.keep_part.Goals as goal

pub returns-then-place-len-clause-kept : goal.returns-then-place-len-clause-kept
returns-then-place-len-clause-kept c = λ s f.
    let within : c.args.place < length c.self.inside.texts.items = omega (arith, c.if-place-len.true, c.len.ensures) in
    let there : c.index_mut.result.now ≡ s = c.index_mut.ensures.value ∙ sym (same_text c.self.inside.texts.items c.args.place [] c.index_mut.result.now within) ∙ text_there c.self.inside.words.items c.self.inside.texts.items c.args.self.now c.args.place s c.self.invariant.each c.self.view_is f in
    changed_text c.self.inside.words.items c.self.inside.texts.items c.args.self.now c.args.place s c.keep_part.new.self c.self.invariant.each c.self.view_is f within
    ∙ ap (λ (t : List ℕ). set c.args.self.now c.args.place (Str t)) (c.keep_part.ensures ∙ ap (λ (t : List ℕ). take c.args.count (drop c.args.from t)) there)

pub returns-then-place-len-clause-length : goal.returns-then-place-len-clause-length
returns-then-place-len-clause-length c =
    length-values c.self.inside.words.items (set c.self.inside.texts.items c.args.place c.keep_part.new.self)
    ∙ sym (length-values c.self.inside.words.items c.self.inside.texts.items)
    ∙ ap (λ (l : List Value). length l) c.self.view_is

pub returns-else-place-len-clause-kept : goal.returns-else-place-len-clause-kept
returns-else-place-len-clause-kept c = λ s f.
    let none : s ≡ [] = sym (text_there c.self.inside.words.items c.self.inside.texts.items c.args.self.now c.args.place s c.self.invariant.each c.self.view_is f) ∙ no_text c.self.inside.texts.items c.args.place (omega (arith, c.if-place-len.false, c.len.ensures)) in
    let nothing : s ≡ take c.args.count (drop c.args.from s) = none ∙ sym (ap (λ (t : List ℕ). take c.args.count (drop c.args.from t)) none ∙ no_part c.args.from c.args.count) in
    sym (same_set c.args.self.now c.args.place (Str (take c.args.count (drop c.args.from s))) (f ∙ ap (λ (t : List ℕ). Some (Str t)) nothing))
  where
    empty : List ℕ
    empty = []

    no_part : (from count : ℕ) → take count (drop from empty) ≡ empty
    no_part zero zero = refl
    no_part zero (suc count) = refl
    no_part (suc from) zero = refl
    no_part (suc from) (suc count) = refl
