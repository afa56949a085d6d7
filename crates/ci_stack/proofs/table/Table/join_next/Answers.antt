use Rattle.std.proofs.Common.{◌≡◌, ◌<◌, ◌+◌, ◌++◌, ◌∙◌, ℕ, List, [], length, set, get_or, Some, ap, sym, arith}
use Rattle.std.proofs.lemmas.List.{with_items_is, length-set, append-nil}
use Rattle.std.proofs.lemmas.Option.{slice_get_within}
use Rattle.ci_base.specs.declared.value.Value.{Value}
use Rattle.ci_base.specs.declared.value.Value.TheVariants.{Str}
use Rattle.ci_stack.specs.Places.{values}
use Rattle.ci_stack.proofs.Placing.{length-values, text_there, no_text, changed_text, same_set, within_words}
use Rattle.ci_stack.proofs.table.Table.join_next.Goals as goal

pub overflow_add-behind : goal.overflow_add-behind
overflow_add-behind c = omega (arith, c.self.invariant.places, within_words c.self.inside.words.items c.self.inside.texts.items c.args.self.now c.args.place c.self.view_is (slice_get_within c.args.self.now c.args.place (Str c.requires.0) c.requires.2))

pub join_next-requires-clause-short : goal.join_next-requires-clause-short
join_next-requires-clause-short c =
    let first : get_or c.as_mut_slice.result.now c.args.place [] ≡ c.requires.0 = ap (λ (l : List (List ℕ)). get_or l c.args.place []) c.as_mut_slice.ensures.value ∙ text_there c.self.inside.words.items c.self.inside.texts.items c.args.self.now c.args.place c.requires.0 c.self.invariant.each c.self.view_is c.requires.2 in
    let second : get_or c.as_mut_slice.result.now (c.args.place + 1) [] ≡ c.requires.1 = ap (λ (l : List (List ℕ)). get_or l (c.args.place + 1) []) c.as_mut_slice.ensures.value ∙ text_there c.self.inside.words.items c.self.inside.texts.items c.args.self.now (c.args.place + 1) c.requires.1 c.self.invariant.each c.self.view_is c.requires.3 in
    omega (arith, ap (λ (t : List ℕ). length t) first, ap (λ (t : List ℕ). length t) second, c.requires.4)

pub returns-then-behind-len-clause-joined : goal.returns-then-behind-len-clause-joined
returns-then-behind-len-clause-joined c = λ a b f g.
    let texts = c.self.inside.texts.items in
    let place = c.args.place in
    let within : place < length texts = omega (arith, c.if-behind-len.true, c.len.ensures) in
    let long : length c.join_next.new.texts ≡ length texts = ap (λ (l : List (List ℕ)). length l) c.join_next.ensures ∙ length-set c.as_mut_slice.result.now place _ ∙ ap (λ (l : List (List ℕ)). length l) c.as_mut_slice.ensures.value in
    let made : c.join_next.new.texts ≡ set texts place (a ++ b) =
    c.join_next.ensures
    ∙ ap (λ (l : List (List ℕ)). set l place (get_or l place [] ++ get_or l (place + 1) [])) c.as_mut_slice.ensures.value
    ∙ ap (λ (t : List ℕ). set texts place (t ++ get_or texts (place + 1) [])) (text_there c.self.inside.words.items texts c.args.self.now place a c.self.invariant.each c.self.view_is f)
    ∙ ap (λ (t : List ℕ). set texts place (a ++ t)) (text_there c.self.inside.words.items texts c.args.self.now (place + 1) b c.self.invariant.each c.self.view_is g) in
    ap (λ (l : List (List ℕ)). values c.self.inside.words.items l) (with_items_is c.self.inside.texts c.join_next.new.texts (omega (arith, long)) ∙ made)
    ∙ changed_text c.self.inside.words.items texts c.args.self.now place a (a ++ b) c.self.invariant.each c.self.view_is f within

pub returns-then-behind-len-clause-length : goal.returns-then-behind-len-clause-length
returns-then-behind-len-clause-length c =
    length-values c.self.inside.words.items _
    ∙ sym (length-values c.self.inside.words.items c.self.inside.texts.items)
    ∙ ap (λ (l : List Value). length l) c.self.view_is

pub returns-else-behind-len-clause-joined : goal.returns-else-behind-len-clause-joined
returns-else-behind-len-clause-joined c = λ a b f g.
    let none : b ≡ [] = sym (text_there c.self.inside.words.items c.self.inside.texts.items c.args.self.now (c.args.place + 1) b c.self.invariant.each c.self.view_is g) ∙ no_text c.self.inside.texts.items (c.args.place + 1) (omega (arith, c.if-behind-len.false, c.len.ensures)) in
    let same : a ≡ a ++ b = sym (append-nil a) ∙ ap (λ (t : List ℕ). a ++ t) (sym none) in
    sym (same_set c.args.self.now c.args.place (Str (a ++ b)) (f ∙ ap (λ (t : List ℕ). Some (Str t)) same))
