use Rattle.std.proofs.Common.{◌≡◌, ◌<◌, ◌∙◌, ℕ, pos, List, [], length, set, get_or, ap, sym, arith}
use Rattle.std.proofs.lemmas.List.{with_items_is, length-set}
use Rattle.std.proofs.lemmas.Option.{slice_get_within}
use Rattle.ci_base.specs.declared.value.Value.{Value}
use Rattle.ci_base.specs.declared.value.Value.TheVariants.{Str}
use Rattle.ci_stack.specs.Places.{text_word, values}
use Rattle.ci_stack.proofs.Placing.{length-values, text_there, within_words, wrote_text}
use Rattle.ci_stack.proofs.table.Table.copy_text.Goals as goal

pub reach-requires : goal.reach-requires
reach-requires c =
    let from = within_words c.self.inside.words.items c.self.inside.texts.items c.args.self.now c.args.from c.self.view_is (slice_get_within c.args.self.now c.args.from (Str c.requires.from.0) c.requires.from.1) in
    let to = within_words c.self.inside.words.items c.self.inside.texts.items c.args.self.now c.args.to c.self.view_is c.requires.to in
    omega (arith, c.max.ensures, c.self.invariant.texts_room, c.self.invariant.places, from, to)

pub index_mut-requires : goal.index_mut-requires
index_mut-requires c = omega (arith, within_words c.self.inside.words.items c.self.inside.texts.items c.args.self.now c.args.to c.self.view_is c.requires.to)

pub returns-clause-copied : goal.returns-clause-copied
returns-clause-copied c = λ s f.
    let words = c.self.inside.words.items in
    let after = c.reach.new.texts.items in
    let long : length c.copy_between.new.texts ≡ length after = ap (λ (l : List (List ℕ)). length l) c.copy_between.ensures ∙ length-set c.as_mut_slice.result.now c.args.to _ ∙ ap (λ (l : List (List ℕ)). length l) c.as_mut_slice.ensures.value in
    let made : c.copy_between.new.texts ≡ set after c.args.to (get_or after c.args.from []) =
    c.copy_between.ensures ∙ ap (λ (l : List (List ℕ)). set l c.args.to (get_or l c.args.from [])) c.as_mut_slice.ensures.value in
    let within : c.args.to < length after = omega (arith, c.max.ensures, c.reach.ensures.within) in
    ap (λ (l : List (List ℕ)). values (set words c.args.to (pos text_word)) l) (with_items_is c.reach.new.texts c.copy_between.new.texts (omega (arith, long)) ∙ made)
    ∙ wrote_text words c.self.inside.texts.items after c.args.self.now c.args.to (get_or after c.args.from []) s c.self.view_is (c.reach.ensures.same words) within
    (text_there words after c.args.self.now c.args.from s c.self.invariant.each (c.reach.ensures.same words ∙ c.self.view_is) f)

pub returns-clause-length : goal.returns-clause-length
returns-clause-length c =
    length-values (set c.self.inside.words.items c.args.to (pos text_word)) _
    ∙ length-set c.self.inside.words.items c.args.to (pos text_word)
    ∙ sym (length-values c.self.inside.words.items c.self.inside.texts.items)
    ∙ ap (λ (l : List Value). length l) c.self.view_is
