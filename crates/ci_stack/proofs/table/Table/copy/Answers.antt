use Rattle.std.proofs.Common.{◌∙◌, set, ap, sym, length, List, arith, w64, to_z, of_z}
use Rattle.std.proofs.lemmas.List.Elements.{All-set}
use Rattle.std.proofs.lemmas.List.{length-set}
use Rattle.ci_base.specs.declared.value.Value.{Value}
use Rattle.ci_stack.specs.Places.{IsWord}
use Rattle.ci_stack.proofs.Placing.{length-values, within_words, word_at, is_word_copied, is_text_there, marked, copied_word, copied_text}
use Rattle.ci_stack.proofs.table.Table.copy.Goals as goal

pub index-word-requires : goal.index-word-requires
index-word-requires c = omega (arith, within_words c.self.inside.words.items c.self.inside.texts.items c.args.self.now c.args.from c.self.view_is c.requires.from)

pub index_mut-requires : goal.index_mut-requires
index_mut-requires c = omega (arith, within_words c.self.inside.words.items c.self.inside.texts.items c.args.self.now c.args.to c.self.view_is c.requires.to)

pub copy_text-requires-clause-from : goal.copy_text-requires-clause-from
copy_text-requires-clause-from c =
    is_text_there c.self.inside.words.items c.self.inside.texts.items c.args.self.now c.args.from c.index-word.result.now c.self.view_is c.requires.from c.index-word.ensures
    (marked c.index-word.result.now (word_at c.self.inside.words.items c.self.inside.texts.items c.args.self.now c.args.from c.index-word.result.now c.self.invariant.each c.self.view_is c.requires.from c.index-word.ensures) c.if-word-eq-TEXT.true)

pub invariant_of-self : goal.invariant_of-self
invariant_of-self c = record {
  places = length-set c.self.inside.words.items c.args.to (to_z w64 (of_z w64 c.index-word.result.now)) ∙ c.self.invariant.places;
  each = All-set IsWord c.self.inside.words.items c.args.to (to_z w64 (of_z w64 c.index-word.result.now))
      (is_word_copied c.self.inside.words.items c.self.inside.texts.items c.args.self.now c.args.from c.index-word.result.now c.self.invariant.each c.self.view_is c.requires.from c.index-word.ensures)
      c.self.invariant.each;
  texts_room = c.self.invariant.texts_room;
}

pub returns-then-word-eq-TEXT-clause-copied : goal.returns-then-word-eq-TEXT-clause-copied
returns-then-word-eq-TEXT-clause-copied c = λ v f. copied_text c.args.self.now c.copy_text.new.self c.args.from c.args.to v
    (is_text_there c.self.inside.words.items c.self.inside.texts.items c.args.self.now c.args.from c.index-word.result.now c.self.view_is c.requires.from c.index-word.ensures
    (marked c.index-word.result.now (word_at c.self.inside.words.items c.self.inside.texts.items c.args.self.now c.args.from c.index-word.result.now c.self.invariant.each c.self.view_is c.requires.from c.index-word.ensures) c.if-word-eq-TEXT.true))
    c.copy_text.ensures.copied f

pub returns-else-word-eq-TEXT-clause-copied : goal.returns-else-word-eq-TEXT-clause-copied
returns-else-word-eq-TEXT-clause-copied c = λ v f. copied_word c.self.inside.words.items c.self.inside.texts.items c.args.self.now c.args.from c.args.to c.index-word.result.now v c.self.invariant.each c.self.view_is c.index-word.ensures c.if-word-eq-TEXT.false f

pub returns-else-word-eq-TEXT-clause-length : goal.returns-else-word-eq-TEXT-clause-length
returns-else-word-eq-TEXT-clause-length c =
    length-values (set c.self.inside.words.items c.args.to (to_z w64 (of_z w64 c.index-word.result.now))) c.self.inside.texts.items
    ∙ length-set c.self.inside.words.items c.args.to (to_z w64 (of_z w64 c.index-word.result.now))
    ∙ sym (length-values c.self.inside.words.items c.self.inside.texts.items)
    ∙ ap (λ (l : List Value). length l) c.self.view_is
