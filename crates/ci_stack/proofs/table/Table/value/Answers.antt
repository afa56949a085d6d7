use Rattle.std.proofs.Common.{arith}
use Rattle.ci_stack.proofs.Placing.{within_words, word_at, is_text_there, is_number_there, marked, unmarked}
use Rattle.ci_stack.proofs.table.Table.value.Goals as goal

pub index-requires : goal.index-requires
index-requires c = omega (arith, within_words c.self.inside.words.items c.self.inside.texts.items c.args.self.now c.args.place c.self.view_is c.requires)

pub text_of-requires : goal.text_of-requires
text_of-requires c =
    is_text_there c.self.inside.words.items c.self.inside.texts.items c.args.self.now c.args.place c.index.result.now c.self.view_is c.requires c.index.ensures
    (marked c.index.result.now (word_at c.self.inside.words.items c.self.inside.texts.items c.args.self.now c.args.place c.index.result.now c.self.invariant.each c.self.view_is c.requires c.index.ensures) c.if-index-eq-TEXT.true)

pub number-requires : goal.number-requires
number-requires c =
    is_number_there c.self.inside.words.items c.self.inside.texts.items c.args.self.now c.args.place c.index.result.now c.self.invariant.each c.self.view_is c.requires c.index.ensures
    (unmarked c.index.result.now c.if-index-eq-TEXT.false)
