use Rattle.std.proofs.Common.{map, sym, ap, ◌∙◌, take_all}
use Rattle.ci_base.specs.Letters.{capital}
use Rattle.ci_tree.specs.Words.{look_up, reserved, table}
use Rattle.ci_lexer.proofs.Words.{none_long}
use Rattle.ci_lexer.proofs.word.reserved.Goals as goal

pub returns-then-word-gt9 : goal.returns-then-word-gt9
returns-then-word-gt9 c = sym (none_long c.args.word.now c.if-word-gt9.true)

pub returns : goal.returns
unfolding reserved
returns c =
    c.look_up.ensures ∙ ap (look_up table) (c.as_slice.ensures.value ∙ c.loop-b.invariant ∙ ap (map capital) (take_all c.loop-b.b-index c.args.word.now c.loop-b-test.false))
