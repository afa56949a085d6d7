use Rattle.std.proofs.Common.{sym, ◌∙◌}
use Rattle.ci_lexer.proofs.Closing.{closed_more}
use Rattle.ci_lexer.proofs.comment.behind_close.Goals as goal

pub loop-left-preserved : goal.loop-left-preserved
loop-left-preserved c =
    let step = closed_more c.loop-left.left.now (sym c.is_empty.ensures ∙ c.loop-left-test.true) (sym c.closes.ensures ∙ c.if-closes.false) in
    (step.0 ∙ c.loop-left.invariant.0, λ rest closed. c.loop-left.invariant.1 rest (step.1 rest closed))
