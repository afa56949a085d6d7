use Rattle.ci_lexer.proofs.Steps.{slashed_step}
use Rattle.ci_lexer.proofs.comment.line_comment.Goals as goal

pub returns : goal.returns
returns c =
    let run = c.split_run.ensures in
    slashed_step c.args.rest.now c.args.body.now c.split_run.result.0.now c.split_run.result.1.now c.requires run.whole run.each run.longest
