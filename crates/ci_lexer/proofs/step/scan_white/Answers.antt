use Rattle.ci_lexer.proofs.Steps.{white_step}
use Rattle.ci_lexer.proofs.step.scan_white.Goals as goal

pub returns : goal.returns
returns c =
    let run = c.split_run.ensures in
    white_step c.args.rest.now c.split_run.result.0.now c.split_run.result.1.now c.requires run.whole run.each run.longest
