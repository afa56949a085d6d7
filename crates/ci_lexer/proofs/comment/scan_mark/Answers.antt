use Rattle.std.proofs.Common.{length, ◌-◌, take, drop}
use Rattle.ci_lexer.specs.declared.lead.Lead.TheVariants.{Mark}
use Rattle.ci_lexer.proofs.Steps.{mark_step, first_rest}
use Rattle.ci_lexer.proofs.comment.scan_mark.Goals as goal

pub returns : goal.returns
returns c =
    let run = c.split_run.ensures in
    let s = c.args.rest.now in
    mark_step s (take (length s - 1) (drop 1 s)) c.split_run.result.0.now c.split_run.result.1.now c.requires (first_rest Mark s c.requires) run.whole run.each run.longest
