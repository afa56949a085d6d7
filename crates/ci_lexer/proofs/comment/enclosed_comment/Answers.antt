use Rattle.std.proofs.Common.{refl}
use Rattle.ci_lexer.specs.Faults.FaultAt.{open_comment}
use Rattle.ci_lexer.proofs.Steps.{enclosed_step}
use Rattle.ci_lexer.proofs.comment.enclosed_comment.Goals as goal

pub returns-in-Some-clause-ok : goal.returns-in-Some-clause-ok
returns-in-Some-clause-ok c =
    enclosed_step c.args.rest.now c.args.body.now c.in-Some.behind.now c.requires c.in-Some.ensures.some

pub returns-in-None-clause-err : goal.returns-in-None-clause-err
returns-in-None-clause-err c =
    open_comment c.args.rest.now c.args.at refl (c.args.body.now, c.requires, c.in-None.ensures.none)
