use Rattle.ci_lexer.proofs.Steps.{sign_step, stray_fault}
use Rattle.ci_lexer.proofs.sign.scan_sign.Goals as goal

pub returns-in-Some-clause-ok : goal.returns-in-Some-clause-ok
returns-in-Some-clause-ok c =
    sign_step c.args.rest.now c.in-Some.behind.now c.in-Some.sign c.requires.lead c.in-Some.ensures.some

pub returns-in-None-clause-err : goal.returns-in-None-clause-err
returns-in-None-clause-err c = stray_fault c.args.rest.now c.args.at c.requires.lead c.in-None.ensures.none
