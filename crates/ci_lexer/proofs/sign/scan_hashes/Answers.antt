use Rattle.ci_lexer.proofs.Steps.{hash_step, hash_fault}
use Rattle.ci_lexer.proofs.sign.scan_hashes.Goals as goal

pub returns-then-hashes-gt-MOST_HASHES-clause-err : goal.returns-then-hashes-gt-MOST_HASHES-clause-err
returns-then-hashes-gt-MOST_HASHES-clause-err c =
    let run = c.split_run.ensures in
    hash_fault c.args.rest.now c.split_run.result.0.now c.split_run.result.1.now c.args.at c.requires.lead run.whole run.each run.longest c.if-hashes-gt-MOST_HASHES.true

pub returns-clause-ok : goal.returns-clause-ok
returns-clause-ok c =
    let run = c.split_run.ensures in
    hash_step c.args.rest.now c.split_run.result.0.now c.split_run.result.1.now c.requires.lead run.whole run.each run.longest c.if-hashes-gt-MOST_HASHES.false
