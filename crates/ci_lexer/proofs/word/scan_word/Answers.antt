use Rattle.ci_lexer.proofs.Steps.{word_name, word_step, word_fault}
use Rattle.ci_lexer.proofs.word.scan_word.Goals as goal

pub word_token-requires : goal.word_token-requires
word_token-requires c =
    let run = c.split_run.ensures in
    word_name c.args.rest.now c.split_run.result.0.now c.split_run.result.1.now c.requires.lead run.whole run.each run.longest

pub returns-in-Ok-clause-ok : goal.returns-in-Ok-clause-ok
returns-in-Ok-clause-ok c =
    let run = c.split_run.ensures in
    word_step c.args.rest.now c.split_run.result.0.now c.split_run.result.1.now c.in-Ok.what c.requires.lead run.whole run.each run.longest c.in-Ok.ensures.ok

pub returns-in-Err-clause-err : goal.returns-in-Err-clause-err
returns-in-Err-clause-err c = λ other.
    let run = c.split_run.ensures in
    let found = c.in-Err.ensures.err other in
    rw found.0 (word_fault c.args.rest.now c.split_run.result.0.now c.split_run.result.1.now c.args.at c.requires.lead run.whole run.each run.longest found.1)
