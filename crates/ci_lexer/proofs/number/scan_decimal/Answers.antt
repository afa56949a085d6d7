use Rattle.ci_lexer.proofs.Closing.{decimal_number, decimal_longest}
use Rattle.ci_lexer.proofs.number.scan_decimal.Goals as goal

pub number-requires-clause-number : goal.number-requires-clause-number
number-requires-clause-number c =
    let run = c.split_run.ensures in
    decimal_number c.args.rest.now c.split_run.result.0.now c.split_run.result.1.now c.requires.lead run.whole run.each run.longest

pub number-requires-clause-longest : goal.number-requires-clause-longest
number-requires-clause-longest c =
    let run = c.split_run.ensures in
    decimal_longest c.args.rest.now c.split_run.result.0.now c.split_run.result.1.now c.requires.lead run.whole run.each run.longest c.requires.no_start
