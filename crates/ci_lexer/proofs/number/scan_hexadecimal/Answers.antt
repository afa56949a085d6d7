use Rattle.std.proofs.Common.{◌≡◌, ◌+◌, ◌<◌, ◌≤◌, length, take, sym, subst₂, MatchOption}
use Rattle.ci_lexer.proofs.Closing.{IsSplit, hexadecimal_split, split_value, split_limit}
use Rattle.ci_lexer.proofs.number.scan_hexadecimal.Goals as goal
use Rattle.ci_lexer.proofs.number.scan_hexadecimal.Goals.{After-split_run}

split : (c : After-split_run) → IsSplit c.args.rest.now c.split_run.result.0.now c.split_run.result.1.now (take (2 + length c.split_run.result.0.now) c.args.rest.now)
split c =
    let run = c.split_run.ensures in
    hexadecimal_split c.args.rest.now c.split_run.result.0.now c.split_run.result.1.now c.requires.start run.whole run.each run.longest

pub number-requires-clause-longest : goal.number-requires-clause-longest
number-requires-clause-longest c = (split (goal.at.number-requires-clause-longest c).After-split_run).longest

pub number-requires-clause-value : goal.number-requires-clause-value
number-requires-clause-value c =
    let is = split (goal.at.number-requires-clause-value c).After-split_run in
    subst₂ (λ limit value. MatchOption c.value_of-value.result (limit < value) (λ n. (n ≡ value) × (n ≤ limit))) (sym (split_limit is)) (sym (split_value is)) c.value_of-value.ensures
