use Rattle.ci_source.proofs.Sourcing.{names-token, parse-told}
use Rattle.ci_source.proofs.reading.parse_file.Goals as goal

pub grammar_fault-requires-clause-named : goal.grammar_fault-requires-clause-named
grammar_fault-requires-clause-named c = rw c.tokens.ensures.value (names-token _ _ c.in-Err.ensures.err)

pub returns-in-Err-clause-err : goal.returns-in-Err-clause-err
returns-in-Err-clause-err c = parse-told _ _ _ _ _ c.requires.lexed c.in-Err.ensures.err (rw c.tokens.ensures.value at c.grammar_fault.ensures)
