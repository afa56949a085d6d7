-- What a fault of the parser says to who reads it.
use Rattle.ci_expressions.specs.declared.fault.ParseFault.{ParseFault}
use Rattle.ci_expressions.specs.declared.fault.ParseFault.TheVariants as faults
use Rattle.ci_tree.specs.Grammar.{Tokens}
use Rattle.ci_parser.specs.Refusals.{IsRefusal}
use Rattle.ci_grammar.specs.FirstWrong.{IsUnexpected, IsTooDeep, AreCutShort}

-- what is wrong with the tokens; want of memory says nothing
abbrev pub IsExplained : Tokens → ParseFault → Type 0
IsExplained tokens (faults.Unexpected at) = IsUnexpected tokens at
IsExplained tokens faults.UnexpectedEnd = AreCutShort tokens
IsExplained tokens (faults.TooDeep at) = IsTooDeep tokens at
IsExplained tokens faults.Memory = Unit {0}

-- The law: what the parser's contract says of a fault explains it.
abbrev pub FaultsAreExplained : Type 0
FaultsAreExplained = (tokens : Tokens) (fault : ParseFault) → IsRefusal tokens fault → IsExplained tokens fault
