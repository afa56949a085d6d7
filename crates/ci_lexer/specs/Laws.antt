-- One reading for each source.
use Rattle.std.specs.Prelude.{◌≡◌, ℕ, List, ◌⊎◌}
use Rattle.ci_tree.specs.declared.token.Token.{Token}
use Rattle.ci_tree.specs.Tokens.{tokens}
use Rattle.ci_lexer.specs.declared.fault.LexFault.{LexFault}
use Rattle.ci_lexer.specs.Faults.{lex_fault}

-- each source has tokens or a fault
abbrev pub HasReading : Type 0
HasReading = (source : List ℕ) → ((ts : List Token) × tokens source ts) ⊎ ((fault : LexFault) × lex_fault source fault)

-- no source has two lists of tokens
abbrev pub HasOneList : Type 0
HasOneList = (source : List ℕ) (ts us : List Token) → tokens source ts → tokens source us → ts ≡ us

-- no source has two faults
abbrev pub HasOneFault : Type 0
HasOneFault = (source : List ℕ) (fault other : LexFault) → lex_fault source fault → lex_fault source other → fault ≡ other

-- no source has both
abbrev pub NeverBoth : Type 0
NeverBoth = (source : List ℕ) (ts : List Token) (fault : LexFault) → tokens source ts → lex_fault source fault → ⊥
