-- The tree of a source, and why it has none.
use Rattle.std.specs.Prelude.{◌≡◌, ℕ, List, length, Option, None, Some, option_map, slice_get}
use Rattle.ci_lexer.specs.declared.fault.LexFault.{LexFault}
use Rattle.ci_lexer.specs.declared.fault.LexFault.TheVariants as lex_faults
use Rattle.ci_lexer.specs.Faults.{lex_fault}
use Rattle.ci_expressions.specs.Gives.{kinds}
use Rattle.ci_source.specs.declared.fault.Fault.{Fault}
use Rattle.ci_source.specs.declared.fault.Fault.TheVariants as faults
use Rattle.ci_tree.specs.declared.token.Token.{Token}
use Rattle.ci_tree.specs.Grammar.{derives}
use Rattle.ci_tree.specs.Refused.{Refusal, unexpected, unexpected_end, too_deep, refused_at}
use Rattle.ci_tree.specs.Tokens.{tokens}
use Rattle.ci_tree.specs.Tree.{Item}

-- the tree that the tokens of the source spell
pub record Parses (source : List ℕ) (tree : List Item) : Type 0 where
  pub ts : List Token
  pub tokens_are : tokens source ts
  pub derived : derives (kinds ts) tree

-- a lexical fault, and the offset at which it is told
abbrev pub lexical_fault : LexFault → Option (Fault × ℕ)
lexical_fault (lex_faults.StrayByte at) = Some (faults.StrayByte, at)
lexical_fault (lex_faults.OpenString at) = Some (faults.OpenString, at)
lexical_fault (lex_faults.OpenComment at) = Some (faults.OpenComment, at)
lexical_fault (lex_faults.BadEscape at) = Some (faults.BadEscape, at)
lexical_fault (lex_faults.NumberTooLarge at) = Some (faults.NumberTooLarge, at)
lexical_fault (lex_faults.TextTooLong at) = Some (faults.TextTooLong, at)
lexical_fault (lex_faults.NameTooLong at) = Some (faults.NameTooLong, at)
lexical_fault lex_faults.Memory = None

-- a refused token, and the offset at which it is told: its own, or the end of the source
abbrev pub grammar_fault : List ℕ → List Token → Refusal → Option (Fault × ℕ)
grammar_fault source ts (unexpected i) = option_map (λ t. (faults.UnexpectedToken, t.place)) (slice_get ts i)
grammar_fault source ts unexpected_end = Some (faults.UnexpectedEnd, length source)
grammar_fault source ts (too_deep i) = option_map (λ t. (faults.NestingTooDeep, t.place)) (slice_get ts i)

-- the source has no tokens
pub record HasLexicalFault (source : List ℕ) (fault : Fault) (offset : ℕ) : Type 0 where
  pub refused : LexFault
  pub holds : lex_fault source refused
  pub told : lexical_fault refused ≡ Some (fault, offset)

-- its tokens have no tree
pub record HasGrammarFault (source : List ℕ) (fault : Fault) (offset : ℕ) : Type 0 where
  pub ts : List Token
  pub tokens_are : tokens source ts
  pub refused : Refusal
  pub holds : refused_at (kinds ts) ≡ Some refused
  pub told : grammar_fault source ts refused ≡ Some (fault, offset)
