-- Examples: a beginning of a text, and what the laws say where the first refused token is computed.
use Rattle.std.proofs.Common.{ℕ, zero, suc, [], ◌∷◌, None, refl}
use Rattle.std.specs.Prelude.{pos, false}
use Rattle.ci_tree.specs.declared.token.TokenKind.{TokenKind}
use Rattle.ci_tree.specs.declared.token.TokenKind.TheVariants.{Name, Keyword, Number, Sign}
use Rattle.ci_tree.specs.declared.token.Keyword.TheVariants as words
use Rattle.ci_tree.specs.declared.token.Sign.TheVariants as mark
use Rattle.ci_tree.specs.Tree as to
use Rattle.ci_tree.specs.Grammar as said
use Rattle.ci_tree.specs.Grammar.{Tokens}
use Rattle.ci_grammar.specs.FirstWrong.{BeginText, IsUnexpected, IsTooDeep, AreCutShort, UnexpectedIsWrong, TooDeepWantsLevel, EndIsCutShort}

-- FUNCTION main ( ) and then
abbrev begun : Tokens → Tokens
begun k = Keyword words.Function ∷ Name (1 ∷ []) ∷ Sign mark.LeftParen ∷ Sign mark.RightParen ∷ k

-- n tokens of a kind
abbrev times : ℕ → TokenKind → Tokens → Tokens
times zero t k = k
times (suc n) t k = t ∷ times n t k

-- the head of a function begins a text, which END completes
head_begins : BeginText (begun [])
head_begins = (
  Keyword words.End ∷ [],
  (
    to.function 1 (1 ∷ []) false None [] to.done ∷ [],
    record { file = said.plain_function (said.function (1 ∷ []) said.no_parameters said.end) ∷ []; within = (tt, tt); spelled = refl; means = refl },
  ),
)

-- behind a call with no `;` END is the first wrong token, however many levels may be open
call_open : UnexpectedIsWrong → IsUnexpected (begun (Name (2 ∷ []) ∷ Sign mark.LeftParen ∷ Sign mark.RightParen ∷ Keyword words.End ∷ [])) 7
call_open law = (law (begun (Name (2 ∷ []) ∷ Sign mark.LeftParen ∷ Sign mark.RightParen ∷ Keyword words.End ∷ [])) 7).0 refl

-- of 33 unary operators the last is wrong for want of a level alone
minus_too_many : TooDeepWantsLevel → IsTooDeep (begun (Name (2 ∷ []) ∷ Sign mark.Equal ∷ times 33 (Sign mark.Minus) [])) 38
minus_too_many law = (law (begun (Name (2 ∷ []) ∷ Sign mark.Equal ∷ times 33 (Sign mark.Minus) [])) 38).0 refl

-- an IF that isn't ended is cut short
if_open : EndIsCutShort → AreCutShort (begun (Keyword words.If ∷ Number (pos 1) ∷ Keyword words.Then ∷ []))
if_open law = (law (begun (Keyword words.If ∷ Number (pos 1) ∷ Keyword words.Then ∷ []))).0 refl
