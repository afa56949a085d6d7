-- What the first refused token means to who reads it: the tokens in front of it can still become a text of the grammar,
-- and with it they can't. In the field's terms, reading has the property of correct prefixes.
use Rattle.std.specs.Prelude.{◌≡◌, ◌<◌, ◌↔◌, ℕ, suc, List, ◌++◌, length, take, Some}
use Rattle.ci_tree.specs.Tree.{Item}
use Rattle.ci_tree.specs.Tokens.{IsKept}
use Rattle.ci_tree.specs.Grammar.{Tokens, Definition, AreAll, IsDefinition, spell_file, derives, nesting}
use Rattle.ci_tree.specs.Refused.{refused_at, unexpected, unexpected_end, too_deep}

-- The tokens are a text of the grammar.
abbrev pub AreText : Tokens → Type 0
AreText tokens = (tree : List Item) × derives tokens tree

-- The tokens begin a text of the grammar: with some more behind them, or with none, they are one.
abbrev pub BeginText : Tokens → Type 0
BeginText tokens = (more : Tokens) × AreText (tokens ++ more)

-- The same where so many levels may be open at once, in place of 32.
abbrev pub AreTextWithin : ℕ → Tokens → Type 0
AreTextWithin levels tokens = (file : List Definition) × AreAll (IsDefinition levels) file × (tokens ≡ spell_file file)

abbrev pub BeginTextWithin : ℕ → Tokens → Type 0
BeginTextWithin levels tokens = (more : Tokens) × AreTextWithin levels (tokens ++ more)

-- The token of this index is the first that is wrong.
pub record IsFirstWrong (tokens : Tokens) (at : ℕ) : Type 0 where
  pub is_there : at < length tokens
  -- the tokens before it begin a text
  pub before : BeginText (take at tokens)
  -- with it they begin none
  pub with_it : ¬ BeginText (take (suc at) tokens)

-- The first wrong token is wrong at any depth: it would be so however many levels may be open.
pub record IsUnexpected (tokens : Tokens) (at : ℕ) : Type 0 where
  pub first_wrong : IsFirstWrong tokens at
  pub at_any_depth : (levels : ℕ) → ¬ BeginTextWithin levels (take (suc at) tokens)

-- The first wrong token is wrong for want of a level alone: with one more it would be right.
pub record IsTooDeep (tokens : Tokens) (at : ℕ) : Type 0 where
  pub first_wrong : IsFirstWrong tokens at
  pub one_deeper : BeginTextWithin (suc nesting) (take (suc at) tokens)

-- No token is wrong, but some are missing at the end.
pub record AreCutShort (tokens : Tokens) : Type 0 where
  pub begin : BeginText tokens
  pub unfinished : ¬ AreText tokens

-- The laws: each refusal is given exactly where this holds.
abbrev pub UnexpectedIsWrong : Type 0
UnexpectedIsWrong = (tokens : Tokens) (at : ℕ) → (refused_at tokens ≡ Some (unexpected at)) ↔ IsUnexpected tokens at

abbrev pub TooDeepWantsLevel : Type 0
TooDeepWantsLevel = (tokens : Tokens) (at : ℕ) → (refused_at tokens ≡ Some (too_deep at)) ↔ IsTooDeep tokens at

abbrev pub EndIsCutShort : Type 0
EndIsCutShort = (tokens : Tokens) → (refused_at tokens ≡ Some unexpected_end) ↔ AreCutShort tokens

-- What begins a text becomes one also by tokens that a source can have, each within what its kind asks.
abbrev pub CompletionIsSpelled : Type 0
CompletionIsSpelled = (tokens : Tokens) → BeginText tokens → (more : Tokens) × AreAll IsKept more × AreText (tokens ++ more)
