-- What the rest of a source begins with.
use Rattle.std.specs.Prelude.{ℕ, List, [], ◌∷◌}
use Rattle.ci_tree.specs.declared.token.Token.{Token as Row}
use Rattle.ci_tree.specs.Tokens.{BlankAt, TokenAt}
use Rattle.ci_lexer.specs.declared.step.Front.{Front}
use Rattle.ci_lexer.specs.declared.step.Front.TheVariants.{Blank, Token}

-- it stands, as long as possible, at the front of s, and rest behind it
abbrev pub FrontAt : Front → List ℕ → List ℕ → Type 0
FrontAt Blank s rest = BlankAt s rest
FrontAt (Token what) s rest = TokenAt what s rest

-- the tokens that it makes at this place: one or none
abbrev pub front_tokens : Front → ℕ → List Row
front_tokens Blank at = []
front_tokens (Token what) at = record { what = what; place = at } ∷ []
