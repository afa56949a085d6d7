-- The table of words in two parts.
use Rattle.std.specs.Prelude.{ℕ, pos, List, [], ◌∷◌, Option, find, option_map, codes, bytes_eq}
use Rattle.std.specs.Borrow.{Bor}
use Rattle.ci_tree.specs.declared.token.Keyword.{Keyword}
use Rattle.ci_tree.specs.declared.token.TokenKind.{TokenKind}
use Rattle.ci_tree.specs.declared.token.TokenKind.TheVariants.{Number}

-- the first of these keywords that a word spells
unfoldable pub spelled : List ℕ → List (Bor (List ℕ) × Keyword) → Option Keyword
spelled word keywords = option_map (λ row. row.1) (find (λ row. bytes_eq word row.0.now) keywords)

-- the words that make numbers
abbrev pub truth_values : List (List ℕ × TokenKind)
truth_values = (codes "TRUE", Number (pos 1)) ∷ (codes "FALSE", Number (pos 0)) ∷ []
