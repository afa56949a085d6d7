-- The words that are no names.
use Rattle.std.specs.Prelude.{ℕ, pos, List, [], ◌∷◌, map, Option, Some, None, codes, bytes_eq, if◌then◌else◌}
use Rattle.ci_base.specs.Letters.{capital}
use Rattle.ci_tree.specs.declared.token.TokenKind.{TokenKind}
use Rattle.ci_tree.specs.declared.token.TokenKind.TheVariants.{Number, Keyword as keyword}
use Rattle.ci_tree.specs.declared.token.Keyword.TheVariants as words

-- a word in capitals, and the token that it makes
unfoldable pub table : List (List ℕ × TokenKind)
table =
    (codes "FUNCTION", keyword words.Function)
    ∷ (codes "END", keyword words.End)
    ∷ (codes "IF", keyword words.If)
    ∷ (codes "THEN", keyword words.Then)
    ∷ (codes "ELSE", keyword words.Else)
    ∷ (codes "WHILE", keyword words.While)
    ∷ (codes "DO", keyword words.Do)
    ∷ (codes "FOR", keyword words.For)
    ∷ (codes "TO", keyword words.To)
    ∷ (codes "SELECT", keyword words.Select)
    ∷ (codes "CASE", keyword words.Case)
    ∷ (codes "IS", keyword words.Is)
    ∷ (codes "RETURN", keyword words.Return)
    ∷ (codes "PRIVATE", keyword words.Private)
    ∷ (codes "PUBLIC", keyword words.Public)
    ∷ (codes "GLOBAL", keyword words.Global)
    ∷ (codes "MODULE", keyword words.Module)
    ∷ (codes "INT", keyword words.Int)
    ∷ (codes "STRING", keyword words.String)
    ∷ (codes "REAL", keyword words.Real)
    ∷ (codes "OBJECT", keyword words.Object)
    ∷ (codes "QUALITY", keyword words.Quality)
    ∷ (codes "TIMESTAMP", keyword words.Timestamp)
    ∷ (codes "AND", keyword words.And)
    ∷ (codes "OR", keyword words.Or)
    ∷ (codes "NOT", keyword words.Not)
    ∷ (codes "MOD", keyword words.Mod)
    ∷ (codes "BITAND", keyword words.BitAnd)
    ∷ (codes "BITOR", keyword words.BitOr)
    ∷ (codes "BITXOR", keyword words.BitXor)
    ∷ (codes "TRUE", Number (pos 1))
    ∷ (codes "FALSE", Number (pos 0))
    ∷ []

-- what stands beside a word in a table
abbrev pub look_up : List (List ℕ × TokenKind) → List ℕ → Option TokenKind
look_up [] word = None
look_up (row ∷ rows) word = if bytes_eq word row.0 then Some row.1 else look_up rows word

-- the token that a word of any letter case makes, where it is no name
unfoldable pub reserved : List ℕ → Option TokenKind
reserved word = look_up table (map capital word)
