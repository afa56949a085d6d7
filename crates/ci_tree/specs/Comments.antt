-- What stands between tokens.
use Rattle.std.specs.Prelude.{◌≡◌, ℕ, Bool, false, not, ◌&&◌, ◌||◌, List, [], ◌∷◌, ◌++◌, ◌==◌, IsTrue}
use Rattle.std.specs.List.{list_all}
use Rattle.ci_base.specs.Letters.{is_white, is_line_end, is_run}

-- a byte of a comment that ends with its line
unfoldable pub is_inline : ℕ → Bool
is_inline b = not (is_line_end b)

-- `*/` stands somewhere
abbrev pub has_close : List ℕ → Bool
has_close [] = false
has_close (star ∷ []) = false
has_close (star ∷ slash ∷ s) = (star == 42 && slash == 47) || has_close (slash ∷ s)

-- white space, or a comment
pub data IsBlank : List ℕ → Type 0 where
  white : (s : List ℕ) → IsTrue (is_run is_white s) → IsBlank s
  -- behind `!`
  marked : (body : List ℕ) → IsTrue (list_all is_inline body) → IsBlank (33 ∷ body)
  -- behind `//`
  slashed : (body : List ℕ) → IsTrue (list_all is_inline body) → IsBlank (47 ∷ 47 ∷ body)
  -- between `/*` and the next `*/`
  enclosed : (body : List ℕ) → has_close body ≡ false → IsBlank (47 ∷ 42 ∷ body ++ 42 ∷ 47 ∷ [])

-- a comment that `/*` opens and nothing closes
abbrev pub IsOpenComment : List ℕ → Type 0
IsOpenComment s = (body : List ℕ) × (s ≡ 47 ∷ 42 ∷ body) × (has_close body ≡ false)
