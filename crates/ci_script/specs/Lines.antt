-- The lines of a script.
use Rattle.std.specs.Prelude.{ℕ, ◌-◌, ◌&&◌, ◌==◌, List, [], ◌∷◌, length, take, slice_index, if◌then◌else◌}
use Rattle.ci_base.specs.Letters.{begins}

-- one byte more before the first line
abbrev pub before_first : ℕ → List (List ℕ) → List (List ℕ)
before_first b [] = (b ∷ []) ∷ []
before_first b (l ∷ ls) = (b ∷ l) ∷ ls

-- Each line ends with LF, or with the script; a CR right before an LF belongs to neither.
unfoldable pub lines : List ℕ → List (List ℕ)
lines [] = []
lines (b ∷ s) =
    if b == 10 then [] ∷ lines s
    else (if b == 13 && begins (λ c. c == 10) s then lines s else before_first b (lines s))

-- a line without the CR at its end, if there is one
abbrev pub without_return : List ℕ → List ℕ
without_return line = if slice_index line (length line - 1) == 13 then take (length line - 1) line else line
