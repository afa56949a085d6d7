-- Where a comment is closed.
use Rattle.std.specs.Prelude.{◌≡◌, ℕ, Bool, false, ◌&&◌, List, [], ◌∷◌, ◌++◌, ◌==◌}
use Rattle.ci_tree.specs.Comments.{has_close}

-- `*/` stands at the front
abbrev pub closes : List ℕ → Bool
closes [] = false
closes (star ∷ []) = false
closes (star ∷ slash ∷ s) = star == 42 && slash == 47

-- the rest stands behind the first `*/`
abbrev pub IsClosed : List ℕ → List ℕ → Type 0
IsClosed s rest = (body : List ℕ) × (has_close body ≡ false) × (s ≡ body ++ 42 ∷ 47 ∷ rest)
