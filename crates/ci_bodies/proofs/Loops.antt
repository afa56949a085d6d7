-- Steps of a loop over a list, which has come to the member of an index.
use Rattle.std.proofs.Common.{◌≡◌, ℕ, ◌+◌, ◌<◌, List, ◌∷◌, length, drop, get_or, sym, ap, ◌∙◌}
use Rattle.std.proofs.lemmas.List.{drop_more}

-- the member is the first of what is left
pub next : {A : Type 0} (xs : List A) (i : ℕ) (x : A) → x ≡ get_or xs i x → i < length xs → drop i xs ≡ x ∷ drop (i + 1) xs
next xs i x is within = drop_more xs i x within ∙ ap (λ y. y ∷ drop (i + 1) xs) (sym is)
