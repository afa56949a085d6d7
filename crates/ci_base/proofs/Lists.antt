-- What `==` says of two slices.
use Rattle.std.proofs.Common.{◌≡◌, List, Bool, ◌↔◌, IsTrue, refl, ℕ, ◌<◌, ◌+◌, length, take, get_or}
use Rattle.std.specs.Cmp.Lexicographic.{pointwise}
use Rattle.std.proofs.lemmas.Slice.Eq.{slice_eq-Decides}
use Rattle.std.proofs.lemmas.List.{take_more_same}

-- Slices are equal where `==` says so, if `==` of elements does.
pub same_lists : {A : Type 0} {E : A → A → Bool} (xs ys : List A) (r : Bool) → r ≡ pointwise E xs ys
    → ((a b : A) (s : Bool) → s ≡ E a b → IsTrue s ↔ (a ≡ b)) → IsTrue r ↔ (xs ≡ ys)
same_lists {A} {E} xs ys r e same = slice_eq-Decides (λ a b. same a b (E a b) refl) xs ys r e

-- Two lists whose fronts are the same, and whose next elements are, have the same longer fronts.
pub same_next : {A : Type 0} (xs ys : List A) (i : ℕ) (x y : A) → i < length xs → i < length ys → take i xs ≡ take i ys
    → x ≡ get_or xs i x → y ≡ get_or ys i y → x ≡ y → take (i + 1) xs ≡ take (i + 1) ys
same_next xs ys i x y in_xs in_ys front x_is y_is same = take_more_same xs ys i x in_xs in_ys front (cc)
