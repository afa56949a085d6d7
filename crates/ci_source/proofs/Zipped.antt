-- Two lists of which a relation holds place by place.
use Rattle.std.proofs.Common.{◌≡◌, ℕ, zero, suc, ◌+◌, ◌<◌, List, [], ◌∷◌, ◌++◌, length, take, get_or, Some, refl, sym, ◌∙◌, ap, subst, arith}
use Rattle.std.specs.Prelude.{All, slice_get}
use Rattle.std.specs.List.{AllZip}
use Rattle.std.proofs.lemmas.List.{take_more, length-take-le}
use Rattle.std.proofs.lemmas.Option.{slice_get-get_or, slice_get_read, get_or_from_slice_get}
use Rattle.std.proofs.lemmas.Slice.Zip.{all_zipped_more, AllZip-long}
use Rattle.ci_source.proofs.Options.{some_clash, some_same}

-- what stands at one place of both
pub zipped_at : {A B : Type 0} (R : A → B → Type 0) (xs : List A) (ys : List B) (k : ℕ) (x : A) → AllZip R xs ys → slice_get xs k ≡ Some x → (y : B) × (slice_get ys k ≡ Some y) × R x y
zipped_at R [] ys k x zipped is = absurd (some_clash x is)
zipped_at R (x' ∷ xs) [] k x zipped is = absurd zipped
zipped_at {A} {B} R (x' ∷ xs) (y ∷ ys) zero x zipped is = let P : A → Type 0 = λ z. R z y in (y, refl, subst P (some_same x' x is) zipped.0)
zipped_at R (x' ∷ xs) (y ∷ ys) (suc k) x zipped is = zipped_at R xs ys k x zipped.1 is

-- each of the first has one of the second
pub zipped_all : {A B : Type 0} (R : A → B → Type 0) (xs : List A) (ys : List B) → AllZip R xs ys → All (λ x. (y : B) × R x y) xs
zipped_all {A} {B} R xs ys zipped k d within =
    let at : (y : B) × (slice_get ys k ≡ Some y) × R (get_or xs k d) y = zipped_at R xs ys k (get_or xs k d) zipped (slice_get-get_or xs k d within) in
    (at.0, at.2)

-- what was read at one place of both
pub zipped_read : {A B : Type 0} (R : A → B → Type 0) (xs : List A) (ys : List B) (k : ℕ) (x : A) (y : B) → k < length xs → x ≡ get_or xs k x → y ≡ get_or ys k y → AllZip R xs ys → R x y
zipped_read {A} {B} R xs ys k x y within is are zipped =
    let at : (z : B) × (slice_get ys k ≡ Some z) × R x z = zipped_at R xs ys k x zipped (slice_get_read xs (length xs) k x refl within is) in
    let same : y ≡ at.0 = are ∙ get_or_from_slice_get ys k at.0 y at.1 in
    let P : B → Type 0 = λ z. R x z in
    subst P (sym same) at.2

-- as many were read as there are before this place
pub zipped_count : {A B : Type 0} (R : A → B → Type 0) (xs : List A) (i : ℕ) (ys : List B) → i < length xs → AllZip R (take i xs) ys → length ys ≡ i
zipped_count R xs i ys within zipped = AllZip-long R (take i xs) ys zipped ∙ length-take-le i xs (omega arith)

-- one more of both
pub zipped_more : {A B : Type 0} (R : A → B → Type 0) (xs : List A) (i : ℕ) (x : A) (ys : List B) (y : B) → i < length xs → x ≡ get_or xs i x → AllZip R (take i xs) ys → R x y
    → AllZip R (take (i + 1) xs) (ys ++ y ∷ [])
zipped_more {A} {B} R xs i x ys y within is zipped here =
    let P : List A → Type 0 = λ zs. AllZip R zs (ys ++ y ∷ []) in
    subst P (sym (take_more xs i x within ∙ ap (λ z. take i xs ++ z ∷ []) (sym is))) (all_zipped_more R (take i xs) ys x y zipped here)

-- where each has at most one, both lists are one
pub zipped_same : {A B : Type 0} (R : A → B → Type 0) → ((x : A) (y z : B) → R x y → R x z → y ≡ z) → (xs : List A) (ys zs : List B) → AllZip R xs ys → AllZip R xs zs → ys ≡ zs
zipped_same R same [] [] [] one two = refl
zipped_same R same [] [] (z ∷ zs) one two = absurd two
zipped_same R same [] (y ∷ ys) zs one two = absurd one
zipped_same R same (x ∷ xs) [] zs one two = absurd one
zipped_same R same (x ∷ xs) (y ∷ ys) [] one two = absurd two
zipped_same R same (x ∷ xs) (y ∷ ys) (z ∷ zs) one two = ap (λ w. w ∷ ys) (same x y z one.0 two.0) ∙ ap (λ ws. z ∷ ws) (zipped_same R same xs ys zs one.1 two.1)
