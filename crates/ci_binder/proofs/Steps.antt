-- Steps of loops over a list, which have come to the member of an index.
use Rattle.std.proofs.Common.{◌≡◌, ℕ, ◌+◌, ◌<◌, List, [], ◌∷◌, ◌++◌, length, take, get_or, Option, map, sym, ap, subst, ◌∙◌}
use Rattle.std.specs.Prelude.{All}
use Rattle.std.proofs.lemmas.List.{append-nil, take_more, get_or-map, length-map, map_push}
use Rattle.ci_names.specs.declared.fault.Fault.{Fault}
use Rattle.ci_names.specs.Fault.{noted}
use Rattle.ci_names.specs.Declarations.{each_behind}
use Rattle.ci_names.proofs.FirstFound.{noted_append}
use Rattle.ci_names.proofs.Meant.{each_append}

-- the members so far, and this one
pub next : {A : Type 0} (xs : List A) (i : ℕ) (x : A) → x ≡ get_or xs i x → i < length xs → take (i + 1) xs ≡ take i xs ++ x ∷ []
next xs i x is within = take_more xs i x within ∙ ap (λ y. take i xs ++ y ∷ []) (sym is)

-- what holds of each member holds of this one
pub holds : {A : Type 0} (P : A → Type 0) (xs : List A) (i : ℕ) (x : A) → x ≡ get_or xs i x → i < length xs → All P xs → P x
holds P xs i x is within all = subst P (sym is) (all i x within)

-- the member of the same index in the list of what the members stand for
pub listed_at : {A B : Type 0} (f : A → B) (xs : List A) (ys : List B) (i : ℕ) (x : A) → map f xs ≡ ys → x ≡ get_or xs i x → i < length xs → (f x ≡ get_or ys i (f x)) × (i < length ys)
listed_at f xs ys i x h is within = (ap f is ∙ sym (get_or-map f xs i x (f x) within) ∙ ap (λ zs. get_or zs i (f x)) h, subst (λ zs. i < length zs) h (subst (λ n. i < n) (sym (length-map xs f)) within))

-- one more of both
pub push_same : {A B C : Type 0} (f : A → C) (g : B → C) (all new : List A) (a : A) (xs ys : List B) (b : B) → new ≡ all ++ a ∷ [] → map f all ≡ map g xs → f a ≡ g b → ys ≡ xs ++ b ∷ [] → map f new ≡ map g ys
push_same f g all new a xs ys b h so_far is i =
    ap (map f) h ∙ map_push f all a ∙ ap (λ zs. zs ++ f a ∷ []) so_far ∙ ap (λ z. map g xs ++ z ∷ []) is ∙ sym (map_push g xs b) ∙ ap (map g) (sym i)

-- what each member gives, and what one more gives
pub each_more : {A B : Type 0} (at : List A → A → List B) (xs ys : List A) (x : A) → ys ≡ xs ++ x ∷ [] → each_behind at [] ys ≡ each_behind at [] xs ++ at xs x
each_more at xs ys x h = ap (each_behind at []) h ∙ each_append at [] xs (x ∷ []) ∙ ap (λ zs. each_behind at [] xs ++ zs) (append-nil (at xs x))

-- the first fault so far, and the faults of one more
pub noted_more : {A : Type 0} (found before after : Option Fault) (at : List A → A → List Fault) (xs ys : List A) (x : A) →
    before ≡ noted found (each_behind at [] xs) → after ≡ noted before (at xs x) → ys ≡ xs ++ x ∷ [] → after ≡ noted found (each_behind at [] ys)
noted_more found before after at xs ys x h i more =
    i ∙ ap (λ o. noted o (at xs x)) h ∙ sym (noted_append found (each_behind at [] xs) (at xs x)) ∙ ap (noted found) (sym (each_more at xs ys x more))
