-- Equal numbers, texts and places.
use Rattle.std.proofs.Common.{◌≡◌, ◌≢◌, ◌⊎◌, ℕ, Bool, true, false, List, [], ◌∷◌, refl, sym, ap, ap₂, ◌∙◌, subst, inl, inr, eq-eqb, eqb, eqb→eq, true≢false}
use Rattle.std.specs.Prelude.{nat_eq, ◌&&◌}
use lib.Dec.{T}
use Rattle.ci_base.specs.declared.place.Place.{Place}
use Rattle.ci_shared.specs.Roster.{same_place}
use Rattle.ci_shared.specs.Words.{same_text}
use Rattle.std.proofs.lemmas.Bool.Decides.{Decides-int_eq}
use Rattle.ci_base.specs.declared.place.Place.TheVariants as places

pub eqb_same : (t n : ℕ) → eqb t n ≡ true → t ≡ n
eqb_same t n e = eqb→eq t n (subst T (sym e) tt)

pub eqb_apart : (t n : ℕ) → eqb t n ≡ false → t ≢ n
eqb_apart t n e same = true≢false (sym (eq-eqb t n same) ∙ e)

pub decide : (t u : ℕ) → (t ≡ u) ⊎ (t ≢ u)
decide t u = by (eqb t u) refl
  where
    by : (b : Bool) → eqb t u ≡ b → (t ≡ u) ⊎ (t ≢ u)
    by true e = inl (eqb_same t u e)
    by false e = inr (eqb_apart t u e)

both : (a b : Bool) → (a && b) ≡ true → (a ≡ true) × (b ≡ true)
both true b e = (refl, e)
both false b e = absurd (true≢false (sym e))

pub text_same : (a b : List ℕ) → same_text a b ≡ true → a ≡ b
text_same [] [] e = refl
text_same [] (y ∷ ys) e = absurd (true≢false (sym e))
text_same (x ∷ xs) [] e = absurd (true≢false (sym e))
text_same (x ∷ xs) (y ∷ ys) e = let h = both (nat_eq x y) (same_text xs ys) e in ap₂ (λ (m : ℕ) (l : List ℕ). m ∷ l) (eqb_same x y h.0) (text_same xs ys h.1)

pub place_same : (p q : Place) → same_place p q ≡ true → p ≡ q
place_same (places.Semaphore n) (places.Semaphore m) e = ap places.Semaphore ((Decides-int_eq n m).0 e)
place_same (places.Queue n) (places.Queue m) e = ap places.Queue ((Decides-int_eq n m).0 e)
place_same (places.Section n) (places.Section m) e = ap places.Section (text_same n m e)
place_same places.Clock places.Clock e = refl
place_same _ _ e = absurd (true≢false (sym e))

pub text_itself : (a : List ℕ) → same_text a a ≡ true
text_itself [] = refl
text_itself (x ∷ xs) = ap₂ (λ (b c : Bool). b && c) (eq-eqb x x refl) (text_itself xs)

pub place_itself : (p : Place) → same_place p p ≡ true
place_itself (places.Semaphore n) = (Decides-int_eq n n).1 refl
place_itself (places.Queue n) = (Decides-int_eq n n).1 refl
place_itself (places.Section n) = text_itself n
place_itself places.Clock = refl
