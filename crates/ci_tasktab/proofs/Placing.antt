-- A task changes at its place.
use Rattle.std.proofs.Common.{◌≡◌, ◌≤◌, ◌<◌, ◌-◌, ℕ, zero, suc, true, List, [], ◌∷◌, length, Option, Some, None, refl, sym, ap, ◌∙◌, get_or, arith, true≢false}
use Rattle.std.specs.Prelude.{slice_get, slice_set}
use Rattle.ci_shared.specs.Words.{change}
use Rattle.ci_tasktab.specs.declared.slot.Slot.{Slot}
use Rattle.ci_tasktab.specs.Slots.{change_slot, is_live_at, is_live_slot}

set_is : (f : Slot → Slot) (xs : List Slot) (i : ℕ) (x : Slot) → i < length xs → x ≡ get_or xs i x → slice_set xs i (f x) ≡ change f i xs
set_is f [] i x h e = absurd (omega (arith, h))
set_is f (y ∷ ys) zero x h e = ap (λ (z : Slot). f z ∷ ys) e
set_is f (y ∷ ys) (suc i) x h e = let lt : i < length ys = omega (arith, h) in ap (λ (l : List Slot). y ∷ l) (set_is f ys i x lt e)

pub set_there : (f : Slot → Slot) (xs : List Slot) (t : ℕ) (x : Slot) → 1 ≤ t → t ≤ length xs → x ≡ get_or xs (t - 1) x → slice_set xs (t - 1) (f x) ≡ change_slot f t xs
set_there f xs zero x l m e = absurd (omega (arith, l))
set_there f xs (suc i) x l m e =
    let lt : i < length xs = omega (arith, m) in
    let is : suc i - 1 ≡ i = omega arith in
    ap (λ (j : ℕ). slice_set xs j (f x)) is ∙ set_is f xs i x lt (e ∙ ap (λ (j : ℕ). get_or xs j x) is)

pub same_length : (f : Slot → Slot) (i : ℕ) (xs : List Slot) → length (change f i xs) ≡ length xs
same_length f i [] = refl
same_length f zero (x ∷ xs) = refl
same_length f (suc i) (x ∷ xs) = ap suc (same_length f i xs)

pub same_count : (f : Slot → Slot) (t : ℕ) (xs : List Slot) → length (change_slot f t xs) ≡ length xs
same_count f zero xs = refl
same_count f (suc i) xs = same_length f i xs

pub got_within : (xs : List Slot) (i : ℕ) (x : Slot) → slice_get xs i ≡ Some x → i < length xs
got_within [] i x e = absurd (cc e)
got_within (y ∷ ys) zero x e = omega arith
got_within (y ∷ ys) (suc i) x e = let lt : i < length ys = got_within ys i x e in omega (arith, lt)

pub live_within : (xs : List Slot) (t : ℕ) → is_live_at xs t ≡ true → (1 ≤ t) × (t ≤ length xs)
live_within xs zero e = absurd (true≢false (sym e))
live_within xs (suc i) e = by (slice_get xs i) refl e
  where
    by : (o : Option Slot) → slice_get xs i ≡ o → is_live_slot o ≡ true → (1 ≤ suc i) × (suc i ≤ length xs)
    by None is l = absurd (true≢false (sym l))
    by (Some x) is l = let lt : i < length xs = got_within xs i x is in (omega arith, omega (arith, lt))
