-- The first member of a list that a test picks.
use Rattle.std.proofs.Common.{◌≡◌, ◌+◌, ◌<◌, ℕ, zero, suc, Bool, true, false, cond, List, [], ◌∷◌, length, Some, None, refl, subst, arith}
use Rattle.std.specs.Prelude.{slice_get}
use Rattle.std.specs.List.{position_from}

abbrev pub FirstAt : {X : Type 0} → (X → Bool) → List X → ℕ → Type 0
FirstAt p [] i = ⊥
FirstAt p (x ∷ xs) zero = p x ≡ true
FirstAt p (x ∷ xs) (suc i) = (p x ≡ false) × FirstAt p xs i

abbrev pub Nowhere : {X : Type 0} → (X → Bool) → List X → Type 0
Nowhere p [] = Unit {0}
Nowhere p (x ∷ xs) = (p x ≡ false) × Nowhere p xs

later : {X : Type 0} (p : X → Bool) (k : ℕ) (xs : List X) (i : ℕ) → position_from p k xs ≡ Some i → (j : ℕ) × (i ≡ k + j) × FirstAt p xs j
later p k [] i e = absurd (cc e)
later p k (x ∷ xs) i e = by (p x) refl (λ h. later p (k + 1) xs i h) e
  where
    by : (b : Bool) → p x ≡ b → (position_from p (k + 1) xs ≡ Some i → (j : ℕ) × (i ≡ (k + 1) + j) × FirstAt p xs j) → cond b (Some k) (position_from p (k + 1) xs) ≡ Some i → (j : ℕ) × (i ≡ k + j) × FirstAt p (x ∷ xs) j
    by true t more h = let same : k ≡ i = cc h in (0, omega (arith, same), t)
    by false t more h = let r = more h in let is : i ≡ (k + 1) + r.0 = r.1 in (suc r.0, omega (arith, is), (t, r.2))

pub first_at : {X : Type 0} (p : X → Bool) (xs : List X) (i : ℕ) → position_from p 0 xs ≡ Some i → FirstAt p xs i
first_at p xs i e =
    let r = later p 0 xs i e in
    let is : i ≡ 0 + r.0 = r.1 in
    let same : r.0 ≡ i = omega (arith, is) in
    subst (λ (j : ℕ). FirstAt p xs j) same r.2

pub nowhere : {X : Type 0} (p : X → Bool) (k : ℕ) (xs : List X) → position_from p k xs ≡ None → Nowhere p xs
nowhere p k [] e = tt
nowhere p k (x ∷ xs) e = by (p x) refl (λ h. nowhere p (k + 1) xs h) e
  where
    by : (b : Bool) → p x ≡ b → (position_from p (k + 1) xs ≡ None → Nowhere p xs) → cond b (Some k) (position_from p (k + 1) xs) ≡ None → (p x ≡ false) × Nowhere p xs
    by true t more h = absurd (cc h)
    by false t more h = (t, more h)

pub first_gets : {X : Type 0} (p : X → Bool) (xs : List X) (i : ℕ) → FirstAt p xs i → (x : X) × (slice_get xs i ≡ Some x) × (p x ≡ true)
first_gets p [] i h = absurd h
first_gets p (x ∷ xs) zero h = (x, refl, h)
first_gets p (x ∷ xs) (suc i) h = first_gets p xs i h.1

pub first_within : {X : Type 0} (p : X → Bool) (xs : List X) (i : ℕ) → FirstAt p xs i → i < length xs
first_within p [] i h = absurd h
first_within p (x ∷ xs) zero h = omega arith
first_within p (x ∷ xs) (suc i) h = let lt : i < length xs = first_within p xs i h.1 in omega (arith, lt)
