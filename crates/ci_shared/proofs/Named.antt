-- Whom a list names.
use Rattle.std.proofs.Common.{Contains, ◌≡◌, ◌⊎◌, ℕ, zero, suc, List, [], ◌∷◌, arith, inl, inr, refl}

pub first_named : (n : ℕ) (ns : List ℕ) → Contains (n ∷ ns) n
first_named n ns = (0, omega arith, refl)

-- the first, or one behind it
pub named_in : (n : ℕ) (ns : List ℕ) (t : ℕ) → Contains (n ∷ ns) t → (n ≡ t) ⊎ Contains ns t
named_in n ns t (zero, lt, e) = inl e
named_in n ns t (suc k, lt, e) = inr (k, omega (arith, lt), e)

pub none_named : (t : ℕ) → Contains [] t → ⊥
none_named t (k, lt, e) = omega (arith, lt)

-- the only one
pub the_one : (n t : ℕ) → Contains (n ∷ []) t → n ≡ t
the_one n t named = elim (named_in n [] t named) [ inl same ↦ same | inr more ↦ absurd (none_named t more) ]
