-- Stacks: lists with the top at the end.
use Rattle.std.proofs.Common.{◌≡◌, ◌≢◌, ℕ, zero, suc, ◌+◌, ◌-◌, List, [], ◌∷◌, ◌++◌, length, refl, sym, ap, ◌∙◌, arith, length-append}
use Rattle.std.specs.Prelude.{reverse, drop, slice_set}
use Rattle.std.proofs.lemmas.List.{reverse-append, append_assoc}
use Rattle.ci_meaning.specs.Held.{below}

-- the list from its end
turned : {T : Type 0} → (xs rest : List T) (x : T) → xs ≡ rest ++ x ∷ [] → reverse xs ≡ x ∷ reverse rest
turned xs rest x e = ap (λ l. reverse l) e ∙ reverse-append rest (x ∷ [])

-- what lies under the top
pub under_top : {T : Type 0} → (xs rest : List T) (x : T) → xs ≡ rest ++ x ∷ [] → reverse rest ≡ below xs
unfolding below
under_top xs rest x e = sym (ap (λ l. drop 1 l) (turned xs rest x e))

-- the top, and what lies under it
pub top_below : {T : Type 0} → (xs rest : List T) (x : T) → xs ≡ rest ++ x ∷ [] → reverse xs ≡ x ∷ below xs
top_below xs rest x e = turned xs rest x e ∙ ap (λ l. x ∷ l) (under_top xs rest x e)

pub under_none : {T : Type 0} → (xs rest : List T) → xs ≡ [] → rest ≡ [] → reverse rest ≡ below xs
unfolding below
under_none xs rest e f = ap (λ l. reverse l) f ∙ sym (ap (λ l. drop 1 (reverse l)) e)

-- a list that isn't empty has a last member
last_of : {T : Type 0} → (y : T) (ys : List T) → (rest : List T) × (x : T) × (y ∷ ys ≡ rest ++ x ∷ [])
last_of y [] = ([], y, refl)
last_of y (z ∷ zs) = let s = last_of z zs in (y ∷ s.0, s.1, ap (λ l. y ∷ l) s.2)

set_at : {T : Type 0} → (done : List T) (x y : T) (more : List T) (at : ℕ) → length done ≡ at → slice_set (done ++ x ∷ more) at y ≡ done ++ y ∷ more
set_at [] x y more zero e = refl
set_at [] x y more (suc k) e = absurd (cc e)
set_at (d ∷ ds) x y more zero e = absurd (cc e)
set_at (d ∷ ds) x y more (suc k) e = ap (λ l. d ∷ l) (set_at ds x y more k (cc e))

-- something else in the place of the top
pub set_below : {T : Type 0} → (xs : List T) (top : T) → reverse xs ≢ [] → reverse (slice_set xs (length xs - 1) top) ≡ top ∷ below xs
set_below [] top some = absurd (some refl)
set_below (y ∷ ys) top some = let s = last_of y ys in by s.0 s.1 s.2
  where
    by : (rest : List _) (x : _) → y ∷ ys ≡ rest ++ x ∷ [] → reverse (slice_set (y ∷ ys) (length (y ∷ ys) - 1) top) ≡ top ∷ below (y ∷ ys)
    by rest x e =
        let long : length (y ∷ ys) ≡ length rest + 1 = ap (λ l. length l) e ∙ length-append rest (x ∷ [])
        in ap (λ l. reverse (slice_set l (length (y ∷ ys) - 1) top)) e
        ∙ ap (λ l. reverse l) (set_at rest x top [] (length (y ∷ ys) - 1) (omega (arith, long)))
        ∙ reverse-append rest (top ∷ [])
        ∙ ap (λ l. top ∷ l) (under_top (y ∷ ys) rest x e)

-- a stack whose top is taken off again
pub taken_off : {T : Type 0} → (xs ys : List T) (x y : T) → xs ++ x ∷ [] ≡ ys ++ y ∷ [] → ys ≡ xs
taken_off [] [] x y e = refl
taken_off [] (b ∷ []) x y e = absurd (cc e)
taken_off [] (b ∷ c ∷ ys) x y e = absurd (cc e)
taken_off (a ∷ []) [] x y e = absurd (cc e)
taken_off (a ∷ d ∷ xs) [] x y e = absurd (cc e)
taken_off (a ∷ xs) (b ∷ ys) x y e = let f : xs ++ x ∷ [] ≡ ys ++ y ∷ [] = cc e in let g : a ≡ b = cc e in let h : ys ≡ xs = taken_off xs ys x y f in cc

-- something else in the place of the top, and another on it
pub set_under : {T : Type 0} → (xs ys : List T) (lower top : T) → reverse xs ≢ [] → ys ≡ xs ++ top ∷ [] → reverse (slice_set ys (length ys - 2) lower) ≡ top ∷ lower ∷ below xs
set_under [] ys lower top some e = absurd (some refl)
set_under (z ∷ zs) ys lower top some e = let s = last_of z zs in by s.0 s.1 s.2
  where
    by : (rest : List _) (x : _) → z ∷ zs ≡ rest ++ x ∷ [] → reverse (slice_set ys (length ys - 2) lower) ≡ top ∷ lower ∷ below (z ∷ zs)
    by rest x f =
        let whole : ys ≡ rest ++ x ∷ top ∷ [] = e ∙ ap (λ l. l ++ top ∷ []) f ∙ append_assoc rest (x ∷ []) (top ∷ [])
        in let long : length ys ≡ length rest + 2 = ap (λ l. length l) whole ∙ length-append rest (x ∷ top ∷ [])
        in ap (λ l. reverse (slice_set l (length ys - 2) lower)) whole
        ∙ ap (λ l. reverse l) (set_at rest x lower (top ∷ []) (length ys - 2) (omega (arith, long)))
        ∙ reverse-append rest (lower ∷ top ∷ [])
        ∙ ap (λ l. top ∷ lower ∷ l) (under_top (z ∷ zs) rest x f)
