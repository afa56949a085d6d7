-- The first of a list that passes a test.
use Rattle.std.proofs.Common.{◌≡◌, ◌∙◌, ℕ, ◌+◌, Bool, true, false, cond, ◌||◌, List, [], ◌∷◌, ◌++◌, length, position, Some, None, is_some, refl, sym, ap, arith}
use Rattle.std.specs.List.{position_from, list_any}
use Rattle.std.specs.Option.{option_or}
use Rattle.std.proofs.lemmas.Iterator.Adapters.{position_from-zero}

-- `position` by recursion
pub position_is : {X : Type 0} (p : X → Bool) (xs : List X) → position p xs ≡ position_from p 0 xs
position_is p xs = position_from-zero p xs

-- one more at the end
pub position_from-push : {X : Type 0} (p : X → Bool) (i : ℕ) (xs : List X) (x : X) → position_from p i (xs ++ x ∷ []) ≡ option_or (position_from p i xs) (cond (p x) (Some (i + length xs)) None)
position_from-push p i [] x = let e : i ≡ i + 0 = omega arith in ap (λ n. cond (p x) (Some n) None) e
position_from-push p i (y ∷ ys) x = by (position_from-push p (i + 1) ys x) (p y)
  where
    by : position_from p (i + 1) (ys ++ x ∷ []) ≡ option_or (position_from p (i + 1) ys) (cond (p x) (Some ((i + 1) + length ys)) None) →
        (b : Bool) → cond b (Some i) (position_from p (i + 1) (ys ++ x ∷ [])) ≡ option_or (cond b (Some i) (position_from p (i + 1) ys)) (cond (p x) (Some (i + length (y ∷ ys))) None)
    by rest true = refl
    by rest false = let e : (i + 1) + length ys ≡ i + length (y ∷ ys) = omega arith in rest ∙ ap (λ n. option_or (position_from p (i + 1) ys) (cond (p x) (Some n) None)) e

pub position-push : {X : Type 0} (p : X → Bool) (xs : List X) (x : X) → position p (xs ++ x ∷ []) ≡ option_or (position p xs) (cond (p x) (Some (length xs)) None)
position-push p xs x =
    let e : 0 + length xs ≡ length xs = omega arith in
    position_is p (xs ++ x ∷ []) ∙ position_from-push p 0 xs x ∙ ap (λ o. option_or o (cond (p x) (Some (0 + length xs)) None)) (sym (position_is p xs))
    ∙ ap (λ n. option_or (position p xs) (cond (p x) (Some n) None)) e

-- there is a first exactly where there is one
position_from-any : {X : Type 0} (p : X → Bool) (i : ℕ) (xs : List X) → is_some (position_from p i xs) ≡ list_any p xs
position_from-any p i [] = refl
position_from-any p i (x ∷ xs) = by (position_from-any p (i + 1) xs) (p x)
  where
    by : is_some (position_from p (i + 1) xs) ≡ list_any p xs → (b : Bool) → is_some (cond b (Some i) (position_from p (i + 1) xs)) ≡ (b || list_any p xs)
    by rest true = refl
    by rest false = rest

pub position-any : {X : Type 0} (p : X → Bool) (xs : List X) → is_some (position p xs) ≡ list_any p xs
position-any p xs = ap is_some (position_is p xs) ∙ position_from-any p 0 xs
