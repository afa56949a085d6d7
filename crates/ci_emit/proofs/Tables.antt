-- Tables whose members are seen through a function.
use Rattle.std.proofs.Common.{◌≡◌, ℕ, ◌+◌, Bool, true, false, not, ◌||◌, nat_lt, ◌<◌, List, length, [], ◌∷◌, ◌++◌, Some, None, refl, ap, arith}
use Rattle.std.specs.Prelude.{map, if◌then◌else◌, position}
use Rattle.std.specs.List.{prefix_len, position_or_len, list_any}
use Rattle.indexmap.specs.IndexSet.{insert_key}

prefix_seen : {X Y : Type 0} (f : X → Y) (test : Y → Bool) (xs : List X) → prefix_len test (map f xs) ≡ prefix_len (λ x. test (f x)) xs
prefix_seen f test [] = refl
prefix_seen f test (x ∷ xs) = by_test (test (f x)) (prefix_seen f test xs)
  where
    by_test : (b : Bool) → prefix_len test (map f xs) ≡ prefix_len (λ y. test (f y)) xs → (if b then 1 + prefix_len test (map f xs) else 0) ≡ (if b then 1 + prefix_len (λ y. test (f y)) xs else 0)
    by_test true h = ap (λ n. 1 + n) h
    by_test false h = refl

-- the number of a member that is seen is that of what it is seen of
pub position_seen : {X Y : Type 0} (f : X → Y) (test : Y → Bool) (xs : List X) → position_or_len test (map f xs) ≡ position_or_len (λ x. test (f x)) xs
position_seen f test xs = prefix_seen f (λ y. not (test y)) xs

pub any_seen : {X Y : Type 0} (f : X → Y) (test : Y → Bool) (xs : List X) → list_any test (map f xs) ≡ list_any (λ x. test (f x)) xs
any_seen f test [] = refl
any_seen f test (x ∷ xs) = by_test (test (f x)) (any_seen f test xs)
  where
    by_test : (b : Bool) → list_any test (map f xs) ≡ list_any (λ y. test (f y)) xs → (b || list_any test (map f xs)) ≡ (b || list_any (λ y. test (f y)) xs)
    by_test true h = refl
    by_test false h = h

map_append : {X Y : Type 0} (f : X → Y) (xs ys : List X) → map f (xs ++ ys) ≡ map f xs ++ map f ys
map_append f [] ys = refl
map_append f (x ∷ xs) ys = ap (λ l. f x ∷ l) (map_append f xs ys)

-- a member that is put in is seen to be put in
pub insert_seen : {X Y : Type 0} (f : X → Y) (same : Y → Y → Bool) (xs : List X) (x : X) → map f (insert_key (λ a b. same (f a) (f b)) xs x) ≡ insert_key same (map f xs) (f x)
insert_seen f same xs x = by_any (list_any (λ y. same (f x) (f y)) xs) (list_any (same (f x)) (map f xs)) (any_seen f (same (f x)) xs)
  where
    by_any : (b c : Bool) → c ≡ b → map f (if b then xs else xs ++ x ∷ []) ≡ (if c then map f xs else map f xs ++ f x ∷ [])
    by_any true true e = refl
    by_any false false e = map_append f xs (x ∷ [])
    by_any true false e = absurd (cc e)
    by_any false true e = absurd (cc e)

-- where the first member that passes stands before the end, one passes
any_before : {X : Type 0} (test : X → Bool) (xs : List X) → position_or_len test xs < length xs → list_any test xs ≡ true
any_before test [] h = absurd (omega (arith, h))
any_before test (x ∷ xs) h = by_test (test x) h (any_before test xs)
  where
    by_test : (b : Bool) → (if not b then 1 + position_or_len test xs else 0) < length (x ∷ xs) → (position_or_len test xs < length xs → list_any test xs ≡ true) → (b || list_any test xs) ≡ true
    by_test true h go = refl
    by_test false h go = go (omega (arith, h))

-- a member that is found is there already, at its number
pub found_there : {X : Type 0} (test : X → Bool) (xs : List X) (i : ℕ) → position test xs ≡ Some i → (i ≡ position_or_len test xs) × (list_any test xs ≡ true)
found_there test xs i e = by_place (nat_lt (position_or_len test xs) (length xs)) refl e
  where
    by_place : (b : Bool) → nat_lt (position_or_len test xs) (length xs) ≡ b → (if b then Some (position_or_len test xs) else None) ≡ Some i → (i ≡ position_or_len test xs) × (list_any test xs ≡ true)
    by_place true below e = (cc e, any_before test xs (search (below, arith)))
    by_place false below e = absurd (cc e)

-- a table stays where a member is there
pub there_already : {Y : Type 0} (same : Y → Y → Bool) (ys : List Y) (y : Y) → list_any (same y) ys ≡ true → ys ≡ insert_key same ys y
there_already same ys y h = by_any (list_any (same y) ys) h
  where
    by_any : (b : Bool) → b ≡ true → ys ≡ (if b then ys else ys ++ y ∷ [])
    by_any true e = refl
    by_any false e = absurd (cc e)
