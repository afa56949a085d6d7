-- Values on top of a list.
use Rattle.std.proofs.Common.{◌≡◌, ℕ, zero, suc, ◌+◌, ◌-◌, ◌<◌, ◌≤◌, ℤ, List, [], ◌∷◌, ◌++◌, length, take, set, Some, refl, sym, ap, ◌∙◌, subst, arith, length-append, append_assoc}
use Rattle.std.specs.Prelude.{slice_get}
use Rattle.std.proofs.Math.Seq.{take-append_seam, take-set-lt}
use Rattle.std.proofs.lemmas.List.{take-take, take_more_set, take-set-le, length-take-le, length-set}
use Rattle.ci_base.specs.declared.value.Value.{Value}
use Rattle.ci_base.specs.declared.value.Value.TheVariants.{Int}
use Rattle.ci_stack.specs.Tops.{last_of, without_last}

pub at_seam : (low more : List Value) (v : Value) → slice_get (low ++ v ∷ more) (length low) ≡ Some v
at_seam [] more v = refl
at_seam (u ∷ low) more v = at_seam low more v

-- what lies below so many values
pub seam : (old low high : List Value) (n : ℕ) → old ≡ low ++ high → n ≡ length low → take n old ≡ low
seam old low high n e h = ap (take n) e ∙ ap (λ i. take i (low ++ high)) h ∙ take-append_seam low high

pub at : (old low more : List Value) (v : Value) (n : ℕ) → old ≡ low ++ v ∷ more → n ≡ length low → slice_get old n ≡ Some v
at old low more v n e h = ap (λ (l : List Value). slice_get l n) e ∙ ap (λ i. slice_get (low ++ v ∷ more) i) h ∙ at_seam low more v

pub same_value : (u v : Value) → Some u ≡ Some v → u ≡ v
same_value u v h = cc h

pub same_number : (a b : ℤ) → Some (Int a) ≡ Some (Int b) → a ≡ b
same_number a b h = cc h

-- A stack is the first places of a table.

-- the place of the table holds what the stack holds there
pub in_table : (table : List Value) (count i : ℕ) (v : Value) → slice_get (take count table) i ≡ Some v → slice_get table i ≡ Some v
in_table [] zero i v h = h
in_table [] (suc count) i v h = h
in_table (u ∷ table) zero i v h = absurd (cc h)
in_table (u ∷ table) (suc count) zero v h = h
in_table (u ∷ table) (suc count) (suc i) v h = in_table table count i v h

pub of_table : (table stack : List Value) (count i : ℕ) (v : Value) → take count table ≡ stack → slice_get stack i ≡ Some v → slice_get table i ≡ Some v
of_table table stack count i v e h = in_table table count i v (ap (λ (l : List Value). slice_get l i) e ∙ h)

in_stack : (table : List Value) (count i : ℕ) (v : Value) → i < count → slice_get table i ≡ Some v → slice_get (take count table) i ≡ Some v
in_stack [] zero i v h e = e
in_stack [] (suc count) i v h e = e
in_stack (u ∷ table) zero i v h e = absurd (omega arith)
in_stack (u ∷ table) (suc count) zero v h e = e
in_stack (u ∷ table) (suc count) (suc i) v h e = in_stack table count i v (omega arith) e

pub of_stack : (table stack : List Value) (count i : ℕ) (v : Value) → take count table ≡ stack → i < count → slice_get table i ≡ Some v → slice_get stack i ≡ Some v
of_stack table stack count i v e h f = sym (ap (λ (l : List Value). slice_get l i) e) ∙ in_stack table count i v h f

pub counted : (table stack : List Value) (count : ℕ) → take count table ≡ stack → count ≤ length table → length stack ≡ count
counted table stack count e h = sym (ap length e) ∙ length-take-le count table h

-- the first places of the stack are those of the table
pub lower : (table stack low high : List Value) (count n : ℕ) → take count table ≡ stack → count ≤ length table → stack ≡ low ++ high → n ≡ length low → take n table ≡ low
lower table stack low high count n e h f k =
    let long : length stack ≡ count = counted table stack count e h in
    let less : n ≤ count = omega (arith, long, ap length f, length-append low high, k) in
    sym (take-take n count table less) ∙ ap (take n) e ∙ seam stack low high n f k

pub replaced : (table stack low high : List Value) (count n : ℕ) (v : Value) → take count table ≡ stack → count ≤ length table → stack ≡ low ++ high → n ≡ length low → n < length table → take (n + 1) (set table n v) ≡ low ++ v ∷ []
replaced table stack low high count n v e h f k room =
    take_more_set table n v room ∙ ap (λ (l : List Value). l ++ v ∷ []) (lower table stack low high count n e h f k)

pub length_last : (stack low : List Value) (v : Value) → stack ≡ low ++ v ∷ [] → length stack ≡ length low + 1
length_last stack low v e = ap length e ∙ length-append low (v ∷ [])

pub length_two : (stack low : List Value) (u v : Value) → stack ≡ low ++ u ∷ v ∷ [] → length stack ≡ length low + 2
length_two stack low u v e = ap length e ∙ length-append low (u ∷ v ∷ [])

pub length_under : (stack low high : List Value) (v : Value) → stack ≡ low ++ v ∷ high → length stack ≡ length low + suc (length high)
length_under stack low high v e = ap length e ∙ length-append low (v ∷ high)

pub two_as_one : (stack low : List Value) (u v : Value) → stack ≡ low ++ u ∷ v ∷ [] → stack ≡ (low ++ u ∷ []) ++ v ∷ []
two_as_one stack low u v e = e ∙ sym (append_assoc low (u ∷ []) (v ∷ []))

-- a value is put at a place below
pub stored : (table stack low : List Value) (count n place : ℕ) (v : Value) → take count table ≡ stack → count ≤ length table → stack ≡ low ++ v ∷ [] → n ≡ length low → place < n → take n (set table place v) ≡ set low place v
stored table stack low count n place v e h f k within =
    take-set-lt n table place v within ∙ ap (λ (l : List Value). set l place v) (lower table stack low (v ∷ []) count n e h f k)

-- the one on top is kept above the first ones
pub kept_last : (table stack low : List Value) (count kept : ℕ) (v : Value) → take count table ≡ stack → count ≤ length table → stack ≡ low ++ v ∷ [] → kept < length stack → take (kept + 1) (set table kept v) ≡ take kept low ++ v ∷ []
kept_last table stack low count kept v e h f within =
    let long : length stack ≡ count = counted table stack count e h in
    let more : length stack ≡ length low + 1 = length_last stack low v f in
    take_more_set table kept v (omega arith)
    ∙ ap (λ (l : List Value). l ++ v ∷ []) (sym (take-take kept (length low) table (omega arith)) ∙ ap (take kept) (lower table stack low (v ∷ []) count (length low) e h f refl))

-- the two on top change places
pub swapped : (table stack low copied : List Value) (count : ℕ) (u v : Value) → take count table ≡ stack → count ≤ length table → stack ≡ low ++ u ∷ v ∷ [] → copied ≡ set table (count - 1) u → take count (set copied (count - 2) v) ≡ low ++ v ∷ u ∷ []
swapped table stack low copied count u v e h f g =
    let long : length stack ≡ count = counted table stack count e h in
    let more : length stack ≡ length low + 2 = length_two stack low u v f in
    let under : length copied ≡ length table = ap length g ∙ length-set table (count - 1) u in
    let first : take (length low) copied ≡ low = ap (take (length low)) g ∙ take-set-le (length low) table (count - 1) u (omega arith) ∙ lower table stack low (u ∷ v ∷ []) count (length low) e h f refl in
    let below : take (length low + 1) (set copied (length low) v) ≡ low ++ v ∷ [] = take_more_set copied (length low) v (omega arith) ∙ ap (λ (l : List Value). l ++ v ∷ []) first in
    let there : slice_get (set copied (length low) v) (length low + 1) ≡ Some u =
    sym (get_other copied (length low) (length low + 1) v (omega arith)) ∙ ap (λ (l : List Value). slice_get l (length low + 1)) g ∙ get_same table (count - 1) (length low + 1) u (omega arith) (omega arith) in
    let two : count - 2 ≡ length low = omega arith in
    let all : count ≡ length low + 1 + 1 = omega arith in
    ap (λ i. take count (set copied i v)) two
    ∙ ap (λ i. take i (set copied (length low) v)) all
    ∙ take_one_more (set copied (length low) v) (length low + 1) u there
    ∙ ap (λ (l : List Value). l ++ u ∷ []) below
    ∙ append_assoc low (v ∷ []) (u ∷ [])
  where
    get_other : (xs : List Value) (i j : ℕ) (a : Value) → i < j → slice_get xs j ≡ slice_get (set xs i a) j
    get_other [] i j a h = refl
    get_other (x ∷ xs) zero zero a h = absurd (omega arith)
    get_other (x ∷ xs) zero (suc j) a h = refl
    get_other (x ∷ xs) (suc i) zero a h = refl
    get_other (x ∷ xs) (suc i) (suc j) a h = get_other xs i j a (omega arith)

    get_same : (xs : List Value) (i j : ℕ) (a : Value) → i ≡ j → i < length xs → slice_get (set xs i a) j ≡ Some a
    get_same [] i j a e h = absurd (omega arith)
    get_same (x ∷ xs) zero zero a e h = refl
    get_same (x ∷ xs) zero (suc j) a e h = absurd (omega arith)
    get_same (x ∷ xs) (suc i) zero a e h = absurd (omega arith)
    get_same (x ∷ xs) (suc i) (suc j) a e h = get_same xs i j a (omega arith) (omega arith)

    take_one_more : (xs : List Value) (n : ℕ) (a : Value) → slice_get xs n ≡ Some a → take (n + 1) xs ≡ take n xs ++ a ∷ []
    take_one_more [] n a h = absurd (cc h)
    take_one_more (x ∷ xs) zero a h = ap (λ y. y ∷ []) (same_value x a h)
    take_one_more (x ∷ xs) (suc n) a h =
        let e : suc n + 1 ≡ suc (n + 1) = omega arith in
        ap (λ i. take i (x ∷ xs)) e ∙ ap (λ (l : List Value). x ∷ l) (take_one_more xs n a h)

-- the value on top, and what is below
pub last_is : (stack : List Value) (v : Value) → slice_get stack (length stack - 1) ≡ Some v → last_of stack ≡ Some v
last_is [] v h = absurd (cc h)
last_is (u ∷ []) v h = h
last_is (u ∷ w ∷ more) v h = last_is (w ∷ more) v (subst (λ i. slice_get (u ∷ w ∷ more) i ≡ Some v) (by more) h)
  where
    by : (more : List Value) → length (u ∷ w ∷ more) - 1 ≡ suc (length (w ∷ more) - 1)
    by more = omega arith

pub without_last_is : (stack : List Value) → take (length stack - 1) stack ≡ without_last stack
without_last_is [] = refl
without_last_is (u ∷ []) = refl
without_last_is (u ∷ w ∷ more) =
    let less : length (u ∷ w ∷ more) - 1 ≡ suc (length (w ∷ more) - 1) = omega arith in
    ap (λ i. take i (u ∷ w ∷ more)) less ∙ ap (λ (l : List Value). u ∷ l) (without_last_is (w ∷ more))
