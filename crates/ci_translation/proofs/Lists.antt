-- Facts on lists of values and kinds.
use Rattle.std.proofs.Common.{◌≡◌, ℕ, zero, suc, ◌+◌, true, List, [], ◌∷◌, ◌++◌, length, take, drop, Option, Some, None, refl, sym, ap, ◌∙◌, arith}
use Rattle.std.specs.Prelude.{pos, slice_get, slice_set, map, reverse, option_map, unwrap_or}
use Rattle.ci_base.specs.declared.value.Kind.{Kind}
use Rattle.ci_base.specs.declared.value.Kind.TheVariants as kinds
use Rattle.ci_base.specs.declared.value.Value.{Value}
use Rattle.ci_base.specs.declared.value.Value.TheVariants.{Int, Str}
use Rattle.ci_base.specs.Values.{kind_of, first_of_kind}
use Rattle.ci_code.specs.Moves.{Move, is_of, is_of_some, are_of, only_if, several}

pub get_map : {X Y : Type 0} (f : X → Y) (xs : List X) (i : ℕ) → slice_get (map f xs) i ≡ option_map f (slice_get xs i)
get_map f [] i = refl
get_map f (x ∷ xs) zero = refl
get_map f (x ∷ xs) (suc i) = get_map f xs i

-- what a mapped option holds
pub mapped : {X Y : Type 0} (f : X → Y) (o : Option X) (y : Y) → option_map f o ≡ Some y → (x : X) × (o ≡ Some x) × (f x ≡ y)
mapped f (Some x) y e = (x, refl, cc e)
mapped f None y e = absurd (cc e)

-- the value of a local, by its kind
pub local_there : (vs : List Value) (i : ℕ) (k : Kind) → slice_get (map kind_of vs) i ≡ Some k → (slice_get vs i ≡ Some (unwrap_or (slice_get vs i) (Int (pos 0)))) × (kind_of (unwrap_or (slice_get vs i) (Int (pos 0))) ≡ k)
local_there [] i k e = absurd (cc e)
local_there (v ∷ vs) zero k e = (refl, cc e)
local_there (v ∷ vs) (suc i) k e = local_there vs i k e

pub kinds_set : (vs : List Value) (i : ℕ) (v : Value) → slice_get (map kind_of vs) i ≡ Some (kind_of v) → map kind_of (slice_set vs i v) ≡ map kind_of vs
kinds_set [] i v e = refl
kinds_set (u ∷ vs) zero v e = let h : kind_of v ≡ kind_of u = cc e in ap (λ k. k ∷ map kind_of vs) h
kinds_set (u ∷ vs) (suc i) v e = ap (λ ks. kind_of u ∷ ks) (kinds_set vs i v e)

-- the latest first, put in front in order
abbrev pub back_onto : {X : Type 0} → List X → List X → List X
back_onto [] ys = ys
back_onto (x ∷ xs) ys = back_onto xs (x ∷ ys)

back_onto_length : {X : Type 0} (xs ys : List X) → length (back_onto xs ys) ≡ length xs + length ys
back_onto_length [] ys = omega arith
back_onto_length (x ∷ xs) ys = omega (arith, back_onto_length xs (x ∷ ys))

pub length_reverse : {X : Type 0} (xs : List X) → length (reverse xs) ≡ length xs
length_reverse xs = back_onto_length xs [] ∙ omega arith

map_back_onto : {X Y : Type 0} (f : X → Y) (xs ys : List X) → map f (back_onto xs ys) ≡ back_onto (map f xs) (map f ys)
map_back_onto f [] ys = refl
map_back_onto f (x ∷ xs) ys = map_back_onto f xs (x ∷ ys)

pub map_reverse : {X Y : Type 0} (f : X → Y) (xs : List X) → map f (reverse xs) ≡ back_onto (map f xs) []
map_reverse f xs = map_back_onto f xs []

pub map_both : {X Y : Type 0} (f : X → Y) (xs ys : List X) → map f (xs ++ ys) ≡ map f xs ++ map f ys
map_both f [] ys = refl
map_both f (x ∷ xs) ys = ap (λ l. f x ∷ l) (map_both f xs ys)

pub length_mapped : {X Y : Type 0} (f : X → Y) (xs : List X) → length (map f xs) ≡ length xs
length_mapped f [] = refl
length_mapped f (x ∷ xs) = ap suc (length_mapped f xs)

pub kinds_of_firsts : (ks : List Kind) → map kind_of (map first_of_kind ks) ≡ ks
kinds_of_firsts [] = refl
kinds_of_firsts (kinds.Int ∷ ks) = ap (λ l. kinds.Int ∷ l) (kinds_of_firsts ks)
kinds_of_firsts (kinds.Str ∷ ks) = ap (λ l. kinds.Str ∷ l) (kinds_of_firsts ks)

pub take_front : {X : Type 0} (xs ys : List X) (n : ℕ) → n ≡ length xs → take n (xs ++ ys) ≡ xs
take_front [] ys zero e = refl
take_front [] ys (suc n) e = absurd (omega arith)
take_front (x ∷ xs) ys zero e = absurd (omega arith)
take_front (x ∷ xs) ys (suc n) e = ap (λ l. x ∷ l) (take_front xs ys n (omega arith))

pub drop_front : {X : Type 0} (xs ys : List X) (n : ℕ) → n ≡ length xs → drop n (xs ++ ys) ≡ ys
drop_front [] ys zero e = refl
drop_front [] ys (suc n) e = absurd (omega arith)
drop_front (x ∷ xs) ys zero e = absurd (omega arith)
drop_front (x ∷ xs) ys (suc n) e = drop_front xs ys n (omega arith)

-- Values of kinds

pub is_of_kind : (k : Kind) (v : Value) → kind_of v ≡ k → is_of k v ≡ true
is_of_kind kinds.Int (Int n) e = refl
is_of_kind kinds.Int (Str s) e = absurd (cc e)
is_of_kind kinds.Str (Int n) e = absurd (cc e)
is_of_kind kinds.Str (Str s) e = refl

pub is_of_there : (o : Option Kind) (v : Value) → o ≡ Some (kind_of v) → is_of_some o v ≡ true
is_of_there o v e = ap (λ o'. is_of_some o' v) e ∙ is_of_kind (kind_of v) v refl

are_of_kinds : (vs : List Value) → are_of (map kind_of vs) vs ≡ true
are_of_kinds [] = refl
are_of_kinds (Int n ∷ vs) = are_of_kinds vs
are_of_kinds (Str s ∷ vs) = are_of_kinds vs

-- an instruction that takes several operands finds them
pub several_there : (takes : List Kind) (then : List Value → List Value → Move) (vs rest : List Value) → takes ≡ back_onto (map kind_of vs) [] → several takes then (vs ++ rest) ≡ then (reverse vs) rest
several_there takes then vs rest e =
    let kinds : map kind_of (reverse vs) ≡ takes = map_reverse kind_of vs ∙ sym e in
    let n : length takes ≡ length vs = sym (ap length kinds) ∙ length_mapped kind_of (reverse vs) ∙ length_reverse vs in
    let fine : are_of takes (reverse vs) ≡ true = ap (λ ks. are_of ks (reverse vs)) (sym kinds) ∙ are_of_kinds (reverse vs) in
    ap (λ front. only_if (are_of takes (reverse front)) (then (reverse front) (drop (length takes) (vs ++ rest)))) (take_front vs rest (length takes) n)
    ∙ ap (λ behind. only_if (are_of takes (reverse vs)) (then (reverse vs) behind)) (drop_front vs rest (length takes) n)
    ∙ ap (λ b. only_if b (then (reverse vs) rest)) fine
