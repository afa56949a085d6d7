-- Which function a name means in a file.
use Rattle.std.proofs.Common.{◌≡◌, ◌∙◌, ℕ, zero, suc, ◌<◌, nat_lt, Bool, true, false, ◌&&◌, ◌||◌, cond, List, [], ◌∷◌, length, position, Option, Some, None, is_some, option_map, slice_get, arith, refl}
use Rattle.std.specs.List.{list_any, position_or_len}
use Rattle.std.specs.Option.{option_or}
use borrow.Author.Tests.{ltb-true}
use Rattle.ci_tree.specs.Bound as to
use Rattle.ci_names.specs.Declarations as declarations
use Rattle.ci_names.specs.Given.{Called}
use Rattle.ci_names.specs.Declarations.{Function, is_of_file, is_public, called_function, function_number}
use Rattle.ci_scopes.specs.Stands.{is_own_private}
use Rattle.ci_scopes.proofs.Tables.{or_some}

turned : (a b : Bool) → (a && b) ≡ (b && a)
turned false false = refl
turned false true = refl
turned true false = refl
turned true true = refl

any_same : {X : Type 0} (p q : X → Bool) (xs : List X) → ((x : X) → p x ≡ q x) → list_any p xs ≡ list_any q xs
any_same p q [] h = refl
any_same p q (x ∷ xs) h = λ i. h x i || any_same p q xs h i

-- a PRIVATE function of a file
pub private_there : (file : ℕ) (name : List ℕ) (fs : List Function) → list_any (is_own_private file name) fs ≡ list_any (λ f. is_of_file file name f && f.private) fs
private_there file name fs = any_same (is_own_private file name) (λ f. is_of_file file name f && f.private) fs (λ f. turned f.private (is_of_file file name f))

some_map : {X Y : Type 0} (f : X → Y) (o : Option X) → is_some (option_map f o) ≡ is_some o
some_map f None = refl
some_map f (Some x) = refl

get_within : {X : Type 0} (xs : List X) (n : ℕ) → n < length xs → is_some (slice_get xs n) ≡ true
get_within [] n h = absurd (omega arith)
get_within (x ∷ xs) zero h = refl
get_within (x ∷ xs) (suc n) h = get_within xs n (omega arith)

position_within : {X : Type 0} (p : X → Bool) (xs : List X) (n : ℕ) → position p xs ≡ Some n → n < length xs
position_within p xs n h = by (nat_lt (position_or_len p xs) (length xs)) refl h
  where
    by : (b : Bool) → nat_lt (position_or_len p xs) (length xs) ≡ b → cond b (Some (position_or_len p xs)) None ≡ Some n → n < length xs
    by true e g = let same : position_or_len p xs ≡ n = cc in omega (arith, same, ltb-true (position_or_len p xs) (length xs) e)
    by false e g = absurd (cc)

number_within : (fs : List Function) (file : ℕ) (name : List ℕ) (n : ℕ) → function_number fs file name ≡ Some n → n < length fs
number_within fs file name n h = by (list_any (λ f. is_of_file file name f && f.private) fs) h
  where
    by : (b : Bool) → cond b (position (is_of_file file name) fs) (position (is_public name) fs) ≡ Some n → n < length fs
    by true e = position_within (is_of_file file name) fs n e
    by false e = position_within (is_public name) fs n e

abbrev called_from : ℕ → Function → Called
called_from n f = record { callee = to.function n; heading = declarations.heading_of f }

-- the function of a number that a name means is there
pub called_there : (fs : List Function) (file : ℕ) (name : List ℕ) (n : ℕ) (given : Option Called) → function_number fs file name ≡ Some n → called_function fs n ≡ option_or (called_function fs n) given
called_there fs file name n given h =
    or_some (called_function fs n) given (some_map (called_from n) (slice_get fs n) ∙ get_within fs n (number_within fs file name n h))
