-- Look-ups tell whether a declaration of the same name stands before one.
use Rattle.std.proofs.Common.{◌≡◌, ℕ, zero, suc, ◌+◌, Bool, true, false, cond, List, [], ◌∷◌, length, take, Some, None, refl, sym, ap, ◌∙◌, arith}
use Rattle.std.specs.Prelude.{not, ◌&&◌, ◌||◌, nat_lt, ◌==◌, position}
use Rattle.std.specs.List.{list_any, position_or_len}
use Rattle.std.specs.Str.{str_eq_ignore_ascii_case, str_to_ascii_lowercase}
use Rattle.std.specs.Cmp.Lexicographic.{nat_list_eq_equiv}
use Rattle.std.proofs.lemmas.Bool.Decides.{nat_tests}
use Rattle.ci_names.specs.Declarations.{Function, Variable, is_of_file, is_public}
use Rattle.ci_names.specs.Faults.{same_function, same_variable}
use Rattle.ci_binder.specs.Before.{is_among}

-- the first place is one of the first n, and there is one
abbrev is_first : ℕ → ℕ → ℕ → Bool
is_first at n size = nat_lt at n && nat_lt at size

at_none : (n : ℕ) → false ≡ is_first 0 n 0
at_none n = grind (arith, nat_tests)

at_zero : (at size : ℕ) → false ≡ is_first at 0 size
at_zero at size = grind (arith, nat_tests)

at_one : (n size : ℕ) → true ≡ is_first 0 (suc n) (suc size)
at_one n size = grind (arith, nat_tests)

at_more : (at n size : ℕ) → is_first at n size ≡ is_first (1 + at) (suc n) (suc size)
at_more at n size = grind (arith, nat_tests)

any_step : (b any : Bool) (at n size : ℕ) → any ≡ is_first at n size → (b || any) ≡ is_first (cond (not b) (1 + at) 0) (suc n) (suc size)
any_step true any at n size h = at_one n size
any_step false any at n size h = h ∙ at_more at n size

any_first : {A : Type 0} (p : A → Bool) (xs : List A) (n : ℕ) → list_any p (take n xs) ≡ is_first (position_or_len p xs) n (length xs)
any_first p [] zero = at_none 0
any_first p [] (suc n) = at_none (suc n)
any_first p (x ∷ xs) zero = at_zero (position_or_len p (x ∷ xs)) (length (x ∷ xs))
any_first p (x ∷ xs) (suc n) = any_step (p x) (list_any p (take n xs)) (position_or_len p xs) n (length xs) (any_first p xs n)

among_first : (at n size : ℕ) (b : Bool) → nat_lt at size ≡ b → is_among n (cond b (Some at) None) ≡ (nat_lt at n && b)
among_first at n size true h = grind (arith, nat_tests)
among_first at n size false h = grind (arith, nat_tests)

-- the first place is one of the first n where one of these passes
pub among : {A : Type 0} (p : A → Bool) (xs : List A) (n : ℕ) → is_among n (position p xs) ≡ list_any p (take n xs)
among p xs n = among_first (position_or_len p xs) n (length xs) (nat_lt (position_or_len p xs) (length xs)) refl ∙ sym (any_first p xs n)

-- letter case has no meaning, whichever name comes first
same_name : (x y : List ℕ) → str_eq_ignore_ascii_case x y ≡ str_eq_ignore_ascii_case y x
same_name x y = nat_list_eq_equiv.symm (str_to_ascii_lowercase x) (str_to_ascii_lowercase y)

same_number : (a b : ℕ) → (a == b) ≡ (b == a)
same_number a b = grind (arith, nat_tests)

-- one name, in one file or both seen everywhere
either : (n m e d p q : Bool) → n ≡ m → e ≡ d → (n && (e || (p && q))) ≡ ((d && m) || (p && (q && m)))
either true true e d p q h i = by_e e d p q i
  where
    by_e : (e d p q : Bool) → e ≡ d → (e || (p && q)) ≡ ((d && true) || (p && (q && true)))
    by_e true true p q i = refl
    by_e true false p q i = cc
    by_e false true p q i = cc
    by_e false false true true i = refl
    by_e false false true false i = refl
    by_e false false false q i = refl
either true false e d p q h i = cc
either false true e d p q h i = cc
either false false e d p q h i = by_e d p q
  where
    by_e : (d p q : Bool) → false ≡ ((d && false) || (p && (q && false)))
    by_e true true true = refl
    by_e true true false = refl
    by_e true false q = refl
    by_e false true true = refl
    by_e false true false = refl
    by_e false false q = refl

any_same : {A : Type 0} (p q : A → Bool) → ((x : A) → p x ≡ q x) → (xs : List A) → list_any p xs ≡ list_any q xs
any_same p q h [] = refl
any_same p q h (x ∷ xs) = ap (λ b. b || list_any p xs) (h x) ∙ ap (λ b. q x || b) (any_same p q h xs)

mixed : (a b c d : Bool) → ((a || b) || (c || d)) ≡ ((a || c) || (b || d))
mixed true b c d = refl
mixed false true true d = refl
mixed false true false d = refl
mixed false false c d = refl

any_either : {A : Type 0} (p q : A → Bool) (xs : List A) → list_any (λ x. p x || q x) xs ≡ (list_any p xs || list_any q xs)
any_either p q [] = refl
any_either p q (x ∷ xs) = ap (λ b. (p x || q x) || b) (any_either p q xs) ∙ mixed (p x) (q x) (list_any p xs) (list_any q xs)

any_none : {A : Type 0} (xs : List A) → list_any (λ (x : A). false) xs ≡ false
any_none [] = refl
any_none (x ∷ xs) = any_none xs

any_both : {A : Type 0} (b : Bool) (p : A → Bool) (xs : List A) → list_any (λ x. b && p x) xs ≡ (b && list_any p xs)
any_both true p xs = refl
any_both false p xs = any_none xs

pub functions_before : (f : Function) (fs : List Function) (n : ℕ) →
    list_any (same_function f) (take n fs) ≡ (is_among n (position (is_of_file f.file f.name) fs) || (not f.private && is_among n (position (is_public f.name) fs)))
functions_before f fs n = sym (
    ap (λ b. b || (not f.private && is_among n (position (is_public f.name) fs))) (among (is_of_file f.file f.name) fs n)
    ∙ ap (λ b. list_any (is_of_file f.file f.name) (take n fs) || (not f.private && b)) (among (is_public f.name) fs n)
    ∙ ap (λ b. list_any (is_of_file f.file f.name) (take n fs) || b) (sym (any_both (not f.private) (is_public f.name) (take n fs)))
    ∙ sym (any_either (is_of_file f.file f.name) (λ g. not f.private && is_public f.name g) (take n fs))
    ∙ sym (any_same (same_function f) (λ g. is_of_file f.file f.name g || (not f.private && is_public f.name g)) (λ g. either (str_eq_ignore_ascii_case f.name g.name) (str_eq_ignore_ascii_case g.name f.name) (f.file == g.file) (g.file == f.file) (not f.private) (not g.private) (same_name f.name g.name) (same_number f.file g.file)) (take n fs)))

-- the variable has the name, and stands in the file or is seen everywhere
abbrev own_variable : ℕ → List ℕ → Variable → Bool
own_variable file name v = v.file == file && str_eq_ignore_ascii_case v.name name

abbrev global_variable : List ℕ → Variable → Bool
global_variable name v = v.global && str_eq_ignore_ascii_case v.name name

pub variables_before : (v : Variable) (vs : List Variable) (n : ℕ) →
    list_any (same_variable v) (take n vs) ≡ (is_among n (position (own_variable v.file v.name) vs) || (v.global && is_among n (position (global_variable v.name) vs)))
variables_before v vs n = sym (
    ap (λ b. b || (v.global && is_among n (position (global_variable v.name) vs))) (among (own_variable v.file v.name) vs n)
    ∙ ap (λ b. list_any (own_variable v.file v.name) (take n vs) || (v.global && b)) (among (global_variable v.name) vs n)
    ∙ ap (λ b. list_any (own_variable v.file v.name) (take n vs) || b) (sym (any_both v.global (global_variable v.name) (take n vs)))
    ∙ sym (any_either (own_variable v.file v.name) (λ w. v.global && global_variable v.name w) (take n vs))
    ∙ sym (any_same (same_variable v) (λ w. own_variable v.file v.name w || (v.global && global_variable v.name w)) (λ w. either (str_eq_ignore_ascii_case v.name w.name) (str_eq_ignore_ascii_case w.name v.name) (v.file == w.file) (w.file == v.file) v.global w.global (same_name v.name w.name) (same_number v.file w.file)) (take n vs)))
