-- The cells of the variables of a bound project: those of its arrays and of its GLOBAL scalars don't meet.
use Rattle.std.specs.Prelude.{◌≡◌, refl, ℕ, ◌+◌, ◌<◌, ◌≤◌, Bool, true, false, not, ◌&&◌, if◌then◌else◌, List, [], ◌∷◌, ◌++◌, length, Option, Some, None, All, AllPairs}
use Rattle.std.proofs.Common.{sym, subst}
use Rattle.std.proofs.lemmas.Bool.{true≢false}
use Rattle.std.proofs.lemmas.List.Elements.{All-nil, All-cons, All-head, All-tail, All-weaker}
use Rattle.std.proofs.lemmas.List.Kept.{AllPairs-cons}
use Rattle.std.proofs.lemmas.List.Sums.{sum_by-cons}
use native.Mathlib.Omega.{arith}
use Rattle.ci_base.specs.declared.bounds.TheConstants.{MOST_CELLS}
use Rattle.ci_tree.specs.declared.tree.Length.{Length}
use Rattle.ci_tree.specs.Bound as to
use Rattle.ci_names.specs.Declarations.{Variable, Declared, each_behind, size_said, is_array_said, is_array, size_of, cells_of, kind_of_variable}
use Rattle.ci_names.specs.Faults.{variable_faults}
use Rattle.ci_names.specs.Binding.{bound_declared}
use Rattle.ci_names.proofs.Free.{is_free}
use Rattle.ci_names.proofs.Whole.{cells_few, all_sized, cells_after}

-- what each variable that passes a test makes
abbrev Makes : {A : Type 0} → (Variable → Bool) → (List Variable → Variable → A) → List Variable → Variable → List A
Makes test item before v = if test v then item before v ∷ [] else []

abbrev IsSized : Variable → Type 0
IsSized v = 1 ≤ size_of v

no_pairs : {A : Type 0} (R : A → A → Type 0) → AllPairs R []
no_pairs R i j d h k = absurd (none j k)
  where
    none : (j : ℕ) → j < 0 → ⊥
    none j k = omega arith

-- what is made begins where the cells of the variables before it end, and each before the next
made_apart : {A : Type 0} (test : Variable → Bool) (item : List Variable → Variable → A) (first : A → ℕ) (R : A → A → Type 0) →
    ((before : List Variable) (v : Variable) → first (item before v) ≡ cells_of before) →
    ((before : List Variable) (v : Variable) (y : A) → test v ≡ true → cells_of before + size_of v ≤ first y → R (item before v) y) →
    (before vs : List Variable) → All (λ (y : A). cells_of before ≤ first y) (each_behind (Makes test item) before vs) × AllPairs R (each_behind (Makes test item) before vs)
made_apart test item first R starts joins before [] = (All-nil (λ y. cells_of before ≤ first y), no_pairs R)
made_apart test item first R starts joins before (v ∷ vs) =
    let rest = made_apart test item first R starts joins (before ++ v ∷ []) vs in
    by_test (test v) refl (each_behind (Makes test item) (before ++ v ∷ []) vs)
    (All-weaker (λ y. cells_of (before ++ v ∷ []) ≤ first y) (λ y. cells_of before + size_of v ≤ first y) (λ y h. subst (λ n. n ≤ first y) (cells_after before v) h) (each_behind (Makes test item) (before ++ v ∷ []) vs) rest.0)
    rest.1
  where
    sum_least : (a b n : ℕ) → a + b ≤ n → a ≤ n
    sum_least a b n h = omega arith

    same_least : (a n : ℕ) → n ≡ a → a ≤ n
    same_least a n h = omega arith

    by_test : (b : Bool) → test v ≡ b → (ys : List _) → All (λ y. cells_of before + size_of v ≤ first y) ys → AllPairs R ys →
        All (λ y. cells_of before ≤ first y) ((if b then item before v ∷ [] else []) ++ ys) × AllPairs R ((if b then item before v ∷ [] else []) ++ ys)
    by_test true is ys h pairs = (
      All-cons (λ y. cells_of before ≤ first y) (item before v) ys (same_least (cells_of before) (first (item before v)) (starts before v))
          (All-weaker (λ y. cells_of before + size_of v ≤ first y) (λ y. cells_of before ≤ first y) (λ y i. sum_least (cells_of before) (size_of v) (first y) i) ys h),
      AllPairs-cons R (item before v) ys (All-weaker (λ y. cells_of before + size_of v ≤ first y) (R (item before v)) (λ y i. joins before v y is i) ys h) pairs,
    )
    by_test false is ys h pairs = (All-weaker (λ y. cells_of before + size_of v ≤ first y) (λ y. cells_of before ≤ first y) (λ y i. sum_least (cells_of before) (size_of v) (first y) i) ys h, pairs)

-- no more is made than there are cells
made_few : {A : Type 0} (test : Variable → Bool) (item : List Variable → Variable → A) (before vs : List Variable) → All IsSized vs → length (each_behind (Makes test item) before vs) ≤ cells_of vs
made_few test item before [] h = omega arith
made_few test item before (v ∷ vs) h =
    by_test (test v) (each_behind (Makes test item) (before ++ v ∷ []) vs) (cells_of (v ∷ vs)) (sum_by-cons size_of v vs) (All-head IsSized v vs h) (made_few test item (before ++ v ∷ []) vs (All-tail IsSized v vs h))
  where
    by_test : (b : Bool) (ys : List _) (n : ℕ) → n ≡ size_of v + cells_of vs → 1 ≤ size_of v → length ys ≤ cells_of vs → length ((if b then item before v ∷ [] else []) ++ ys) ≤ n
    by_test true ys n e one few = omega arith
    by_test false ys n e one few = omega arith

pub arrays_apart : (d : Declared) → AllPairs (λ (a b : to.Array). a.first + a.length ≤ b.first) (bound_declared d).arrays
arrays_apart d =
    (made_apart is_array (λ before v. record { first = cells_of before; kind = kind_of_variable v; length = size_of v }) (λ (a : to.Array). a.first) (λ (a b : to.Array). a.first + a.length ≤ b.first)
    (λ before v. refl) (λ before v y is h. h) [] d.variables).1

-- a GLOBAL scalar
abbrev is_global_scalar : Variable → Bool
is_global_scalar v = v.global && not (is_array v)

scalar_size : (l : Option Length) (global : Bool) → (global && not (is_array_said l)) ≡ true → size_said l ≡ 1
scalar_size None global h = refl
scalar_size (Some l) true h = absurd (true≢false (sym h))
scalar_size (Some l) false h = absurd (true≢false (sym h))

pub cells_rise : (d : Declared) → AllPairs (λ (g h : to.Global). g.cell < h.cell) (bound_declared d).globals
cells_rise d =
    (made_apart is_global_scalar (λ before v. record { name = v.name; cell = cells_of before }) (λ (g : to.Global). g.cell) (λ (g h : to.Global). g.cell < h.cell)
    (λ before v. refl) (λ before v y is h. above (cells_of before) (size_of v) y.cell (scalar_size v.length v.global is) h) [] d.variables).1
  where
    above : (a b n : ℕ) → b ≡ 1 → a + b ≤ n → a < n
    above a b n e h = omega arith

few_enough : (n k : ℕ) → n ≤ k → k ≤ MOST_CELLS → n ≤ MOST_CELLS
few_enough n k h i = omega arith

pub arrays_few : (d : Declared) → is_free (each_behind (variable_faults d) [] d.variables) ≡ true → length (bound_declared d).arrays ≤ MOST_CELLS
arrays_few d free =
    few_enough (length (bound_declared d).arrays) (cells_of d.variables)
    (made_few is_array (λ before v. record { first = cells_of before; kind = kind_of_variable v; length = size_of v }) [] d.variables (all_sized d [] d.variables free)) (cells_few d free)

pub globals_few : (d : Declared) → is_free (each_behind (variable_faults d) [] d.variables) ≡ true → length (bound_declared d).globals ≤ MOST_CELLS
globals_few d free =
    few_enough (length (bound_declared d).globals) (cells_of d.variables)
    (made_few is_global_scalar (λ before v. record { name = v.name; cell = cells_of before }) [] d.variables (all_sized d [] d.variables free)) (cells_few d free)
