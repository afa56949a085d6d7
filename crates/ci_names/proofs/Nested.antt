-- The functions of a bound project have few levels open at once.
use Rattle.std.specs.Prelude.{◌≡◌, ℕ, suc, ◌≤◌, List, [], ◌∷◌, All, Some, slice_get}
use Rattle.std.proofs.Common.{refl, ap}
use Rattle.std.proofs.lemmas.List.Elements.{All-nil, All-cons, All-map, All-same}
use native.Mathlib.Omega.{arith}
use Rattle.ci_base.specs.declared.bounds.TheConstants.{MOST_LEVELS}
use Rattle.ci_tree.specs.Tree.{Item}
use Rattle.ci_tree.specs.Bound as to
use Rattle.ci_tree.specs.Bound.{Project}
use Rattle.ci_tree.specs.Depth.{block_depth}
use Rattle.ci_names.specs.Declarations.{Function, declared_in}
use Rattle.ci_names.specs.Scopes.{scope_of}
use Rattle.ci_names.specs.Binding.{bound_function, binds}
use Rattle.ci_names.specs.Laws.{AreDerived}
use Rattle.ci_names.proofs.Deep.{block_deep, body_deep}
use Rattle.ci_names.proofs.Depths.{block_shallow}
use Rattle.ci_names.proofs.Derived.{of_derived}

-- what holds at each place holds of all
pub all_at : {A : Type 0} (P : A → Type 0) (xs : List A) → ((n : ℕ) (x : A) → slice_get xs n ≡ Some x → P x) → All P xs
all_at P [] h = All-nil P
all_at P (x ∷ xs) h = All-cons P x xs (h 0 x refl) (all_at P xs (λ n y e. h (suc n) y e))

within : (a b l : ℕ) → a ≤ b → b ≤ l → a ≤ l
within a b l h i = omega arith

pub nesting_is_small : (files : List (List Item)) (project : Project) → AreDerived files → binds files project → All (λ (f : to.Function). block_depth f.body ≤ MOST_LEVELS) project.functions
nesting_is_small files project derived h =
    let d = declared_in files in
    let few : All (λ (f : Function). block_depth (bound_function d f).body ≤ MOST_LEVELS) d.functions = all_at (λ (f : Function). block_depth (bound_function d f).body ≤ MOST_LEVELS) d.functions (λ n f e.
    within (block_depth (bound_function d f).body) (block_deep f.body) MOST_LEVELS (block_shallow (scope_of d f) f.body) (of_derived (λ b. block_deep b ≤ MOST_LEVELS) (λ i b is. body_deep MOST_LEVELS i b is) files derived n f e)) in
    All-same (λ (f : to.Function). block_depth f.body ≤ MOST_LEVELS) project.functions _ (ap (λ p. p.functions) h.1) (All-map (λ (f : to.Function). block_depth f.body ≤ MOST_LEVELS) (bound_function d) d.functions few)
