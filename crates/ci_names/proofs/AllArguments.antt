-- All arguments of a call: those of the source, and behind them the values for those that are left out.
use Rattle.std.specs.Prelude.{◌≡◌, refl, ℕ, zero, suc, List, [], ◌∷◌, map, drop, Option, Some, None}
use Rattle.std.proofs.Common.{ap, ◌∙◌}
use Rattle.ci_base.specs.declared.value.Kind.{Kind}
use Rattle.ci_base.specs.declared.value.Value.{Value}
use Rattle.ci_tree.specs.Tree as from
use Rattle.ci_tree.specs.Bound as to
use Rattle.ci_tree.specs.LeftOut.{Heads, firsts, constants, count_of, followed, call_given}
use Rattle.ci_names.specs.Given.{Taken, by_value, with_default, to_be_set}
use Rattle.ci_names.specs.Scopes.{Scope}
use Rattle.ci_names.specs.Binding.{bound_expr, bound_args}

-- what stands for an argument that is left out, where it may be
abbrev pub default_of : Taken → Option Value
default_of (by_value kind) = None
default_of (with_default kind default) = Some default
default_of (to_be_set kind) = None

-- all arguments where these are taken
abbrev pub all_args : Scope → List Taken → from.Exprs → to.Exprs
all_args s takes from.no_expr = constants (map default_of takes)
all_args s [] (from.more first rest) = to.more (bound_expr s first) (all_args s [] rest)
all_args s (taken ∷ takes) (from.more first rest) = to.more (bound_expr s first) (all_args s takes rest)

-- they are those of the source, and the values behind as many
all_same : (s : Scope) (takes : List Taken) (args : from.Exprs) → followed (bound_args s args) (constants (drop (count_of (bound_args s args)) (map default_of takes))) ≡ all_args s takes args
all_same s takes from.no_expr = refl
all_same s [] (from.more first rest) = ap (λ es. to.more (bound_expr s first) (followed (bound_args s rest) es)) (none_behind (count_of (bound_args s rest))) ∙ ap (to.more (bound_expr s first)) (all_same s [] rest)
  where
    none_behind : (n : ℕ) → constants [] ≡ constants (drop n [])
    none_behind zero = refl
    none_behind (suc n) = refl
all_same s (taken ∷ takes) (from.more first rest) = ap (to.more (bound_expr s first)) (all_same s takes rest)

-- what is called has these values for what it takes
abbrev pub Stands : Heads → to.Callee → List Taken → Type 0
Stands heads callee takes = (n : ℕ) → constants (drop n (firsts heads callee)) ≡ constants (drop n (map default_of takes))

-- a call with the arguments of the source has them all
pub given_all : (heads : Heads) (callee : to.Callee) (s : Scope) (takes : List Taken) (args : from.Exprs) → Stands heads callee takes →
    call_given heads callee (bound_args s args) ≡ to.call callee (count_of (bound_args s args)) (all_args s takes args)
unfolding call_given
given_all heads callee s takes args stands =
    ap (λ es. to.call callee (count_of (bound_args s args)) (followed (bound_args s args) es)) (stands (count_of (bound_args s args)))
    ∙ ap (to.call callee (count_of (bound_args s args))) (all_same s takes args)

-- where all are taken by value, none is left out
pub none_left : (ks : List Kind) (n : ℕ) → constants (drop n []) ≡ constants (drop n (map default_of (map by_value ks)))
none_left [] n = refl
none_left (k ∷ ks) zero = none_left ks zero
none_left (k ∷ ks) (suc n) = nothing n ∙ none_left ks n
  where
    nothing : (m : ℕ) → constants [] ≡ constants (drop m [])
    nothing zero = refl
    nothing (suc m) = refl
