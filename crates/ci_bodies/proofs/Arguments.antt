-- The arguments of a call, one by one.
use Rattle.std.proofs.Common.{◌≡◌, List, [], ◌∷◌, ◌++◌, map, Option, refl, sym, ap, ◌∙◌}
use Rattle.std.specs.Prelude.{Bool, true, false, ◌&&◌}
use Rattle.ci_tree.specs.Tree as from
use Rattle.ci_tree.specs.Tree.{exprs_from}
use Rattle.ci_tree.specs.Bound as to
use Rattle.ci_tree.specs.Seen as seen
use Rattle.ci_tree.specs.declared.tree.Expr as code
use Rattle.ci_tree.specs.declared.bound.Expr as code_bound
use Rattle.ci_names.specs.declared.fault.Fault.{Fault}
use Rattle.ci_names.specs.Fault.{noted}
use Rattle.ci_names.specs.Given.{Taken}
use Rattle.ci_names.specs.Scopes.{Scope}
use Rattle.ci_names.specs.Kinds.{kind_of, are_taken}
use Rattle.ci_names.specs.Expressions.{args_faults}
use Rattle.ci_names.specs.Binding.{heads_in, bound_expr, bound_args}
use Rattle.ci_bodies.specs.Arguments as arguments
use Rattle.ci_bodies.specs.InFront.{args_in_front}
use Rattle.ci_bodies.specs.Made.{expr_in, exprs_in}
use Rattle.ci_bodies.proofs.InFront.{args_pushed, args_all}
use Rattle.ci_bodies.proofs.Noted.{noted_append}

-- The loop has come to these arguments, where these are taken: what it made and found so far, with theirs, is that of all.
abbrev pub ArgsAt : Scope → List code_bound.Expr → Bool → Option Fault → List Taken → List code.Expr → List Taken → Option Fault → List code.Expr → Type 0
ArgsAt s made fit found takes rest first old all = record {
  tree_is : args_in_front (map (expr_in s) made) (bound_args s (seen.exprs_of rest)) ≡ bound_args s (seen.exprs_of all);
  fit_is : (fit && are_taken s takes (seen.exprs_of rest)) ≡ are_taken s first (seen.exprs_of all);
  found_is : noted found (args_faults s takes (seen.exprs_of rest)) ≡ noted old (args_faults s first (seen.exprs_of all));
}

fit_more : (s : Scope) (fit : Bool) (takes : List Taken) (e : from.Expr) (es : from.Exprs)
    → ((fit && arguments.fits takes e (kind_of s e)) && are_taken s (arguments.behind takes) es) ≡ (fit && are_taken s takes (from.more e es))
fit_more s true [] e es = refl
fit_more s true (taken ∷ takes) e es = refl
fit_more s false takes e es = refl

found_more : (s : Scope) (found : Option Fault) (takes : List Taken) (e : from.Expr) (es : from.Exprs)
    → noted (noted found (arguments.arg_faults s takes e)) (args_faults s (arguments.behind takes) es) ≡ noted found (args_faults s takes (from.more e es))
found_more s found [] e es = sym (noted_append found (arguments.arg_faults s [] e) (args_faults s [] es))
found_more s found (taken ∷ takes) e es = sym (noted_append found (arguments.arg_faults s (taken ∷ takes) e) (args_faults s takes es))

-- one more
pub args_more : (s : Scope) (made more : List code_bound.Expr) (one : code_bound.Expr) (fit fits now : Bool) (found new : Option Fault) (takes left : List Taken) (rest behind : List code.Expr) (e : code.Expr) (first : List Taken) (old : Option Fault) (all : List code.Expr)
    → more ≡ made ++ one ∷ [] → expr_in s one ≡ bound_expr s (seen.expr_of e) → fits ≡ arguments.fits takes (seen.expr_of e) (kind_of s (seen.expr_of e)) → now ≡ (fit && fits)
    → new ≡ noted found (arguments.arg_faults s takes (seen.expr_of e)) → left ≡ arguments.behind takes → rest ≡ e ∷ behind
    → ArgsAt s made fit found takes rest first old all → ArgsAt s more now new left behind first old all
args_more s made more one fit fits now found new takes left rest behind e first old all pushed tree is_fits is_now is_found is_left splits at = record {
  tree_is =
      args_pushed (heads_in s.declared) made more one (bound_args s (seen.exprs_of behind)) pushed
      ∙ ap (λ x. args_in_front (map (expr_in s) made) (to.more x (bound_args s (seen.exprs_of behind)))) tree
      ∙ ap (λ x. args_in_front (map (expr_in s) made) (bound_args s (seen.exprs_of x))) (sym splits)
      ∙ at.tree_is;
  fit_is =
      ap (λ x. x && are_taken s left (seen.exprs_of behind)) (is_now ∙ ap (λ x. fit && x) is_fits)
      ∙ ap (λ x. (fit && arguments.fits takes (seen.expr_of e) (kind_of s (seen.expr_of e))) && are_taken s x (seen.exprs_of behind)) is_left
      ∙ fit_more s fit takes (seen.expr_of e) (seen.exprs_of behind)
      ∙ ap (λ x. fit && are_taken s takes (seen.exprs_of x)) (sym splits)
      ∙ at.fit_is;
  found_is =
      ap (λ x. noted x (args_faults s left (seen.exprs_of behind))) is_found
      ∙ ap (λ x. noted (noted found (arguments.arg_faults s takes (seen.expr_of e))) (args_faults s x (seen.exprs_of behind))) is_left
      ∙ found_more s found takes (seen.expr_of e) (seen.exprs_of behind)
      ∙ ap (λ x. noted found (args_faults s takes (seen.exprs_of x))) (sym splits)
      ∙ at.found_is;
}

and_true : (b : Bool) → b ≡ (b && true)
and_true true = refl
and_true false = refl

-- all were read
pub args_end : (s : Scope) (made : List code_bound.Expr) (fit : Bool) (found : Option Fault) (takes : List Taken) (rest : List code.Expr) (first : List Taken) (old : Option Fault) (all : List code.Expr)
    → rest ≡ [] → ArgsAt s made fit found takes rest first old all
    → (exprs_in s made ≡ bound_args s (seen.exprs_of all)) × (fit ≡ are_taken s first (seen.exprs_of all)) × (found ≡ noted old (args_faults s first (seen.exprs_of all)))
args_end s made fit found takes rest first old all ended at = (
  sym (args_all (map (expr_in s) made)) ∙ ap (λ x. args_in_front (map (expr_in s) made) (bound_args s (seen.exprs_of x))) (sym ended) ∙ at.tree_is,
  and_true fit ∙ ap (λ x. fit && are_taken s takes (seen.exprs_of x)) (sym ended) ∙ at.fit_is,
  ap (λ x. noted found (args_faults s takes (seen.exprs_of x))) (sym ended) ∙ at.found_is,
)
