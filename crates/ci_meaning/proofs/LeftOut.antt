-- Parameters whose arguments are left out, as a loop over them comes to them.
use Rattle.std.proofs.Common.{◌≡◌, ℕ, zero, suc, ◌+◌, ◌<◌, List, [], ◌∷◌, Some, None, length, refl, sym, ap, ◌∙◌, get_or, arith}
use Rattle.std.specs.Prelude.{drop}
use Rattle.std.proofs.lemmas.List.{drop_more}
use Rattle.ci_base.specs.declared.value.Value.{Value}
use Rattle.ci_tree.specs.declared.bound.Param as code_param
use Rattle.ci_tree.specs.Bound as to
use Rattle.ci_tree.specs.Bound.{Callee, Expr, Exprs, Param, exprs_from}
use Rattle.ci_tree.specs.LeftOut.{constant, constants}
use Rattle.ci_meaning.specs.Held.{values_of}

pub default_count : (ps : List code_param.Param) → length (values_of ps) ≡ length ps
default_count [] = refl
default_count (q ∷ ps) = ap (λ n. suc n) (default_count ps)

first_at : (ps : List code_param.Param) (i : ℕ) (d : code_param.Param) → get_or (values_of ps) i d.first ≡ (get_or ps i d).first
first_at [] i d = refl
first_at (q ∷ ps) zero d = refl
first_at (q ∷ ps) (suc i) d = first_at ps i d

-- a parameter that a loop has come to, with a value or without
value_at : (ps : List code_param.Param) (i : ℕ) (d : code_param.Param) → i < length ps → drop i (values_of ps) ≡ (get_or ps i d).first ∷ drop (i + 1) (values_of ps)
value_at ps i d within =
    drop_more (values_of ps) i d.first (omega (arith, within, default_count ps))
    ∙ ap (λ o. o ∷ drop (i + 1) (values_of ps)) (first_at ps i d)

pub default_there : (ps : List code_param.Param) (i : ℕ) (d : code_param.Param) (v : Value) → i < length ps → (get_or ps i d).first ≡ Some v → constants (drop i (values_of ps)) ≡ to.more (constant v) (constants (drop (i + 1) (values_of ps)))
default_there ps i d v within e = ap (λ l. constants l) (value_at ps i d within ∙ ap (λ o. o ∷ drop (i + 1) (values_of ps)) e)

pub default_missing : (ps : List code_param.Param) (i : ℕ) (d : code_param.Param) → i < length ps → (get_or ps i d).first ≡ None → constants (drop (i + 1) (values_of ps)) ≡ constants (drop i (values_of ps))
default_missing ps i d within e = sym (ap (λ l. constants l) (value_at ps i d within ∙ ap (λ o. o ∷ drop (i + 1) (values_of ps)) e))
