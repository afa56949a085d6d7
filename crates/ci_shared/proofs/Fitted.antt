-- The arguments that a function takes are of the kinds of its parameters.
use Rattle.std.proofs.Common.{◌≡◌, Bool, true, false, cond, List, [], ◌∷◌, Option, Some, None, refl, sym, ap₂, subst, map, true≢false}
use Rattle.std.specs.Prelude.{◌&&◌, slice_get}
use Rattle.ci_base.specs.declared.layout.Head.{Head}
use Rattle.ci_base.specs.declared.value.Kind.{Kind}
use Rattle.ci_base.specs.declared.value.Kind.TheVariants as kinds
use Rattle.ci_base.specs.declared.value.Value.{Value}
use Rattle.ci_base.specs.Values.{kind_of}
use Rattle.ci_shared.specs.Arguments.{arguments, fitting, given_to, list_of, same_kinds, with_defaults}
use Rattle.ci_shared.specs.Laws.{ArgumentsFit}
use Rattle.ci_shared.specs.Words.{same_kind}

both : (a b : Bool) → (a && b) ≡ true → (a ≡ true) × (b ≡ true)
both true b e = (refl, e)
both false b e = absurd (true≢false (sym e))

kind_same : (a b : Kind) → same_kind a b ≡ true → a ≡ b
kind_same kinds.Int kinds.Int e = refl
kind_same kinds.Int kinds.Str e = absurd (cc)
kind_same kinds.Str kinds.Int e = absurd (cc)
kind_same kinds.Str kinds.Str e = refl

pub kinds_same : (ks ls : List Kind) → same_kinds ks ls ≡ true → ks ≡ ls
kinds_same [] [] e = refl
kinds_same [] (l ∷ ls) e = absurd (cc)
kinds_same (k ∷ ks) [] e = absurd (cc)
kinds_same (k ∷ ks) (l ∷ ls) e = let h = both (same_kind k l) (same_kinds ks ls) e in ap₂ (λ (a : Kind) (b : List Kind). a ∷ b) (kind_same k l h.0) (kinds_same ks ls h.1)

fits : (h : Head) (vs args : List Value) → fitting h vs ≡ Some args → map kind_of args ≡ h.kinds
fits h vs args e = by (same_kinds (map kind_of (with_defaults h vs)) h.kinds) refl e
  where
    by : (b : Bool) → same_kinds (map kind_of (with_defaults h vs)) h.kinds ≡ b → cond b (Some (with_defaults h vs)) None ≡ Some args → map kind_of args ≡ h.kinds
    by true t i = let same : with_defaults h vs ≡ args = cc i in subst (λ (l : List Value). map kind_of l ≡ h.kinds) same (kinds_same (map kind_of (with_defaults h vs)) h.kinds t)
    by false t i = absurd (cc i)

given : (o : Option Head) (l : Option (List Value)) (args : List Value) → given_to o l ≡ Some args → (h : Head) × (o ≡ Some h) × (map kind_of args ≡ h.kinds)
given (Some h) (Some vs) args e = (h, refl, fits h vs args e)
given (Some h) None args e = absurd (cc e)
given None l args e = absurd (cc e)

pub arguments_fit : ArgumentsFit
unfolding arguments
arguments_fit hs f list args e = given (slice_get hs f) (list_of list) args e
