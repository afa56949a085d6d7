-- When arguments don't fit.
use Rattle.std.proofs.Common.{◌≡◌, ◌<◌, ◌+◌, ◌-◌, ℕ, suc, Bool, true, false, cond, List, [], ◌∷◌, length, drop, map, Option, Some, None, refl, sym, ap, ap₂, ◌∙◌, arith, length-append, length-drop, true≢false}
use Rattle.std.proofs.lemmas.List.{length-map}
use Rattle.std.specs.Prelude.{◌&&◌, slice_get}
use Rattle.ci_base.specs.declared.layout.Head.{Head}
use Rattle.ci_base.specs.declared.value.Kind.{Kind}
use Rattle.ci_base.specs.declared.value.Value.{Value}
use Rattle.ci_base.specs.Values.{kind_of}
use Rattle.ci_shared.specs.Arguments.{arguments, fitting, given_to, list_of, same_kinds, with_defaults}
use Rattle.ci_shared.specs.Words.{same_kind}

same_lengths : (ks ls : List Kind) → same_kinds ks ls ≡ true → length ks ≡ length ls
same_lengths [] [] e = refl
same_lengths [] (l ∷ ls) e = absurd (true≢false (sym e))
same_lengths (k ∷ ks) [] e = absurd (true≢false (sym e))
same_lengths (k ∷ ks) (l ∷ ls) e = ap suc (same_lengths ks ls (rest (same_kind k l) e))
  where
    rest : (b : Bool) → (b && same_kinds ks ls) ≡ true → same_kinds ks ls ≡ true
    rest true f = f
    rest false f = absurd (true≢false (sym f))

long : (h : Head) (vs : List Value) → length (map kind_of (with_defaults h vs)) ≡ length vs + (length h.defaults - (length vs + length h.defaults - length h.kinds))
long h vs =
    length-map (with_defaults h vs) kind_of ∙ length-append vs (drop (length vs + length h.defaults - length h.kinds) h.defaults)
    ∙ ap (λ (n : ℕ). length vs + n) (length-drop (length vs + length h.defaults - length h.kinds) h.defaults)

module _ (h : Head) (vs : List Value) where
  unfit : (length vs + (length h.defaults - (length vs + length h.defaults - length h.kinds)) ≡ length h.kinds → ⊥) → fitting h vs ≡ None
  unfit n = by (same_kinds (map kind_of (with_defaults h vs)) h.kinds) refl
    where
      by : (b : Bool) → same_kinds (map kind_of (with_defaults h vs)) h.kinds ≡ b → cond b (Some (with_defaults h vs)) None ≡ None
      by true e = absurd (n (sym (long h vs) ∙ same_lengths (map kind_of (with_defaults h vs)) h.kinds e))
      by false e = refl

  pub too_many : length h.kinds < length vs → fitting h vs ≡ None
  too_many l = unfit (λ e. omega (arith, l, e))

  pub too_few : length vs + length h.defaults < length h.kinds → fitting h vs ≡ None
  too_few l = unfit (λ e. omega (arith, l, e))

pub takes : (hs : List Head) (f : ℕ) (list : List ℕ) (h : Head) (vs : List Value) → slice_get hs f ≡ Some h → list_of list ≡ Some vs → arguments hs f list ≡ fitting h vs
unfolding arguments
takes hs f list h vs e l = ap₂ (λ (o : Option Head) (x : Option (List Value)). given_to o x) e l

pub no_list : (hs : List Head) (f : ℕ) (list : List ℕ) → list_of list ≡ None → arguments hs f list ≡ None
unfolding arguments
no_list hs f list l = ap (λ (x : Option (List Value)). given_to (slice_get hs f) x) l ∙ by (slice_get hs f)
  where
    by : (o : Option Head) → given_to o None ≡ None
    by None = refl
    by (Some h) = refl
