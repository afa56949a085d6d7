-- The first of the faults that are noted one after the other is the first of them all in order.
use Rattle.std.specs.Prelude.{◌≡◌, refl, Bool, true, false, if◌then◌else◌, List, [], ◌∷◌, ◌++◌, Option, Some, None, is_some, slice_get}
use Rattle.std.proofs.Common.{sym, ap, ◌∙◌}
use Rattle.std.proofs.lemmas.Bool.{true≢false}
use Rattle.ci_tree.specs.Tree.{Item}
use Rattle.ci_names.specs.Fault.{Fault, is_before, placed, sorted, first_of, noted}
use Rattle.ci_names.specs.Declarations.{declared_in}
use Rattle.ci_names.specs.Faults.{declared_faults, first_fault}
use Rattle.ci_names.proofs.Ordered.{before_trans, before_total}

pub noted_append : (found : Option Fault) (fs gs : List Fault) → noted found (fs ++ gs) ≡ noted (noted found fs) gs
noted_append found [] gs = refl
noted_append found (f ∷ fs) gs = noted_append (Some (first_of found f)) fs gs

-- the first of two faults, each of which may be missing
abbrev first_of_both : Option Fault → Option Fault → Option Fault
first_of_both found None = found
first_of_both found (Some g) = Some (first_of found g)

-- the first of three, by what is before what
abbrev choose : Bool → Fault → Fault → Fault
choose b f g = if b then f else g

chosen : (x f g : Fault) (fx gf gx : Bool) → is_before f x ≡ fx → is_before g f ≡ gf → is_before g x ≡ gx → choose (is_before g (choose fx f x)) g (choose fx f x) ≡ choose (is_before (choose gf g f) x) (choose gf g f) x
chosen x f g true true true hf hg hx = ap (λ b. choose b g f) hg ∙ ap (λ b. choose b g x) (sym hx)
chosen x f g true true false hf hg hx = absurd (true≢false (sym (before_trans g f x hg hf) ∙ hx))
chosen x f g true false gx hf hg hx = ap (λ b. choose b g f) hg ∙ ap (λ b. choose b f x) (sym hf)
chosen x f g false true gx hf hg hx = refl
chosen x f g false false true hf hg hx = absurd (true≢false (sym (before_trans g x f hx (before_total f x hf)) ∙ hg))
chosen x f g false false false hf hg hx = ap (λ b. choose b g x) hx ∙ ap (λ b. choose b f x) (sym hf)

first_of_three : (found : Option Fault) (f g : Fault) → first_of (Some (first_of found f)) g ≡ first_of found (first_of (Some f) g)
first_of_three None f g = refl
first_of_three (Some x) f g = chosen x f g (is_before f x) (is_before g f) (is_before g x) refl refl refl

both_assoc : (found : Option Fault) (f : Fault) (o : Option Fault) → first_of_both (Some (first_of found f)) o ≡ first_of_both found (first_of_both (Some f) o)
both_assoc found f None = refl
both_assoc found f (Some g) = ap (λ h. Some h) (first_of_three found f g)

-- the first where a fault is placed among others
head_put : (f g : Fault) (gs rest : List Fault) (a b : Bool) → is_before f g ≡ a → is_before g f ≡ b → slice_get (if a then (if b then g ∷ gs else f ∷ g ∷ gs) else g ∷ rest) 0 ≡ Some (choose b g f)
head_put f g gs rest true true h i = refl
head_put f g gs rest true false h i = refl
head_put f g gs rest false true h i = refl
head_put f g gs rest false false h i = absurd (true≢false (sym (before_total f g h) ∙ i))

head_placed : (f : Fault) (gs : List Fault) → slice_get (placed f gs) 0 ≡ first_of_both (Some f) (slice_get gs 0)
head_placed f [] = refl
head_placed f (g ∷ gs) = head_put f g gs (placed f gs) (is_before f g) (is_before g f) refl refl

noted_both : (found : Option Fault) (fs : List Fault) → noted found fs ≡ first_of_both found (slice_get (sorted fs) 0)
noted_both found [] = refl
noted_both found (f ∷ fs) =
    noted_both (Some (first_of found f)) fs
    ∙ both_assoc found f (slice_get (sorted fs) 0)
    ∙ ap (first_of_both found) (sym (head_placed f (sorted fs)))

none_found : (o : Option Fault) → first_of_both None o ≡ o
none_found None = refl
none_found (Some f) = refl

pub noted_first : (fs : List Fault) → noted None fs ≡ slice_get (sorted fs) 0
noted_first fs = noted_both None fs ∙ none_found (slice_get (sorted fs) 0)

noted_some : (f : Fault) (fs : List Fault) → is_some (noted (Some f) fs) ≡ true
noted_some f [] = refl
noted_some f (g ∷ fs) = noted_some (first_of (Some f) g) fs

pub noted_none : (fs : List Fault) → noted None fs ≡ None → fs ≡ []
noted_none [] h = refl
noted_none (f ∷ fs) h = absurd (true≢false (sym (noted_some f fs) ∙ ap is_some h))

pub none_noted : (fs : List Fault) → fs ≡ [] → noted None fs ≡ None
none_noted fs h = ap (noted None) h

pub first_is_noted : (files : List (List Item)) → first_fault files ≡ noted None (declared_faults (declared_in files))
first_is_noted files = sym (noted_first (declared_faults (declared_in files)))
