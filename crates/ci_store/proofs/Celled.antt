-- The shared cells.
use Rattle.std.proofs.Common.{◌≡◌, ◌<◌, ℕ, zero, suc, Bool, true, false, cond, List, [], ◌∷◌, length, map, Option, Some, None, refl, sym, ap, ◌∙◌, subst, get_or, arith}
use Rattle.std.specs.Prelude.{slice_get, slice_set}
use Rattle.std.specs.List.{All, position_from}
use Rattle.std.specs.Str.{str_eq_ignore_ascii_case}
use Rattle.std.proofs.lemmas.List.Elements.{All-get_or}
use Rattle.ci_base.specs.declared.event.EventReply.{EventReply}
use Rattle.ci_base.specs.declared.layout.Global.{Global}
use Rattle.ci_base.specs.declared.reply.Answer.{Answer}
use Rattle.ci_base.specs.declared.value.Kind.{Kind}
use Rattle.ci_base.specs.declared.value.Value.{Value}
use Rattle.ci_base.specs.Values.{kind_of}
use Rattle.ci_shared.proofs.First.{FirstAt, Nowhere, first_at, nowhere}
use Rattle.ci_shared.specs.Rows.{coded, plain}
use Rattle.ci_shared.specs.State.{Served, only}
use Rattle.ci_shared.specs.Steps.{cell_named, set_cell, set_kind, written}
use Rattle.ci_shared.specs.Words.{same_kind}
use Rattle.ci_store.proofs.Ending.{says}
use Rattle.ci_store.specs.declared.parts.Parts.{Parts}
use Rattle.ci_store.specs.Done.{Does, IsClear}
use Rattle.ci_store.specs.Stored.{basis_in, shared_of}

-- kinds of cells
pub kind_within : (vs : List Value) (i : ℕ) (k : Kind) → slice_get (map kind_of vs) i ≡ Some k → i < length vs
kind_within [] i k e = absurd (cc e)
kind_within (v ∷ vs) zero k e = omega arith
kind_within (v ∷ vs) (suc i) k e = let lt : i < length vs = kind_within vs i k e in omega (arith, lt)

pub kind_there : (vs : List Value) (i : ℕ) (v : Value) → slice_get vs i ≡ Some v → slice_get (map kind_of vs) i ≡ Some (kind_of v)
kind_there [] i v e = absurd (cc e)
kind_there (x ∷ vs) zero v e = let same : x ≡ v = cc e in ap (λ (y : Value). Some (kind_of y)) same
kind_there (x ∷ vs) (suc i) v e = kind_there vs i v e

some_one : (a b : Kind) (o : Option Kind) → o ≡ Some a → o ≡ Some b → a ≡ b
some_one a b o e f = cc

pub kind_is : (vs : List Value) (i : ℕ) (k : Kind) (v : Value) → slice_get (map kind_of vs) i ≡ Some k → slice_get vs i ≡ Some v → kind_of v ≡ k
kind_is vs i k v e f = some_one (kind_of v) k (slice_get (map kind_of vs) i) (kind_there vs i v f) e

-- a write
pub writes : (p : Parts) → IsClear p → (cell : ℕ) (v : Value) (a : Answer) (new : List Value) → a ≡ plain (coded 0) → new ≡ slice_set p.vars cell v → Does (only (written (shared_of p) cell v) (coded 0)) a p (record p { vars = new })
writes p k cell v a new e n = record { answer_is = e; leaves = record { shared = ap (λ (l : List Value). record (shared_of p) { cells = l }) n; deliveries = k.deliveries; birth = k.birth; layout = refl } }

-- a GLOBAL scalar by its name
first_cell : (name : List ℕ) (gs : List Global) (i : ℕ) (g : Global) → FirstAt (λ (x : Global). str_eq_ignore_ascii_case name x.name) gs i → g ≡ get_or gs i g → cell_named name gs ≡ Some g.cell
first_cell name [] i g f e = absurd f
first_cell name (x ∷ gs) zero g f e = ap (λ (b : Bool). cond b (Some x.cell) (cell_named name gs)) f ∙ ap (λ (y : Global). Some y.cell) (sym e)
first_cell name (x ∷ gs) (suc i) g f e = ap (λ (b : Bool). cond b (Some x.cell) (cell_named name gs)) f.0 ∙ first_cell name gs i g f.1 e

no_cell : (name : List ℕ) (gs : List Global) → Nowhere (λ (x : Global). str_eq_ignore_ascii_case name x.name) gs → cell_named name gs ≡ None
no_cell name [] h = refl
no_cell name (x ∷ gs) h = ap (λ (b : Bool). cond b (Some x.cell) (cell_named name gs)) h.0 ∙ no_cell name gs h.1

pub cell_is : (name : List ℕ) (gs : List Global) (i : ℕ) (g : Global) → position_from (λ (x : Global). str_eq_ignore_ascii_case name x.name) 0 gs ≡ Some i → g ≡ get_or gs i g → cell_named name gs ≡ Some g.cell
cell_is name gs i g e is = first_cell name gs i g (first_at (λ (x : Global). str_eq_ignore_ascii_case name x.name) gs i e) is

pub cell_none : (name : List ℕ) (gs : List Global) → position_from (λ (x : Global). str_eq_ignore_ascii_case name x.name) 0 gs ≡ None → cell_named name gs ≡ None
cell_none name gs e = no_cell name gs (nowhere (λ (x : Global). str_eq_ignore_ascii_case name x.name) 0 gs e)

-- the ways through a setting
pub unknown_cell : (p : Parts) → IsClear p → (v : Value) (o : Option ℕ) (a : Answer) → o ≡ None → a ≡ plain (coded 5) → Does (set_cell (basis_in p) (shared_of p) v o) a p p
unknown_cell p k v o a e is = subst (λ (z : Option ℕ). Does (set_cell (basis_in p) (shared_of p) v z) a p p) (sym e) (says p k a (coded 5) is)

module _ (p : Parts) (k : IsClear p) (v : Value) (o : Option ℕ) (cell : ℕ) (old : Value) (named : o ≡ Some cell) (there : slice_get p.vars cell ≡ Some old) where
  set_is : set_cell (basis_in p) (shared_of p) v o ≡ cond (same_kind (kind_of old) (kind_of v)) (only (written (shared_of p) cell v) (coded 0)) (only (shared_of p) (coded 10))
  set_is = ap (λ (z : Option ℕ). set_cell (basis_in p) (shared_of p) v z) named ∙ ap (λ (z : Option Kind). set_kind (shared_of p) v cell z) (kind_there p.vars cell old there)

  pub other_kind : (a : Answer) → same_kind (kind_of old) (kind_of v) ≡ false → a ≡ plain (coded 10) → Does (set_cell (basis_in p) (shared_of p) v o) a p p
  other_kind a e is = subst (λ (x : Served EventReply). Does x a p p) (sym (set_is ∙ ap (λ (b : Bool). cond b (only (written (shared_of p) cell v) (coded 0)) (only (shared_of p) (coded 10))) e)) (says p k a (coded 10) is)

  pub is_set : (a : Answer) (new : List Value) → same_kind (kind_of old) (kind_of v) ≡ true → a ≡ plain (coded 0) → new ≡ slice_set p.vars cell v → Does (set_cell (basis_in p) (shared_of p) v o) a p (record p { vars = new })
  is_set a new e is n = subst (λ (x : Served EventReply). Does x a p (record p { vars = new })) (sym (set_is ∙ ap (λ (b : Bool). cond b (only (written (shared_of p) cell v) (coded 0)) (only (shared_of p) (coded 10))) e)) (writes p k cell v a new is n)

-- a cell of a GLOBAL scalar exists
pub cell_within : (gs : List Global) (n i : ℕ) (g : Global) → All (λ (x : Global). x.cell < n) gs → i < length gs → g ≡ get_or gs i g → g.cell < n
cell_within gs n i g h l e = subst (λ (x : Global). x.cell < n) (sym e) (All-get_or (λ (x : Global). x.cell < n) gs i g l h)
