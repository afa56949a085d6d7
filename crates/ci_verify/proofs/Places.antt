-- Rules of a place, from what stands there; and the rules of a place, one by one.
use Rattle.std.proofs.Common.{◌≡◌, ℕ, zero, suc, ◌<◌, ◌≤◌, List, Option, Some, sym, ◌∙◌, ap, subst, arith, Bool, true, false, IsTrue, ◌↔◌}
use Rattle.std.specs.List.{slice_get}
use Rattle.ci_base.specs.declared.layout.Head.{Head}
use Rattle.ci_base.specs.declared.value.Kind.{Kind}
use Rattle.ci_code.specs.declared.instruction.Step.{Step}
use Rattle.ci_code.specs.declared.raw.RawFunction.{RawFunction}
use Rattle.ci_code.specs.declared.raw.RawParts.{RawParts}
use Rattle.ci_verify.specs.Rules.{At, AtShape, Kept}

pub same_some : {A : Type 0} (o : Option A) (a b : A) → o ≡ Some a → o ≡ Some b → a ≡ b
same_some o a b e f = let g : Some a ≡ Some b = sym e ∙ f in cc g

pub at_once : (code : RawParts) (function : RawFunction) (p : ℕ) (s t : Step) (ks js : List Kind) → At code function p s ks → At code function p t js → (s ≡ t) × (ks ≡ js)
at_once code function p s t ks js f g =
    let st : s ≡ t = same_some (slice_get function.steps p) s t f.found g.found in
    let e : slice_get code.shapes t.shape ≡ Some ks = ap (λ (x : Step). slice_get code.shapes x.shape) (sym st) ∙ f.shape in
    (st, same_some (slice_get code.shapes t.shape) ks js e g.shape)

pub at_shape : (code : RawParts) (function : RawFunction) (p : ℕ) (P : Step → List Kind → Type 0) (s : Step) (ks : List Kind) (b : Bool) → At code function p s ks → (IsTrue b ↔ P s ks) → IsTrue b ↔ AtShape code function p P
at_shape code function p P s ks b at h = (
  λ t r js g. let e : (s ≡ r) × (ks ≡ js) = at_once code function p s r ks js at g in subst (P r) e.1 (subst (λ (x : Step). P x ks) e.0 (h.0 t)),
  λ all. h.1 (all s ks at),
)

pub not_kept : (P : Type 0) (b : Bool) → (IsTrue b ↔ P) → b ≡ false → P → ⊥
not_kept P b h e k = let f : true ≡ false = sym (h.1 k) ∙ e in cc f

pub all_kept : (code : RawParts) (head : Head) (function : RawFunction) (p : ℕ) → Kept 1 code head function p → Kept 2 code head function p → Kept 3 code head function p → Kept 4 code head function p → Kept 5 code head function p → Kept 6 code head function p → (q : ℕ) → Kept q code head function p
all_kept code head function p a b c d e f zero = tt
all_kept code head function p a b c d e f (suc zero) = a
all_kept code head function p a b c d e f (suc (suc zero)) = b
all_kept code head function p a b c d e f (suc (suc (suc zero))) = c
all_kept code head function p a b c d e f (suc (suc (suc (suc zero)))) = d
all_kept code head function p a b c d e f (suc (suc (suc (suc (suc zero))))) = e
all_kept code head function p a b c d e f (suc (suc (suc (suc (suc (suc zero)))))) = f
all_kept code head function p a b c d e f (suc (suc (suc (suc (suc (suc (suc n))))))) = tt

-- those of a lesser number, each where it is lesser
pub lesser_kept : (code : RawParts) (head : Head) (function : RawFunction) (p r : ℕ) → r ≤ 6 → (1 < r → Kept 1 code head function p) → (2 < r → Kept 2 code head function p) → (3 < r → Kept 3 code head function p) → (4 < r → Kept 4 code head function p) → (5 < r → Kept 5 code head function p) → (q : ℕ) → q < r → Kept q code head function p
lesser_kept code head function p r m a b c d e zero h = tt
lesser_kept code head function p r m a b c d e (suc zero) h = a h
lesser_kept code head function p r m a b c d e (suc (suc zero)) h = b h
lesser_kept code head function p r m a b c d e (suc (suc (suc zero))) h = c h
lesser_kept code head function p r m a b c d e (suc (suc (suc (suc zero)))) h = d h
lesser_kept code head function p r m a b c d e (suc (suc (suc (suc (suc zero))))) h = e h
lesser_kept code head function p r m a b c d e (suc (suc (suc (suc (suc (suc n)))))) h = absurd (omega arith)
