-- Values that are there or not.
use Rattle.std.proofs.Common.{◌≡◌, Option, Some, None, sym, ◌∙◌, subst}

pub some_clash : {A : Type 0} (x : A) → None ≡ Some x → ⊥
some_clash {A} x e = let P : Option A → Type 0 = λ o. elim o [ None ↦ Unit {0} | Some y ↦ ⊥ ] in subst P e tt

pub some_same : {A : Type 0} (x y : A) → Some x ≡ Some y → x ≡ y
some_same x y e = cc

pub clash : {A : Type 0} (x : A) (o : Option A) → o ≡ None → o ≡ Some x → ⊥
clash x o none some = some_clash x (sym none ∙ some)
