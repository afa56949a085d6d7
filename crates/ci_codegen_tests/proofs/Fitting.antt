-- Arguments that fit a function.
use Rattle.std.proofs.Common.{◌≡◌, ◌∙◌, ◌<◌, ℕ, zero, suc, List, [], ◌∷◌, map, length, Some, slice_get, refl, sym, ap, arith}
use Rattle.ci_base.specs.declared.layout.Head.{Head}
use Rattle.ci_base.specs.declared.value.Value.{Value}
use Rattle.ci_base.specs.Values.{kind_of}
use Rattle.ci_code.specs.declared.raw.RawParts.{RawParts}
use Rattle.ci_code.specs.Moves.{parameters_in}
use Rattle.ci_task.specs.Moved.{ArgsFit}

found_at : {A : Type 0} (xs : List A) (i : ℕ) → i < length xs → (x : A) × (slice_get xs i ≡ Some x)
found_at [] i below = absurd (omega arith)
found_at (x ∷ xs) zero below = (x, refl)
found_at (x ∷ xs) (suc i) below = found_at xs i (omega arith)

pub fitting : (code : RawParts) (f : ℕ) (args : List Value) (head : Head) → f < length code.functions → slice_get code.layout.functions f ≡ Some head → map kind_of args ≡ head.kinds → ArgsFit code f args
fitting code f args head below found are =
    let there = found_at code.functions f below in
    record { function = there.0; found = there.1; kinds = are ∙ ap parameters_in (sym found) }
