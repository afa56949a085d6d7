-- What holds of verified code, and of the first rule that is broken.
use Rattle.std.specs.Prelude.{◌≡◌, ℕ, List, [], Some, slice_get}
use Rattle.ci_base.specs.declared.layout.Head.{Head}
use Rattle.ci_base.specs.declared.value.Kind.{Kind}
use Rattle.ci_code.specs.declared.instruction.Instruction.{Instruction}
use Rattle.ci_code.specs.declared.instruction.Step.{Step}
use Rattle.ci_code.specs.declared.raw.RawFunction.{RawFunction}
use Rattle.ci_code.specs.declared.raw.RawParts.{RawParts}
use Rattle.ci_verify.specs.Kinds.{after_of}
use Rattle.ci_verify.specs.Rules.{At, Stands, TickAt, Named, Finds, GoesOn, IsRoomy, JumpsAhead, AreLocalsFew, NoneBroken, IsFirst}
use Rattle.ci_verify.specs.Ways.{way_of}

-- at most one broken rule is the first
abbrev pub OneFirst : Type 0
OneFirst = (code : RawParts) (r f p r' f' p' : ℕ) → IsFirst code r f p → IsFirst code r' f' p' → (r ≡ r') × (f ≡ f') × (p ≡ p')

-- An instruction with this shape before it finds what it names and the operands that it takes; the shape that it leaves stands at
-- each next place; the room, which is at most 4,096, holds the locals with both shapes, so there is always room for a push; and a
-- jump that doesn't lead on leads to a tick.
pub record IsFine (code : RawParts) (function : RawFunction) (p : ℕ) (before : List Kind) (what : Instruction) : Type 0 where
  pub named : Named code function what
  pub finds : Finds code function before what
  pub goes_on : GoesOn code function p (after_of code function before what) (way_of what)
  pub roomy : IsRoomy function before (after_of code function before what)
  pub ahead : JumpsAhead function p (way_of what)

-- A function begins with a tick and no operand, has few parameters and locals, and each of its steps has a shape, before which and
-- behind which all is fine.
pub record IsSoundFunction (code : RawParts) (head : Head) (function : RawFunction) : Type 0 where
  pub few : AreLocalsFew head function
  pub tick : TickAt function 0
  pub empty : Stands code function 0 []
  pub shaped : (p : ℕ) (s : Step) → slice_get function.steps p ≡ Some s → (before : List Kind) × At code function p s before
  pub fine : (p : ℕ) (s : Step) (before : List Kind) → At code function p s before → IsFine code function p before s.what

-- each function of verified code is such
abbrev pub VerifiedIsSound : Type 0
VerifiedIsSound =
    (code : RawParts) → NoneBroken code →
    (f : ℕ) (head : Head) (function : RawFunction) → slice_get code.layout.functions f ≡ Some head → slice_get code.functions f ≡ Some function → IsSoundFunction code head function
