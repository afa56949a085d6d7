-- A machine that stands in code as its shapes say, and that it always goes on so.
use Rattle.std.specs.Prelude.{◌≡◌, ℕ, ◌+◌, ◌≤◌, List, [], ◌∷◌, length, map, reverse, Some, slice_get}
use Rattle.ci_base.specs.declared.bounds.TheConstants.{MOST_ROOM}
use Rattle.ci_base.specs.declared.value.Kind.{Kind}
use Rattle.ci_base.specs.declared.value.Value.{Value}
use Rattle.ci_base.specs.declared.layout.CellHead.{CellHead}
use Rattle.ci_base.specs.declared.reply.Answer.{Answer}
use Rattle.ci_base.specs.declared.request.Request.{Request}
use Rattle.ci_base.specs.Requests.{Fits}
use Rattle.ci_base.specs.Steps.{tick, quiet, asks, stuck}
use Rattle.ci_base.specs.Values.{kind_of}
use Rattle.ci_code.specs.declared.raw.RawFunction.{RawFunction}
use Rattle.ci_code.specs.declared.raw.RawParts.{RawParts}
use Rattle.ci_code.specs.Code.{IsCode}
use Rattle.ci_code.specs.Machine.{rooms, next, opening, resume}
use Rattle.ci_code.specs.Moves.{Frame, Machine, Move, parameters_of}
use Rattle.ci_verify.specs.Kinds.{callee_kind}
use Rattle.ci_verify.specs.Rules.{Stands, NoneBroken}

-- the frame goes on in that function with that shape, and its locals are of their kinds
pub record IsFrame (code : RawParts) (frame : Frame) (function : RawFunction) (shape : List Kind) : Type 0 where
  pub found : slice_get code.functions frame.function ≡ Some function
  pub stands : Stands code function frame.place shape
  pub locals : map kind_of frame.locals ≡ function.locals

-- the frame waits for the value of that function: with it, its operands have the shape's kinds
pub record IsWaiting (code : RawParts) (callee : ℕ) (frame : Frame) : Type 0 where
  pub function : RawFunction
  pub shape : List Kind
  pub is_frame : IsFrame code frame function shape
  pub kind : Kind
  pub gives : callee_kind code callee ≡ Some kind
  pub operands : reverse shape ≡ kind ∷ map kind_of frame.operands

-- each frame waits for the one before it
abbrev pub AreWaiting : RawParts → ℕ → List Frame → Type 0
AreWaiting code callee [] = Unit {0}
AreWaiting code callee (f ∷ frames) = IsWaiting code callee f × AreWaiting code f.function frames

-- The operands have the kinds of the shape, the callers wait as they should, and the rooms are together at most 4,096.
pub record IsSafe (code : RawParts) (m : Machine) : Type 0 where
  pub function : RawFunction
  pub shape : List Kind
  pub top : IsFrame code m.top function shape
  pub operands : map kind_of m.top.operands ≡ reverse shape
  pub callers : AreWaiting code m.top.function m.callers
  pub room : rooms code (m.top ∷ m.callers) ≤ MOST_ROOM

-- the move can be made, and behind it the machine is safe
abbrev pub GoesSafely : RawParts → Move → Type 0
GoesSafely code (tick m) = IsSafe code m
GoesSafely code (quiet m) = IsSafe code m
GoesSafely code (asks q) = Unit {0}
GoesSafely code stuck = ⊥

-- A task on verified code begins safe, with arguments of the kinds that its function takes; and from there on an operand, its kind
-- or a next place is never missing.
abbrev pub NeverStuck : Type 0
NeverStuck =
    (code : RawParts) → IsCode code → NoneBroken code →
    ((f : ℕ) (function : RawFunction) (args : List Value) → slice_get code.functions f ≡ Some function → map kind_of args ≡ parameters_of code f → IsSafe code (opening code f args))
    × ((m : Machine) → IsSafe code m → GoesSafely code (next code m))

-- the values that these frames hold, locals and operands together
abbrev pub values_held : List Frame → ℕ
values_held [] = 0
values_held (f ∷ frames) = length f.locals + length f.operands + values_held frames

-- A safe machine holds at most as many values as its functions have room, which is at most 4,096; as it is safe also behind each
-- push, there is always room for one.
abbrev pub NeverFull : Type 0
NeverFull =
    (code : RawParts) → IsCode code → NoneBroken code → (m : Machine) → IsSafe code m →
    (values_held (m.top ∷ m.callers) ≤ rooms code (m.top ∷ m.callers)) × (rooms code (m.top ∷ m.callers) ≤ MOST_ROOM)

-- An answer that a request may get leaves a safe machine safe.
abbrev pub AnswersKeep : Type 0
AnswersKeep =
    (code : RawParts) → IsCode code → NoneBroken code → (m : Machine) (q : Request) (answer : Answer) → IsSafe code m →
    next code m ≡ asks q → Fits (map (λ (cell : CellHead). cell.kind) code.layout.cells) q answer → IsSafe code (resume code m answer)
