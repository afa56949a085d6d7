-- The machine of code that a stack of values and a list of active functions spell.
use Rattle.std.specs.Prelude.{◌≡◌, ℕ, ◌+◌, ◌≤◌, List, [], ◌∷◌, length, take, drop, reverse, Option, Some, None, slice_get}
use Rattle.ci_base.specs.declared.value.Value.{Value}
use Rattle.ci_code.specs.declared.raw.RawFunction.{RawFunction}
use Rattle.ci_code.specs.declared.raw.RawParts.{RawParts}
use Rattle.ci_code.specs.Machine.{room_in}
use Rattle.ci_code.specs.Moves.{Frame, Machine}
use Rattle.ci_task.specs.declared.active.Active.{Active}
use Rattle.ci_task.specs.declared.heard.Heard.{Heard}

-- how many locals a function has
abbrev pub locals_in : Option RawFunction → ℕ
locals_in (Some function) = length function.locals
locals_in None = 0

abbrev pub locals_of : RawParts → ℕ → ℕ
locals_of code f = locals_in (slice_get code.functions f)

-- where the operands of an active function begin
abbrev pub floor : RawParts → Active → ℕ
floor code a = a.base + locals_of code a.function

-- the frame of an active function over the values up to its last operand
abbrev pub frame_of : RawParts → Active → List Value → Frame
frame_of code a values = record {
  function = a.function;
  place = a.place;
  locals = take (locals_of code a.function) (drop a.base values);
  operands = reverse (drop (floor code a) values);
}

-- those of the functions that wait, the latest first: the values of each end where those of the one above begin
abbrev pub frames_of : RawParts → List Active → List Value → List Frame
frames_of code [] values = []
frames_of code (a ∷ below) values = frame_of code a values ∷ frames_of code below (take a.base values)

-- the machine
abbrev pub spelled : RawParts → Active → List Active → List Value → Heard → Machine
spelled code a callers values heard = record {
  top = frame_of code a values;
  callers = frames_of code callers (take a.base values);
  error = heard.error;
  last = record { sort = heard.sort; text = heard.text };
  goes_on = heard.goes_on;
}

-- the rooms of these functions
abbrev pub rooms_of : RawParts → List Active → ℕ
rooms_of code [] = 0
rooms_of code (a ∷ below) = room_in (slice_get code.functions a.function) + rooms_of code below

-- The locals of each active function lie within so many values, and those of the functions below it end where its own begin; and
-- each knows the rooms of itself and of those below.
abbrev pub AreStacked : RawParts → List Active → ℕ → Type 0
AreStacked code [] n = n ≡ 0
AreStacked code (a ∷ below) n = (floor code a ≤ n) × (a.rooms ≡ rooms_of code (a ∷ below)) × (length (a ∷ below) ≤ a.rooms) × AreStacked code below a.base
