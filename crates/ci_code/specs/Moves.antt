-- Where a machine of code stands, and the moves that many instructions share.
use Rattle.std.specs.Prelude.{ℕ, ◌+◌, ℤ, pos, negsuc, Bool, true, false, ◌&&◌, nat_lt, if◌then◌else◌, List, [], ◌∷◌, ◌++◌, map, take, drop, length, reverse, Option, Some, None, Ok, Err, slice_get, slice_set, unwrap_or}
use Rattle.ci_base.specs.declared.layout.Head.{Head}
use Rattle.ci_base.specs.declared.request.Request.{Request}
use Rattle.ci_base.specs.declared.request.Request.TheVariants.{End}
use Rattle.ci_base.specs.declared.value.Kind.{Kind}
use Rattle.ci_base.specs.declared.value.Kind.TheVariants as kinds
use Rattle.ci_base.specs.declared.value.Value.{Value}
use Rattle.ci_base.specs.declared.value.Value.TheVariants.{Int, Str}
use Rattle.ci_base.specs.Heard.{Element}
use Rattle.ci_base.specs.Steps.{Next, quiet, asks, stuck}
use Rattle.ci_base.specs.Values.{Outcome, first_of_kind}
use Rattle.ci_code.specs.declared.raw.Cells.{Cells}
use Rattle.ci_code.specs.declared.raw.RawFunction.{RawFunction}
use Rattle.ci_code.specs.declared.raw.RawParts.{RawParts}

-- a function that runs or waits: where it goes on, its locals, and its operands, the latest first
pub record Frame : Type 0 where
  pub function : ℕ
  pub place : ℕ
  pub locals : List Value
  pub operands : List Value

-- a task on code: the function that runs, and those that wait for it, the latest first; the last error, the last element read,
-- and whether the task goes on after run errors
pub record Machine : Type 0 where
  pub top : Frame
  pub callers : List Frame
  pub error : ℕ
  pub last : Element
  pub goes_on : Bool

abbrev pub Move : Type 0
Move = Next Machine Request

-- What code names

-- the kinds of what a function takes
abbrev pub parameters_in : Option Head → List Kind
parameters_in (Some head) = head.kinds
parameters_in None = []

abbrev pub parameters_of : RawParts → ℕ → List Kind
parameters_of code f = parameters_in (slice_get code.layout.functions f)

-- the kind of what it gives: one without a kind gives an INT
abbrev pub value_kind : RawFunction → Kind
value_kind function = unwrap_or function.gives kinds.Int

-- the locals of a function that is called with these arguments: the others hold 0 or the empty text
abbrev pub locals_with : RawFunction → List Value → List Value
locals_with function args = args ++ map first_of_kind (drop (length args) function.locals)

-- the value is of that kind
abbrev pub is_of : Kind → Value → Bool
is_of kinds.Int (Int n) = true
is_of kinds.Str (Str s) = true
is_of _ _ = false

abbrev pub is_of_some : Option Kind → Value → Bool
is_of_some (Some kind) v = is_of kind v
is_of_some None v = false

-- each value is of its kind
abbrev pub are_of : List Kind → List Value → Bool
are_of [] [] = true
are_of (kind ∷ rest) (v ∷ values) = is_of kind v && are_of rest values
are_of _ _ = false

-- the cell of the array's element with this index, where there is one
abbrev pub cell_in : Cells → ℤ → Option ℕ
cell_in array (pos i) = if nat_lt i array.length then Some (array.first + i) else None
cell_in array (negsuc i) = None

-- Places

-- at the next place, with these operands
abbrev pub on : List Value → Machine → Machine
on operands m = record m { top = record { function = m.top.function; place = m.top.place + 1; locals = m.top.locals; operands = operands } }

-- at that place
abbrev pub jumped : ℕ → List Value → Machine → Machine
jumped to operands m = record m { top = record { function = m.top.function; place = to; locals = m.top.locals; operands = operands } }

-- at the next place, with that local set
abbrev pub stored : ℕ → Value → List Value → Machine → Machine
stored i v operands m = record m { top = record { function = m.top.function; place = m.top.place + 1; locals = slice_set m.top.locals i v; operands = operands } }

-- where it holds the machine moves so, else it can do nothing
abbrev pub only_if : Bool → Move → Move
only_if true move = move
only_if false move = stuck

-- Run errors

-- a run error: a task that goes on after such notes it and has these operands, and any other ends
abbrev pub failed_if : Bool → ℕ → List Value → Machine → Move
failed_if true code operands m = quiet (on operands (record m { error = code }))
failed_if false code operands m = asks (End code)

abbrev pub failed : ℕ → List Value → Machine → Move
failed code operands m = failed_if m.goes_on code operands m

-- a value, or a run error for which 0 or the empty text stands, as the kind says
abbrev pub came : Kind → Outcome → List Value → Machine → Move
came kind (Ok v) operands m = quiet (on (v ∷ operands) m)
came kind (Err code) operands m = failed code (first_of_kind kind ∷ operands) m

-- Operands

-- with the latest operand
abbrev pub one : (Value → List Value → Move) → List Value → Move
one use_it (v ∷ operands) = use_it v operands
one use_it [] = stuck

-- with the latest operand, an INT
abbrev pub one_int : (ℤ → List Value → Move) → List Value → Move
one_int use_it (Int n ∷ operands) = use_it n operands
one_int use_it _ = stuck

-- two INTs become a value
abbrev pub two_ints : (ℤ → ℤ → Outcome) → List Value → Machine → Move
two_ints work (Int b ∷ Int a ∷ operands) m = came kinds.Int (work a b) operands m
two_ints work _ m = stuck

-- two texts become a value of that kind
abbrev pub two_texts : Kind → (List ℕ → List ℕ → Outcome) → List Value → Machine → Move
two_texts kind work (Str b ∷ Str a ∷ operands) m = came kind (work a b) operands m
two_texts kind work _ m = stuck

-- with as many operands as there are kinds, each of its kind, the first one first
abbrev pub several : List Kind → (List Value → List Value → Move) → List Value → Move
several taken use_them operands =
    only_if
    (are_of taken (reverse (take (length taken) operands)))
    (use_them (reverse (take (length taken) operands)) (drop (length taken) operands))
