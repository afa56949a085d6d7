-- The rules of the verifier, each said of a function and a place, and the first that is broken.
use Rattle.std.specs.Prelude.{◌≡◌, ℕ, zero, suc, ◌+◌, ◌<◌, ◌≤◌, ◌⊎◌, Bool, ◌==◌, ◌&&◌, ◌||◌, nat_le, nat_lt, IsTrue, List, [], ◌++◌, length, Some, slice_get}
use Rattle.std.specs.List.{slice_range, list_all}
use Rattle.ci_base.specs.declared.bounds.TheConstants.{MOST_FUNCTIONS, MOST_PARAMETERS, MOST_LOCALS, MOST_CELLS, MOST_HASHES, MOST_ROOM}
use Rattle.ci_base.specs.declared.layout.CellHead.{CellHead}
use Rattle.ci_base.specs.declared.layout.Global.{Global}
use Rattle.ci_base.specs.declared.layout.Head.{Head}
use Rattle.ci_base.specs.declared.value.Kind.{Kind}
use Rattle.ci_code.specs.declared.instruction.Instruction.{Instruction}
use Rattle.ci_code.specs.declared.instruction.Instruction.TheVariants as does
use Rattle.ci_code.specs.declared.instruction.Step.{Step}
use Rattle.ci_code.specs.declared.raw.Cells.{Cells}
use Rattle.ci_code.specs.declared.raw.RawFunction.{RawFunction}
use Rattle.ci_code.specs.declared.raw.RawParts.{RawParts}
use Rattle.ci_verify.specs.declared.way.Way.{Way}
use Rattle.ci_verify.specs.declared.way.Way.TheVariants.{Next, To, Branch, Ends}
use Rattle.ci_verify.specs.Kinds.{same_kind, takes_of, below, after_of}
use Rattle.ci_verify.specs.Ways.{way_of}

-- What stands at a place

-- that step, with that shape before it
pub record At (code : RawParts) (function : RawFunction) (p : ℕ) (s : Step) (before : List Kind) : Type 0 where
  pub found : slice_get function.steps p ≡ Some s
  pub shape : slice_get code.shapes s.shape ≡ Some before

-- some step, with that shape before it
pub record Stands (code : RawParts) (function : RawFunction) (p : ℕ) (before : List Kind) : Type 0 where
  pub step : Step
  pub at : At code function p step before

pub record TickAt (function : RawFunction) (p : ℕ) : Type 0 where
  pub step : Step
  pub found : slice_get function.steps p ≡ Some step
  pub tick : step.what ≡ does.Tick

-- The rules of one instruction

-- 1: what it names exists, and a format has from 1 to 255 bytes
abbrev pub Named : RawParts → RawFunction → Instruction → Type 0
Named code function (does.PushStr k) = k < length code.texts
Named code function (does.Load i) = i < length function.locals
Named code function (does.Store i) = i < length function.locals
Named code function (does.ReadCell c) = c < length code.layout.cells
Named code function (does.WriteCell c) = c < length code.layout.cells
Named code function (does.ReadAt a) = a < length code.arrays
Named code function (does.WriteAt a) = a < length code.arrays
Named code function (does.Form count) = (1 ≤ count) × (count ≤ MOST_HASHES)
Named code function (does.Jump to) = to < length function.steps
Named code function (does.JumpIfZero to) = to < length function.steps
Named code function (does.Call f) = f < length code.functions
Named code function _ = Unit {0}

-- 3: the shape's end is what it takes
abbrev pub Finds : RawParts → RawFunction → List Kind → Instruction → Type 0
Finds code function before what = before ≡ below before (takes_of code function before what) ++ takes_of code function before what

-- 4: what stands behind it is the shape of each next place
abbrev pub GoesOn : RawParts → RawFunction → ℕ → List Kind → Way → Type 0
GoesOn code function p after Next = Stands code function (p + 1) after
GoesOn code function p after (To to) = Stands code function to after
GoesOn code function p after (Branch to) = Stands code function to after × Stands code function (p + 1) after
GoesOn code function p after Ends = Unit {0}

-- 5: the room holds the locals with the shapes before and behind
pub record IsRoomy (function : RawFunction) (before after : List Kind) : Type 0 where
  pub some : 0 < function.room
  pub most : function.room ≤ MOST_ROOM
  pub holds_before : length function.locals + length before ≤ function.room
  pub holds_after : length function.locals + length after ≤ function.room

-- 6: a jump that doesn't lead on leads to a tick
abbrev pub Ahead : RawFunction → ℕ → ℕ → Type 0
Ahead function p to = (p < to) ⊎ TickAt function to

abbrev pub JumpsAhead : RawFunction → ℕ → Way → Type 0
JumpsAhead function p (To to) = Ahead function p to
JumpsAhead function p (Branch to) = Ahead function p to
JumpsAhead function p _ = Unit {0}

-- The rules of a place

abbrev pub AtStep : RawFunction → ℕ → (Step → Type 0) → Type 0
AtStep function p P = (s : Step) → slice_get function.steps p ≡ Some s → P s

abbrev pub AtShape : RawParts → RawFunction → ℕ → (Step → List Kind → Type 0) → Type 0
AtShape code function p P = (s : Step) (before : List Kind) → At code function p s before → P s before

-- a function has few parameters and locals
pub record AreLocalsFew (head : Head) (function : RawFunction) : Type 0 where
  pub parameters : length head.kinds ≤ MOST_PARAMETERS
  pub locals : length function.locals ≤ MOST_LOCALS

-- the rule of this number is kept at a place of the function with this head
abbrev pub Kept : ℕ → RawParts → Head → RawFunction → ℕ → Type 0
Kept (suc zero) code head function p = (p ≡ 0 → AreLocalsFew head function) × AtStep function p (λ s. (s.shape < length code.shapes) × Named code function s.what)
Kept (suc (suc zero)) code head function p = p ≡ 0 → TickAt function 0 × Stands code function 0 []
Kept (suc (suc (suc zero))) code head function p = AtShape code function p (λ s before. Finds code function before s.what)
Kept (suc (suc (suc (suc zero)))) code head function p = AtShape code function p (λ s before. GoesOn code function p (after_of code function before s.what) (way_of s.what))
Kept (suc (suc (suc (suc (suc zero))))) code head function p = AtShape code function p (λ s before. IsRoomy function before (after_of code function before s.what))
Kept (suc (suc (suc (suc (suc (suc zero)))))) code head function p = AtStep function p (λ s. JumpsAhead function p (way_of s.what))
Kept _ code head function p = Unit {0}

-- The rules of the whole code

-- the cells of an array that has some exist, and are of its kind
abbrev pub has_cells : List CellHead → Cells → Bool
has_cells cells array =
    array.length == 0
    || (nat_le (array.first + array.length) (length cells) && list_all (λ (cell : CellHead). same_kind cell.kind array.kind) (slice_range cells array.first (array.first + array.length)))

-- the cell of a GLOBAL scalar exists
abbrev pub has_cell : List CellHead → Global → Bool
has_cell cells g = nat_lt g.cell (length cells)

-- the tables keep rule 1
pub record AreTablesKept (code : RawParts) : Type 0 where
  pub functions : length code.layout.functions ≤ MOST_FUNCTIONS
  pub cells : length code.layout.cells ≤ MOST_CELLS
  pub globals : IsTrue (list_all (has_cell code.layout.cells) code.layout.globals)
  pub arrays : IsTrue (list_all (has_cells code.layout.cells) code.arrays)

-- which is told at the place 0 of the function 0
abbrev pub TablesKept : ℕ → RawParts → ℕ → ℕ → Type 0
TablesKept (suc zero) code f p = f ≡ 0 → p ≡ 0 → AreTablesKept code
TablesKept _ code f p = Unit {0}

-- a rule holds at a place of the function of this number; also where there is no such function or place
pub record Holds (r : ℕ) (code : RawParts) (f p : ℕ) : Type 0 where
  pub tables : TablesKept r code f p
  pub there : (head : Head) (function : RawFunction) → slice_get code.layout.functions f ≡ Some head → slice_get code.functions f ≡ Some function → Kept r code head function p

-- no rule is broken anywhere
abbrev pub NoneBroken : RawParts → Type 0
NoneBroken code = (r f p : ℕ) → Holds r code f p

-- the first rule that is broken: it is, and none is at a lesser function, a lesser place of this one, or with a lesser number at
-- this place
pub record IsFirst (code : RawParts) (r f p : ℕ) : Type 0 where
  pub broken : Holds r code f p → ⊥
  pub rules : (q : ℕ) → q < r → Holds q code f p
  pub places : (o q : ℕ) → o < p → Holds q code f o
  pub functions : (g o q : ℕ) → g < f → Holds q code g o

-- The same within a function, and at a place

abbrev pub NoneAt : RawParts → Head → RawFunction → ℕ → Type 0
NoneAt code head function p = (q : ℕ) → Kept q code head function p

abbrev pub NoneIn : RawParts → Head → RawFunction → Type 0
NoneIn code head function = (p q : ℕ) → Kept q code head function p

abbrev pub FirstAt : RawParts → Head → RawFunction → ℕ → ℕ → Type 0
FirstAt code head function p r = (Kept r code head function p → ⊥) × ((q : ℕ) → q < r → Kept q code head function p)

abbrev pub FirstIn : RawParts → Head → RawFunction → ℕ → ℕ → Type 0
FirstIn code head function r p = FirstAt code head function p r × ((o q : ℕ) → o < p → Kept q code head function o)
