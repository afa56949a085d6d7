-- What one instruction does to the stack.
use Rattle.std.specs.Prelude.{◌≡◌, ℕ, ◌+◌, ◌≤◌, ℤ, pos, negsuc, nat_lt, Bool, true, false, List, [], ◌∷◌, ◌++◌, length, Ok, Err}
use Rattle.ci_base.specs.declared.bounds.TheConstants.{MOST_ROOM}
use Rattle.ci_base.specs.declared.request.Request.{Request}
use Rattle.ci_base.specs.declared.request.Request.TheVariants.{Read, Write, End}
use Rattle.ci_base.specs.declared.value.Kind.{Kind}
use Rattle.ci_base.specs.declared.value.Value.{Value}
use Rattle.ci_base.specs.Steps.{tick, quiet, asks, stuck}
use Rattle.ci_base.specs.Values.{Outcome, first_of_kind}
use Rattle.ci_code.specs.declared.instruction.Instruction.{Instruction}
use Rattle.ci_code.specs.declared.instruction.Instruction.TheVariants as does
use Rattle.ci_code.specs.declared.raw.Cells.{Cells}
use Rattle.ci_code.specs.declared.raw.RawParts.{RawParts}
use Rattle.ci_code.specs.Machine.{act}
use Rattle.ci_code.specs.Moves.{Machine, Move, on}
use Rattle.ci_verify.specs.Safe.{values_held}
use Rattle.ci_task.specs.declared.active.Active.{Active}
use Rattle.ci_task.specs.declared.heard.Heard.{Heard}
use Rattle.ci_task.specs.declared.went.Went.{Went}
use Rattle.ci_task.specs.declared.went.Went.TheVariants as went
use Rattle.ci_task.specs.Spelled.{spelled, AreStacked}

-- the move can be made, and there is room for what the machine then holds
abbrev pub HasRoom : Move → Type 0
HasRoom (tick m) = values_held (m.top ∷ m.callers) ≤ MOST_ROOM
HasRoom (quiet m) = values_held (m.top ∷ m.callers) ≤ MOST_ROOM
HasRoom (asks q) = Unit {0}
HasRoom stuck = ⊥

-- the instruction asks for what isn't the end of the task
abbrev pub makes_request : Instruction → Bool
makes_request (does.ReadCell c) = true
makes_request (does.WriteCell c) = true
makes_request (does.ReadAt a) = true
makes_request (does.WriteAt a) = true
makes_request (does.Ask q) = true
makes_request _ = false

-- the instruction asks so; an element of an array is asked for where it is inside
abbrev pub IsAskedBy : Instruction → Request → Type 0
IsAskedBy (does.ReadCell c) q = Unit {0}
IsAskedBy (does.WriteCell c) q = Unit {0}
IsAskedBy (does.ReadAt a) q = (c : ℕ) × (q ≡ Read c)
IsAskedBy (does.WriteAt a) q = (c : ℕ) × (v : Value) × (q ≡ Write c v)
IsAskedBy (does.Ask name) q = Unit {0}
IsAskedBy _ q = ⊥

-- a function that runs, by its parts
abbrev pub active : ℕ → ℕ → ℕ → ℕ → Active
active function place base rooms = record { function = function; place = place; base = base; rooms = rooms }

-- at the next place
abbrev pub next_place : Active → Active
next_place a = record a { place = a.place + 1 }

-- the instruction leads from one machine to another, or leaves it where it is: before a tick, at a request, or at the end of the task
abbrev pub Goes : Instruction → Went → Move → Machine → Machine → Type 0
Goes what went.On move m d = move ≡ quiet d
Goes what went.Tick move m d = (move ≡ tick (on m.top.operands m)) × (d ≡ m)
Goes what (went.Ends code) move m d = (move ≡ asks (End code)) × (d ≡ m)
Goes what went.Asks move m d = ((q : Request) × (move ≡ asks q) × IsAskedBy what q) × (d ≡ m)

-- where it leads to the next place, if it is done
abbrev pub after : Went → Active → Active
after went.On a = next_place a
after _ a = a

-- Whatever waits below, and whatever was heard, the instruction can be done over these values,
abbrev pub Can : RawParts → Instruction → Active → List Value → Type 0
Can code what a values = (callers : List Active) × (heard : Heard) × AreStacked code (a ∷ callers) (length values) × HasRoom (act code what (spelled code a callers values heard))

-- and leads to those.
abbrev pub Does : RawParts → Instruction → Active → List Value → Active → List Value → Type 0
Does code what a values a' values' =
    (callers : List Active) (heard : Heard) → AreStacked code (a ∷ callers) (length values) → HasRoom (act code what (spelled code a callers values heard)) →
    (act code what (spelled code a callers values heard) ≡ quiet (spelled code a' callers values' heard)) × AreStacked code (a' ∷ callers) (length values')

-- The same where what was heard tells, and may change.
abbrev pub CanHeard : RawParts → Instruction → Active → List Value → Heard → Type 0
CanHeard code what a values heard = (callers : List Active) × AreStacked code (a ∷ callers) (length values) × HasRoom (act code what (spelled code a callers values heard))

abbrev pub DoesHeard : RawParts → Instruction → Active → List Value → Heard → Went → List Value → Heard → Type 0
DoesHeard code what a values heard w values' heard' =
    (callers : List Active) → AreStacked code (a ∷ callers) (length values) → HasRoom (act code what (spelled code a callers values heard)) →
    Goes what w (act code what (spelled code a callers values heard)) (spelled code a callers values heard) (spelled code (after w a) callers values' heard')
    × AreStacked code (after w a ∷ callers) (length values')

-- The same with those that wait, who may change.
abbrev pub CanNow : RawParts → Instruction → Active → List Active → List Value → Heard → Type 0
CanNow code what a callers values heard = AreStacked code (a ∷ callers) (length values) × HasRoom (act code what (spelled code a callers values heard))

abbrev pub Leads : RawParts → Instruction → Active → List Active → List Value → Heard → Went → Active → List Active → List Value → Heard → Type 0
Leads code what a callers values heard w a' callers' values' heard' =
    Goes what w (act code what (spelled code a callers values heard)) (spelled code a callers values heard) (spelled code a' callers' values' heard')
    × AreStacked code (a' ∷ callers') (length values')

-- so many values on top give place to one
abbrev pub Replaces : ℕ → List Value → Value → List Value → Type 0
Replaces taken values v values' = (low high : List Value) → values ≡ low ++ high → length high ≡ taken → values' ≡ low ++ v ∷ []

-- a value or a run error takes the place of so many values on top; a task that doesn't go on after run errors ends
abbrev pub Came : ℕ → Kind → Outcome → List Value → Heard → Went → List Value → Heard → Type 0
Came taken kind (Ok v) values heard w values' heard' = (w ≡ went.On) × (heard' ≡ heard) × Replaces taken values v values'
Came taken kind (Err code) values heard went.On values' heard' = (heard.goes_on ≡ true) × (heard' ≡ record heard { error = code }) × Replaces taken values (first_of_kind kind) values'
Came taken kind (Err code) values heard (went.Ends c) values' heard' = (heard.goes_on ≡ false) × (c ≡ code) × (heard' ≡ heard) × (values' ≡ values)
Came taken kind (Err code) values heard went.Tick values' heard' = ⊥
Came taken kind (Err code) values heard went.Asks values' heard' = ⊥

-- the array has an element with this index
abbrev pub is_inside : Cells → ℤ → Bool
is_inside array (pos i) = nat_lt i array.length
is_inside array (negsuc i) = false

-- the instruction goes on at the next place, if it is done
abbrev pub is_straight : Instruction → Bool
is_straight does.Tick = false
is_straight (does.Jump to) = false
is_straight (does.JumpIfZero to) = false
is_straight (does.Call f) = false
is_straight does.Return = false
is_straight _ = true
