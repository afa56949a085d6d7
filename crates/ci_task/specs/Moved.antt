-- Where a task machine stands, and what was done with it since its start.
use Rattle.std.specs.Prelude.{◌≡◌, ℕ, ◌+◌, ◌<◌, ◌≤◌, ◌⊎◌, min, Bool, true, false, List, [], ◌∷◌, ◌++◌, length, map, Option, Some, None, slice_get}
use Rattle.ci_base.specs.declared.layout.CellHead.{CellHead}
use Rattle.ci_base.specs.declared.reply.Answer.{Answer}
use Rattle.ci_base.specs.declared.request.Request.{Request}
use Rattle.ci_base.specs.declared.request.Request.TheVariants as requests
use Rattle.ci_base.specs.declared.task.Birth.{Birth}
use Rattle.ci_base.specs.declared.task.Trail.{Trail}
use Rattle.ci_base.specs.declared.value.Kind.{Kind}
use Rattle.ci_base.specs.declared.value.Value.{Value}
use Rattle.ci_base.specs.Functions.{shared_takes}
use Rattle.ci_base.specs.Requests.{Fits}
use Rattle.ci_base.specs.Steps.{asks, Steps, Stands}
use Rattle.ci_base.specs.Values.{kind_of}
use Rattle.ci_code.specs.declared.instruction.Instruction.{Instruction}
use Rattle.ci_code.specs.declared.instruction.Instruction.TheVariants as does
use Rattle.ci_code.specs.declared.raw.RawFunction.{RawFunction}
use Rattle.ci_code.specs.declared.raw.RawParts.{RawParts}
use Rattle.ci_code.specs.Code.{IsCode}
use Rattle.ci_verify.specs.Rules.{NoneBroken}
use Rattle.ci_code.specs.Machine.{next, opening, resume, instruction_at, act}
use Rattle.ci_code.specs.Moves.{Machine, parameters_of}
use Rattle.ci_task.specs.declared.active.Active.{Active}
use Rattle.ci_task.specs.declared.behind.Behind.{Behind}
use Rattle.ci_task.specs.declared.heard.Heard.{Heard}
use Rattle.ci_task.specs.declared.machine.Pause.{Pause}
use Rattle.ci_task.specs.declared.machine.Pause.TheVariants as pauses
use Rattle.ci_task.specs.Spelled.{spelled, AreStacked}
use Rattle.ci_task.specs.Going.{IsAskedBy}
use Rattle.ci_task.specs.Running.{Holds, IsTick, StandsAsking, most_counted}

-- A task machine: the function that runs, those that wait, the latest first, the values of all, what the task remembers, the
-- count of private instructions, and what an answer will replace, where the machine stands at a request that it has told.
pub record Standing : Type 0 where
  pub at : Active
  pub callers : List Active
  pub values : List Value
  pub heard : Heard
  pub count : ℕ
  pub told : Option Behind

-- the machine of code that it is
abbrev pub machine_of : RawParts → Standing → Machine
machine_of code s = spelled code s.at s.callers s.values s.heard

-- the kinds of the cells
abbrev pub cell_kinds : RawParts → List Kind
cell_kinds code = map (λ (cell : CellHead). cell.kind) code.layout.cells

-- from one machine, so many answers on: each comes where the machine stands at a request that it fits
abbrev pub Led : RawParts → Machine → List Answer → Machine → Type 0
Led code m [] d = d ≡ m
Led code m (answer ∷ more) d =
    (k : ℕ) × (q : Request) × (at : Machine) × Stands (next code) m k q at × Fits (cell_kinds code) q answer × Led code (resume code at answer) more d

-- what an answer replaces behind an instruction
abbrev pub behind : Instruction → Behind
behind (does.ReadCell c) = record { taken = 0; gives = true }
behind (does.WriteCell c) = record { taken = 1; gives = false }
behind (does.ReadAt a) = record { taken = 1; gives = true }
behind (does.WriteAt a) = record { taken = 2; gives = false }
behind (does.Ask q) = record { taken = length (shared_takes q); gives = true }
behind _ = record { taken = 0; gives = false }

abbrev pub behind_at : Option Instruction → Behind
behind_at (Some what) = behind what
behind_at None = record { taken = 0; gives = false }

-- what an answer brings
abbrev pub brought : Bool → Value → List Value
brought true v = v ∷ []
brought false v = []

-- where the machine has told a request it stands there: at one that may get an answer, or at the end of the task
abbrev pub Tells : RawParts → Option Behind → Machine → Type 0
Tells code None m = Unit {0}
Tells code (Some b) m = (b ≡ behind_at (instruction_at code m)) × (StandsAsking code m ⊎ ((c : ℕ) × (next code m ≡ asks (requests.End c))))

-- The machine has come along a trail: from where its birth and then its answers have led it, by private instructions, so many of
-- which are ticks, and it has counted them.
pub record HasMoved (code : RawParts) (trail : Trail) (ticks : ℕ) (s : Standing) : Type 0 where
  pub birth : Birth
  pub born : trail.birth ≡ Some birth
  pub start : Machine
  pub led : Led code (opening code birth.function birth.args) trail.answers start
  pub number : ℕ
  pub steps : Steps (next code) number start ticks (machine_of code s)
  pub counted : s.count ≡ min number most_counted
  pub tells : Tells code s.told (machine_of code s)
  pub holds : Holds code s.at s.callers s.values s.heard

unfoldable pub moved : RawParts → Trail → ℕ → Standing → Type 0
moved code trail ticks s = HasMoved code trail ticks s

-- the request is one that the shared state can serve: the cell exists, and a value written there is of its kind
abbrev pub IsMade : RawParts → Request → Type 0
IsMade code (requests.Read c) = c < length code.layout.cells
IsMade code (requests.Write c v) = slice_get (cell_kinds code) c ≡ Some (kind_of v)
IsMade code _ = Unit {0}

-- what a run says of the machine: it stands at this request, after so many ticks; or its ticks are used, and a tick comes next
unfoldable pub Paused : RawParts → Trail → ℕ → ℕ → Pause → Standing → Type 0
Paused code trail before granted (pauses.Asks q ticks) s =
    (ticks ≤ granted) × moved code trail (before + ticks) s × (next code (machine_of code s) ≡ asks q) × IsMade code q × (s.told ≡ Some (behind_at (instruction_at code (machine_of code s))))
Paused code trail before granted (pauses.OutOfTicks ticks) s =
    (ticks ≡ granted) × moved code trail (before + ticks) s × IsTick (next code (machine_of code s)) × (s.told ≡ None)

-- the instructions since the last answer or start, and the one that asks where it was told
abbrev pub told_one : Option Behind → ℕ
told_one None = 0
told_one (Some b) = 1

abbrev pub instructions_of : Standing → ℕ
instructions_of s = min (s.count + told_one s.told) most_counted

-- the arguments fit the function of this number
pub record ArgsFit (code : RawParts) (f : ℕ) (args : List Value) : Type 0 where
  pub function : RawFunction
  pub found : slice_get code.functions f ≡ Some function
  pub kinds : map kind_of args ≡ parameters_of code f

-- The machine begins: it has moved along the trail of a birth without answers.
abbrev pub Begins : RawParts → ℕ → List Value → Standing → Type 0
Begins code f args s =
    (birth : Birth) (trail : Trail) → birth.function ≡ f → birth.args ≡ args → trail.birth ≡ Some birth → trail.answers ≡ [] → moved code trail 0 s

-- An answer that fits the request that was told leads the machine on along the trail.
abbrev pub Resumes : Answer → Standing → Standing → Type 0
Resumes answer s s' =
    (code : RawParts) (trail trail' : Trail) (ticks : ℕ) (b : Behind) (q : Request) → IsCode code → NoneBroken code → moved code trail ticks s → s.told ≡ Some b →
    next code (machine_of code s) ≡ asks q → Fits (cell_kinds code) q answer → trail'.birth ≡ trail.birth → trail'.answers ≡ trail.answers ++ answer ∷ [] → moved code trail' 0 s'

-- an instruction stands over these values, and asks so
abbrev pub Asking : RawParts → Instruction → List Value → Request → Type 0
Asking code what values q =
    (a : Active) × (callers : List Active) × (heard : Heard) × AreStacked code (a ∷ callers) (length values) × (act code what (spelled code a callers values heard) ≡ asks q) × IsAskedBy what q
