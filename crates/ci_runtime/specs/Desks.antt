-- What contracts see of a desk, and what its type keeps.
use Rattle.std.specs.Prelude.{◌≡◌, ◌≤◌, ◌<◌, ◌*◌, ◌+◌, ◌-◌, ◌^◌, ℕ, true, IsFalse, List, [], ◌∷◌, length, drop, All, Option, None, Some}
use Rattle.ci_base.specs.declared.bounds.TheConstants.{MOST_TASKS}
use Rattle.ci_base.specs.declared.entry.Entry.{Entry}
use Rattle.ci_base.specs.declared.event.Event.{Event}
use Rattle.ci_base.specs.declared.limits.Limits.{Limits}
use Rattle.ci_base.specs.declared.limits.Turn.{Turn}
use Rattle.ci_base.specs.declared.limits.Turn.TheVariants as turns
use Rattle.ci_base.specs.declared.reply.Reply.{Reply}
use Rattle.ci_code.specs.declared.raw.RawParts.{RawParts}
use Rattle.ci_code.specs.Code.{IsCode}
use Rattle.ci_program.specs.Programs.{IsProgram}
use Rattle.ci_runtime.specs.declared.board.Board.{Board}
use Rattle.ci_runtime.specs.declared.choice.Choice.{Choice}
use Rattle.ci_runtime.specs.declared.choice.Choice.TheVariants as choices
use Rattle.ci_runtime.specs.Along.{AllBorn}
use Rattle.ci_runtime.specs.Counting.{Counts}
use Rattle.ci_runtime.specs.Seats.{AreSeated}
use Rattle.ci_script.specs.Scripts.{IsScript}
use Rattle.ci_shared.specs.Laws.{Keeps, functions}
use Rattle.ci_shared.specs.State.{Shared}
use Rattle.ci_tree.specs.declared.bound.ProjectParts.{ProjectParts}
use Rattle.ci_tree.specs.SeenBound.{project_of}
use Rattle.ci_world.specs.Serial.{Progress, Requests, Round, TurnIn, TurnOf, first_above, TakesEvent, goes_on, or_else}
use Rattle.ci_world.specs.Tasks.{CanStep, NoneCanStep}
use Rattle.ci_world.specs.Trails.{common_after}
use Rattle.ci_world.specs.Work.{IsFinished, loose_of, work}
use Rattle.ci_world.specs.World.{Origin, IsDue, Run, basis}

-- what contracts see of a desk: its project, the events of the script, the limits, the entries so far, the ticks of each task since
-- its last entry, and the task that had the last turn, or 0
pub record DeskValue : Type 0 where
  pub project : ProjectParts
  pub events : List Event
  pub limits : Limits
  pub history : List Entry
  pub ticks : List ℕ
  pub last : ℕ

-- the same, where project and events are the origin of runs
pub record DeskState : Type 0 where
  pub origin : Origin
  pub limits : Limits
  pub history : List Entry
  pub ticks : List ℕ
  pub last : ℕ

abbrev pub origin_of : ProjectParts → List Event → Origin
origin_of project events = record { project = project_of project; events = events }

abbrev pub state : DeskValue → DeskState
state v = record { origin = origin_of v.project v.events; limits = v.limits; history = v.history; ticks = v.ticks; last = v.last }

abbrev pub desk_of : Origin → Limits → Board → DeskState
desk_of o limits b = record { origin = o; limits = limits; history = b.notes.entries; ticks = b.notes.ticks; last = b.last }

abbrev pub opening_desk : Origin → Limits → DeskState
opening_desk o limits = record { origin = o; limits = limits; history = []; ticks = []; last = 0 }

-- the code is that of the project
pub record HasCode (o : Origin) (code : RawParts) : Type 0 where
  pub is_code : IsCode code
  pub program : IsProgram o.project code

-- What the type of a desk keeps: its shared state is the one found by serving along the history, and each machine has come along the
-- trail of its task.
pub record IsKept (o : Origin) (code : RawParts) (limits : Limits) (b : Board) : Type 0 where
  pub has_code : HasCode o code
  pub script : IsScript o.events
  pub basis_is : b.store.basis ≡ basis o
  pub shared_is : b.store.shared ≡ (common_after o b.notes.entries).shared
  pub left_is : drop b.next o.events ≡ (common_after o b.notes.entries).left
  pub serving : Keeps (basis o) b.store.shared
  pub seated : AreSeated code o b.notes.entries b.store.shared.roster.tasks b.notes.ticks b.seats
  pub born : AllBorn code o b.notes.entries
  pub functions_are : b.notes.functions ≡ functions b.store.shared.roster.tasks
  pub named : All (λ f. f < length code.layout.functions) b.notes.functions
  pub work_is : b.work ≡ work b.notes.entries (loose_of b.notes.ticks)
  pub within : b.work ≤ limits.budget
  pub room : limits.budget ≤ 100 * b.notes.room + 99
  pub few : length b.store.shared.roster.tasks ≤ MOST_TASKS
  pub early : b.store.shared.clock ≤ 2 ^ 32 * b.next
  pub counted : Counts code o b.notes.entries b.instructions

-- the round-robin run, whose world is the one behind its history, has come to where the desk is
pub record Is (d : DeskState) (s : Progress) : Type 0 where
  pub run : Run d.origin s.history s.world
  pub history : s.history ≡ d.history
  pub ticks : s.ticks ≡ d.ticks
  pub last : s.last ≡ d.last

abbrev pub shared_of : DeskState → Shared
shared_of d = (common_after d.origin d.history).shared

abbrev pub left_of : DeskState → List Event
left_of d = (common_after d.origin d.history).left

abbrev pub work_of : DeskState → ℕ
work_of d = work d.history (loose_of d.ticks)

-- more is left of the budget than an entry takes
abbrev pub HasRest : DeskState → Type 0
HasRest d = work_of d + 100 < d.limits.budget

-- the task can make a step, and ticks of its turn and work are left
pub record CanGoOn (d : DeskState) (t left : ℕ) : Type 0 where
  pub can : CanStep (shared_of d) t
  pub some : 0 < left
  pub rest : HasRest d

-- the origin and the limits stay as they are
pub record IsSame (d d' : DeskState) : Type 0 where
  pub origin : d'.origin ≡ d.origin
  pub limits : d'.limits ≡ d.limits

-- what a task does next in its turn: it makes a request, and what is left of its turn is given where that goes on; or its ticks are used
abbrev pub Does : Origin → Limits → Progress → ℕ → ℕ → Option ℕ → Progress → Type 0
Does o limits s t left (Some left') s' = (reply : Reply) × Requests o limits s t left s' left' reply × (goes_on limits s' t left' reply ≡ true)
Does o limits s t left None s' = TurnIn o limits 0 s t left s'

-- A call leads a desk on as the round-robin run goes on from wherever the desk is.
abbrev pub DoesFrom : DeskState → ℕ → ℕ → Option ℕ → DeskState → Type 0
DoesFrom d t left result d' = (s : Progress) → Is d s → (s' : Progress) × Does d.origin d.limits s t left result s' × Is d' s'

abbrev pub TurnFrom : DeskState → ℕ → ℕ → DeskState → Type 0
TurnFrom d t left d' = (s : Progress) → Is d s → (s' : Progress) × TurnOf d.origin d.limits s t left s' × Is d' s'

abbrev pub TookFrom : DeskState → DeskState → Type 0
TookFrom d d' = (s : Progress) → Is d s → (s' : Progress) × TakesEvent d.origin s s' × Is d' s'

-- whose turn is next
abbrev pub next_task : DeskState → Option ℕ
next_task d = or_else (first_above d.last 1 (shared_of d).roster.tasks) (first_above 0 1 (shared_of d).roster.tasks)

-- the front event's time has come
pub record IsFrontDue (d : DeskState) : Type 0 where
  pub event : Event
  pub rest : List Event
  pub front : left_of d ≡ event ∷ rest
  pub due : IsDue (common_after d.origin d.history) event

-- no event is left, and no task can make a step
pub record IsAtEnd (d : DeskState) : Type 0 where
  pub no_event : left_of d ≡ []
  pub none_can_step : NoneCanStep (shared_of d)

-- which rule of a round applies
abbrev pub Chooses : DeskState → Choice → Type 0
Chooses d choices.End = IsAtEnd d
Chooses d choices.Stop = (IsAtEnd d → ⊥) × (d.limits.budget - work_of d ≤ 100)
Chooses d choices.Happen = HasRest d × IsFrontDue d
Chooses d (choices.Turn t) = HasRest d × (next_task d ≡ Some t) × ((e : Event) (rest : List Event) → left_of d ≡ e ∷ rest → IsFalse e.soon)

-- what one round does
abbrev pub Rounded : Origin → Limits → Progress → Turn → Progress → Type 0
Rounded o limits s turns.Went s' = Round o limits s s'
Rounded o limits s turns.Finished s' = IsFinished s.world.common × (s' ≡ s)
Rounded o limits s turns.Spent s' = (IsFinished s.world.common → ⊥) × (limits.budget - work s.history (loose_of s.ticks) ≤ 100) × (s' ≡ s)

abbrev pub RoundFrom : DeskState → Turn → DeskState → Type 0
RoundFrom d turn d' = (s : Progress) → Is d s → (s' : Progress) × Rounded d.origin d.limits s turn s' × Is d' s'

-- by which rule a round goes on or ends the run: by its tasks and events, or by its budget
abbrev pub GoesBy : DeskState → Turn → Type 0
GoesBy d turns.Went = (IsAtEnd d → ⊥) × HasRest d
GoesBy d turns.Finished = IsAtEnd d
GoesBy d turns.Spent = (IsAtEnd d → ⊥) × (d.limits.budget - work_of d ≤ 100)
