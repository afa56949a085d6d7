-- The round-robin run: the run on one thread.
use Rattle.std.specs.Prelude.{◌≡◌, ◌⊎◌, ℕ, zero, suc, ◌+◌, ◌-◌, ◌<◌, ◌≤◌, ◌&&◌, nat_lt, min, not, Bool, true, false, if◌then◌else◌, IsFalse, List, [], ◌∷◌, ◌++◌, Option, None, Some}
use Rattle.std.specs.Option.{option_map_or}
use Rattle.ci_base.specs.declared.entry.Entry.{Entry}
use Rattle.ci_base.specs.declared.entry.Entry.TheVariants as entries
use Rattle.ci_base.specs.declared.event.Event.{Event}
use Rattle.ci_base.specs.declared.limits.Ending.{Ending}
use Rattle.ci_base.specs.declared.limits.Limits.{Limits}
use Rattle.ci_base.specs.declared.list.Loose.{Loose}
use Rattle.ci_base.specs.declared.reply.Reply.{Reply}
use Rattle.ci_base.specs.declared.reply.Reply.TheVariants as replies
use Rattle.ci_base.specs.declared.request.Request.{Request}
use Rattle.ci_base.specs.declared.task.Birth.{Birth}
use Rattle.ci_base.specs.Steps.{Next, tick, quiet, asks, stuck, Reaches, Stands}
use Rattle.ci_meaning.specs.Configuration.{Configuration}
use Rattle.ci_meaning.specs.Meaning.{next}
use Rattle.ci_shared.specs.Roster.{Task}
use Rattle.ci_shared.specs.Serving.{apply, script}
use Rattle.ci_shared.specs.State.{Shared}
use Rattle.ci_world.specs.Lists.{at_task, set_task}
use Rattle.ci_world.specs.Tasks.{can_step}
use Rattle.ci_world.specs.Work.{work, loose_of, IsFinished, EndsAs}
use Rattle.ci_world.specs.World.{Origin, World, IsDue, basis, asked, happened, opening_world}

-- the run between two rounds: the world; what was entered; the ticks of each task since its last entry, or since its start; and the
-- task that had the last turn, or 0
pub record Progress : Type 0 where
  pub world : World
  pub history : List Entry
  pub ticks : List ℕ
  pub last : ℕ

abbrev pub opening_progress : Origin → Progress
opening_progress o = record { world = opening_world o; history = []; ticks = []; last = 0 }

abbrev pub loose : Progress → List Loose
loose s = loose_of s.ticks

-- what the budget leaves
abbrev pub rest_of : Limits → Progress → ℕ
rest_of limits s = limits.budget - work s.history (loose s)

-- a task that was started has made no ticks
abbrev pub ticks_with : List ℕ → Option Birth → List ℕ
ticks_with ticks None = ticks
ticks_with ticks (Some b) = ticks ++ 0 ∷ []

-- the front event is taken
abbrev pub took : Origin → Progress → Event → List Event → Progress
took o s e rest =
    let served = script (basis o) s.world.common.shared e.what in
    record {
      world = happened o s.world e rest;
      history = s.history ++ entries.Script e served.reply ∷ [];
      ticks = ticks_with s.ticks served.birth;
      last = s.last;
    }

-- the task has come to a request after these ticks, and is served
abbrev pub served_at : Origin → Progress → ℕ → ℕ → Request → Configuration → Progress
served_at o s t ticks q at =
    let served = apply (basis o) s.world.common.shared t q in
    record {
      world = asked o s.world t q at;
      history = s.history ++ entries.Ask t ticks q served.reply ∷ [];
      ticks = ticks_with (set_task s.ticks t 0) served.birth;
      last = s.last;
    }

-- the task has made so many ticks since its last entry
abbrev pub ticked : Progress → ℕ → ℕ → Progress
ticked s t ticks = record s { ticks = set_task s.ticks t ticks }

-- the ticks for which a task may run, where so many are left of its turn
abbrev pub granted : Limits → Progress → ℕ → ℕ
granted limits s left = min left (rest_of limits s - 100)

-- The task makes a request within its ticks, and is served; so many ticks of its turn are left.
pub record Requests (o : Origin) (limits : Limits) (s : Progress) (t left : ℕ) (s' : Progress) (left' : ℕ) (reply : Reply) : Type 0 where
  pub from : Configuration
  pub from_is : at_task s.world.configurations t ≡ Some from
  pub before : ℕ
  pub before_is : at_task s.ticks t ≡ Some before
  pub more : ℕ
  pub within : more ≤ granted limits s left
  pub request : Request
  pub at : Configuration
  pub stands : Stands (next o.project) from (before + more) request at
  pub reply_is : reply ≡ (apply (basis o) s.world.common.shared t request).reply
  pub next_is : s' ≡ served_at o s t (before + more) request at
  pub left_is : left' ≡ left - more

-- a tick comes next
abbrev pub IsTick : {C Q : Type 0} → Next C Q → Type 0
IsTick (tick c) = Unit {0}
IsTick (quiet c) = ⊥
IsTick (asks q) = ⊥
IsTick stuck = ⊥

-- after exactly k ticks the next tick comes before the next request
abbrev pub Ticks : {C Q : Type 0} → (C → Next C Q) → C → ℕ → Type 0
Ticks {C} next c k = (d : C) × Reaches next c k d × IsTick (next d)

-- The task uses all its ticks, and comes to no request within them.
pub record RunsOut (o : Origin) (limits : Limits) (s : Progress) (t left : ℕ) (s' : Progress) : Type 0 where
  pub from : Configuration
  pub from_is : at_task s.world.configurations t ≡ Some from
  pub before : ℕ
  pub before_is : at_task s.ticks t ≡ Some before
  pub ticks : Ticks (next o.project) from (before + granted limits s left)
  pub next_is : s' ≡ ticked s t (before + granted limits s left)

abbrev pub is_answer : Reply → Bool
is_answer (replies.Answer a) = true
is_answer replies.Waits = false
is_answer replies.Ends = false

abbrev pub is_suspended : Shared → ℕ → Bool
is_suspended s t = option_map_or (λ (x : Task). x.suspended) (at_task s.roster.tasks t) false

-- whether the turn goes on after a request: it was answered, the task isn't suspended, and ticks and budget are left
abbrev pub goes_on : Limits → Progress → ℕ → ℕ → Reply → Bool
goes_on limits s t left reply = is_answer reply && not (is_suspended s.world.common.shared t) && nat_lt 0 left && nat_lt 100 (rest_of limits s)

-- the turn of a task that goes on after n requests
abbrev pub TurnIn : Origin → Limits → ℕ → Progress → ℕ → ℕ → Progress → Type 0
TurnIn o limits zero s t left s' =
    RunsOut o limits s t left s' ⊎ ((left' : ℕ) × (reply : Reply) × Requests o limits s t left s' left' reply × (goes_on limits s' t left' reply ≡ false))
TurnIn o limits (suc n) s t left s' =
    (mid : Progress) × (left' : ℕ) × (reply : Reply) × Requests o limits s t left mid left' reply × (goes_on limits mid t left' reply ≡ true)
    × TurnIn o limits n mid t left' s'

abbrev pub TurnOf : Origin → Limits → Progress → ℕ → ℕ → Progress → Type 0
TurnOf o limits s t left s' = (n : ℕ) × TurnIn o limits n s t left s'

-- the first of these tasks, which are those from number n on, that can make a step and has a number above `last`
abbrev pub first_above : ℕ → ℕ → List Task → Option ℕ
first_above last n [] = None
first_above last n (x ∷ rest) = if can_step x && nat_lt last n then Some n else first_above last (suc n) rest

abbrev pub or_else : Option ℕ → Option ℕ → Option ℕ
or_else None y = y
or_else (Some n) y = Some n

-- whose turn is next: of the tasks that can make a step, the first behind the one that had the last turn, or else the first of all
abbrev pub chosen : Progress → Option ℕ
chosen s = or_else (first_above s.last 1 s.world.common.shared.roster.tasks) (first_above 0 1 s.world.common.shared.roster.tasks)

-- the front event is taken, since its time has come
abbrev pub TakesEvent : Origin → Progress → Progress → Type 0
TakesEvent o s s' = (e : Event) × (rest : List Event) × (s.world.common.left ≡ e ∷ rest) × IsDue s.world.common e × (s' ≡ took o s e rest)

-- no event is marked to come first, and a task has its turn
abbrev pub GivesTurn : Origin → Limits → Progress → Progress → Type 0
GivesTurn o limits s s' =
    ((e : Event) (rest : List Event) → s.world.common.left ≡ e ∷ rest → IsFalse e.soon)
    × ((t : ℕ) × (chosen s ≡ Some t) × TurnOf o limits (record s { last = t }) t limits.slice s')

-- one round: the run isn't finished, there is budget left, and the front event is taken or a task has its turn
pub record Round (o : Origin) (limits : Limits) (s s' : Progress) : Type 0 where
  pub goes_on : IsFinished s.world.common → ⊥
  pub budget : 100 < rest_of limits s
  pub does : TakesEvent o s s' ⊎ GivesTurn o limits s s'

-- so many rounds
abbrev pub Rounds : Origin → Limits → ℕ → Progress → Progress → Type 0
Rounds o limits zero s s' = s' ≡ s
Rounds o limits (suc n) s s' = (mid : Progress) × Round o limits s mid × Rounds o limits n mid s'

-- rounds lead from one progress to another, and there the run ends so
abbrev pub SerialFrom : Origin → Limits → Progress → Progress → Ending → Type 0
SerialFrom o limits s s' ending = (n : ℕ) × Rounds o limits n s s' × EndsAs s'.world.common (work s'.history (loose s')) limits.budget ending

-- the round-robin run
abbrev pub Serial : Origin → Limits → Progress → Ending → Type 0
Serial o limits s ending = SerialFrom o limits (opening_progress o) s ending
