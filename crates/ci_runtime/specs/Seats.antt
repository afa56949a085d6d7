-- The machines of the tasks, one seat for each task that was started.
use Rattle.std.specs.Prelude.{◌≡◌, ◌≢◌, ◌≤◌, ◌<◌, ℕ, Bool, true, false, List, [], ◌∷◌, ◌++◌, length, count_by, Option, None, Some, IfSome}
use Rattle.ci_base.specs.declared.bounds.TheConstants.{MOST_LIVE_TASKS, MOST_TASKS}
use Rattle.ci_base.specs.declared.entry.Entry.{Entry}
use Rattle.ci_base.specs.declared.place.Place.{Place}
use Rattle.ci_base.specs.declared.reply.Answer.{Answer}
use Rattle.ci_base.specs.declared.reply.Reply.{Reply}
use Rattle.ci_base.specs.declared.reply.Reply.TheVariants as replies
use Rattle.ci_base.specs.declared.request.Request.{Request}
use Rattle.ci_base.specs.declared.task.Birth.{Birth}
use Rattle.ci_base.specs.declared.task.Delivery.{Delivery}
use Rattle.ci_base.specs.declared.task.Trail.{Trail}
use Rattle.ci_base.specs.Requests.{Fits}
use Rattle.ci_base.specs.Steps.{asks}
use Rattle.ci_code.specs.declared.raw.RawParts.{RawParts}
use Rattle.ci_code.specs.Machine.{next}
use Rattle.ci_shared.specs.Laws.{FitsPlace}
use Rattle.ci_shared.specs.Roster.{Standing, Ready, Waiting, Ended, Killed, Task, standing_in, is_live}
use Rattle.ci_task.specs.declared.behind.Behind.{Behind}
use Rattle.ci_task.specs.declared.machine.Pause.{Pause}
use Rattle.ci_task.specs.Moved as task
use Rattle.ci_task.specs.Moved.{ArgsFit, moved, machine_of, cell_kinds, Paused, Resumes}
use Rattle.ci_world.specs.Lists.{at_task}
use Rattle.ci_world.specs.Trails.{trail}
use Rattle.ci_world.specs.World.{Origin}

-- a task machine as contracts see it
abbrev pub Runner : Type 0
Runner = task.Standing

-- a seat, which is empty where its task is dead
abbrev pub Seat : Type 0
Seat = Option Runner

abbrev pub is_taken : Seat → Bool
is_taken None = false
is_taken (Some m) = true

-- the machine of a task that waits at a place: it stands at a request, which each answer that comes there fits
pub record StandsWaiting (code : RawParts) (x : Trail) (place : Place) (seat : Seat) : Type 0 where
  pub machine : Runner
  pub there : seat ≡ Some machine
  pub ticks : ℕ
  pub along : moved code x ticks machine
  pub behind : Behind
  pub told : machine.told ≡ Some behind
  pub request : Request
  pub stands : next code (machine_of code machine) ≡ asks request
  pub fits : (a : Answer) → FitsPlace place a → Fits (cell_kinds code) request a

-- the seat of a task, by its trail, its ticks since its last entry, and how it stands
abbrev pub IsSeated : RawParts → Trail → ℕ → Standing → Seat → Type 0
IsSeated code x k Ready seat = (m : Runner) × (seat ≡ Some m) × moved code x k m
IsSeated code x k (Waiting place) seat = StandsWaiting code x place seat × (k ≡ 0)
IsSeated code x k (Ended c) seat = seat ≡ None
IsSeated code x k Killed seat = seat ≡ None

-- the seats of all tasks
pub record AreSeated (code : RawParts) (o : Origin) (h : List Entry) (tasks : List Task) (ticks : List ℕ) (seats : List Seat) : Type 0 where
  pub many_ticks : length ticks ≡ length tasks
  pub many_seats : length seats ≡ length tasks
  pub each :
      (t : ℕ) (y : Standing) (k : ℕ) (seat : Seat) → standing_in tasks t ≡ Some y → at_task ticks t ≡ Some k → at_task seats t ≡ Some seat →
      IsSeated code (trail o t h) k y seat

-- one seat has changed
pub record Changed (t : ℕ) (old new : List Seat) : Type 0 where
  pub long : length new ≡ length old
  pub others : (u : ℕ) → u ≢ t → at_task new u ≡ at_task old u
  pub few : count_by is_taken new ≤ count_by is_taken old

-- the machine of a task has run
pub record RanAt (code : RawParts) (t ticks : ℕ) (pause : Pause) (old new : List Seat) : Type 0 where
  pub changed : Changed t old new
  pub there :
      (m : Runner) → at_task old t ≡ Some (Some m) → (m' : Runner) × (at_task new t ≡ Some (Some m'))
      × ((x : Trail) (k : ℕ) → moved code x k m → Paused code x k ticks pause m')

-- the machine of a task took an answer, if it is there
pub record ResumedAt (t : ℕ) (a : Answer) (old new : List Seat) : Type 0 where
  pub changed : Changed t old new
  pub there : (m : Runner) → at_task old t ≡ Some (Some m) → (m' : Runner) × (at_task new t ≡ Some (Some m')) × Resumes a m m'

-- the seat of a task is empty
pub record FreedAt (t : ℕ) (old new : List Seat) : Type 0 where
  pub changed : Changed t old new
  pub gone : (seat : Seat) → at_task old t ≡ Some seat → at_task new t ≡ Some None

-- the machines took their answers, one after another
abbrev pub Delivered : List Delivery → List Seat → List Seat → Type 0
Delivered [] old new = new ≡ old
Delivered (d ∷ ds) old new = (mid : List Seat) × ResumedAt d.task d.answer old mid × Delivered ds mid new

-- what the reply does to the machine of the task that asked
abbrev pub OwnSettled : ℕ → Reply → List Seat → List Seat → Type 0
OwnSettled u (replies.Answer a) old new = ResumedAt u a old new
OwnSettled u replies.Waits old new = new ≡ old
OwnSettled u replies.Ends old new = FreedAt u old new

-- the seat of the task of this number is empty where the task is dead
pub record VictimAt (v : ℕ) (tasks : List Task) (old new : List Seat) : Type 0 where
  pub changed : Changed v old new
  pub told :
      (y : Standing) (seat : Seat) → standing_in tasks v ≡ Some y → at_task old v ≡ Some seat →
      (is_live y ≡ false → at_task new v ≡ Some None) × (is_live y ≡ true → at_task new v ≡ Some seat)

-- those of the tasks that may be killed, one after another
abbrev pub VictimsSettled : List ℕ → List Task → List Seat → List Seat → Type 0
VictimsSettled [] tasks old new = new ≡ old
VictimsSettled (v ∷ vs) tasks old new = (mid : List Seat) × VictimAt v tasks old mid × VictimsSettled vs tasks mid new

-- where a task is started, its arguments fit its function, a machine is spare, and there is a seat
abbrev pub CanStart : RawParts → Option Birth → List Seat → Type 0
CanStart code None seats = Unit {0}
CanStart code (Some b) seats = ArgsFit code b.function b.args × (count_by is_taken seats < MOST_LIVE_TASKS) × (length seats < MOST_TASKS)

-- and its ticks can be noted
abbrev pub CanBegin : RawParts → Option Birth → List Seat → List ℕ → Type 0
CanBegin code birth seats ticks = CanStart code birth seats × IfSome birth (λ b. length ticks < MOST_TASKS)

-- a task that was started has a machine, which begins
abbrev pub BornSettled : RawParts → Option Birth → List Seat → List Seat → Type 0
BornSettled code None old new = new ≡ old
BornSettled code (Some b) old new =
    (m : Runner) × (new ≡ old ++ Some m ∷ []) × ((x : Trail) → x.birth ≡ Some b → x.answers ≡ [] → moved code x 0 m)

-- the machines after an entry: of the task that asked, of those that may be killed, of those that were answered, and of the new one
pub record Settled (code : RawParts) (u : ℕ) (r : Reply) (vs : List ℕ) (tasks : List Task) (ds : List Delivery) (b : Option Birth) (old new : List Seat) : Type 0 where
  pub first : List Seat
  pub second : List Seat
  pub third : List Seat
  pub own : OwnSettled u r old first
  pub victims : VictimsSettled vs tasks first second
  pub rest : Delivered ds second third
  pub born : BornSettled code b third new
