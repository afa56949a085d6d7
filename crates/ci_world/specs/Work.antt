-- The work of a run, its loose ticks, and how it ends.
use Rattle.std.specs.Prelude.{◌≡◌, ℕ, zero, suc, ◌+◌, ◌-◌, ◌*◌, ◌<◌, ◌≤◌, List, [], ◌∷◌, length, sum_by, Some, AllPairs}
use Rattle.std.specs.List.{AllByRecursion}
use Rattle.ci_base.specs.declared.entry.Entry.{Entry}
use Rattle.ci_base.specs.declared.entry.Entry.TheVariants as entries
use Rattle.ci_base.specs.declared.limits.Ending.{Ending}
use Rattle.ci_base.specs.declared.limits.Ending.TheVariants as endings
use Rattle.ci_base.specs.declared.list.Loose.{Loose}
use Rattle.ci_base.specs.Steps.{Reaches}
use Rattle.ci_meaning.specs.Configuration.{Configuration}
use Rattle.ci_meaning.specs.Meaning.{next}
use Rattle.ci_world.specs.Lists.{at_task}
use Rattle.ci_world.specs.Tasks.{NoneCanStep, NoneLive}
use Rattle.ci_world.specs.World.{Origin, Common, World}

-- the ticks that led to an entry
abbrev pub ticks_of : Entry → ℕ
ticks_of (entries.Ask task ticks request reply) = ticks
ticks_of (entries.Script event reply) = 0

-- the ticks of all entries, 100 for each entry, and all loose ticks
abbrev pub work : List Entry → List Loose → ℕ
work history loose = sum_by ticks_of history + 100 * length history + sum_by (λ (m : Loose). m.ticks) loose

-- the task was started, and has made exactly these ticks, more than 0, since its last entry
pub record FitsOne (o : Origin) (w : World) (member : Loose) : Type 0 where
  pub some : 0 < member.ticks
  pub from : Configuration
  pub from_is : at_task w.configurations member.task ≡ Some from
  pub to : Configuration
  pub reaches : Reaches (next o.project) from member.ticks to

-- the loose ticks are those of tasks by rising numbers, each by its configuration
pub record FitsLoose (o : Origin) (w : World) (loose : List Loose) : Type 0 where
  pub rising : AllPairs (λ (a b : Loose). a.task < b.task) loose
  pub each : AllByRecursion (FitsOne o w) loose

-- no event is left, and no task can make a step
pub record IsFinished (c : Common) : Type 0 where
  pub no_event : c.left ≡ []
  pub none_can_step : NoneCanStep c.shared

-- how a run ends that has done so much work: finished or resting where no step is left, spent where the budget is
abbrev pub EndsAs : Common → ℕ → ℕ → Ending → Type 0
EndsAs c worked budget endings.Finished = IsFinished c × NoneLive c.shared
EndsAs c worked budget endings.Resting = IsFinished c × (NoneLive c.shared → ⊥)
EndsAs c worked budget endings.Spent = (IsFinished c → ⊥) × (budget - worked ≤ 100)
EndsAs c worked budget endings.NotRun = ⊥

-- the work is within the budget, and the run ends so
pub record Ends (w : World) (history : List Entry) (loose : List Loose) (budget : ℕ) (ending : Ending) : Type 0 where
  pub within : work history loose ≤ budget
  pub as_it_ends : EndsAs w.common (work history loose) budget ending

-- the loose ticks, read off the ticks that each task has made since its last entry; the front one is that of task n
abbrev pub loose_from : ℕ → List ℕ → List Loose
loose_from n [] = []
loose_from n (zero ∷ rest) = loose_from (suc n) rest
loose_from n (suc k ∷ rest) = record { task = n; ticks = suc k } ∷ loose_from (suc n) rest

abbrev pub loose_of : List ℕ → List Loose
loose_of ticks = loose_from 1 ticks
