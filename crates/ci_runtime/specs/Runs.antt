-- What a run on one thread gives.
use Rattle.std.specs.Prelude.{◌≡◌, ℕ, List}
use Rattle.ci_base.specs.declared.entry.Entry.{Entry}
use Rattle.ci_base.specs.declared.limits.Ending.{Ending}
use Rattle.ci_base.specs.declared.limits.Limits.{Limits}
use Rattle.ci_base.specs.declared.list.Loose.{Loose}
use Rattle.ci_runtime.specs.Counting.{Counts}
use Rattle.ci_runtime.specs.declared.ended.Ended.{Ended}
use Rattle.ci_runtime.specs.Desks.{DeskState, Is, work_of}
use Rattle.ci_runtime.specs.EndStates.{end_state}
use Rattle.ci_translation.specs.Translation.{translation}
use Rattle.ci_world.specs.Serial.{Progress, Rounds, Serial, loose as loose_ticks}
use Rattle.ci_world.specs.Trails.{common_after}
use Rattle.ci_world.specs.Work.{Ends, EndsAs, FitsLoose, loose_of}
use Rattle.ci_world.specs.World.{Origin, Run}

-- where a desk is, the run ends so
abbrev pub EndsSo : DeskState → Ending → Type 0
EndsSo d ending = EndsAs (common_after d.origin d.history) (work_of d) d.limits.budget ending

-- rounds lead from one desk to another
abbrev pub RoundsFrom : DeskState → DeskState → Type 0
RoundsFrom d d' = (s : Progress) → Is d s → (s' : Progress) × ((n : ℕ) × Rounds d.origin d.limits n s s') × Is d' s'

-- This is what is kept of the run that a desk has made.
pub record IsEnd (d : DeskState) (e : Ended) : Type 0 where
  pub history_is : e.history.entries ≡ d.history
  pub loose_are : e.loose ≡ loose_of d.ticks
  pub instructions_are : Counts (translation d.origin.project) d.origin d.history e.end.instructions
  pub ends : EndsSo d e.end.ending
  pub end_is : e.end ≡ end_state d.origin d.history (loose_of d.ticks) e.end.instructions e.end.ending

-- This is the round-robin run of a project and its script: it is a run of the preemptive machine on the trees, its loose ticks fit, its
-- work is within the budget, it ends as it says, and so many instructions led to its entries.
pub record IsSerialRun (o : Origin) (limits : Limits) (history : List Entry) (loose : List Loose) (instructions : ℕ) (ending : Ending) : Type 0 where
  pub serial : Progress
  pub rounds : Serial o limits serial ending
  pub history_is : serial.history ≡ history
  pub loose_are : loose_ticks serial ≡ loose
  pub run : Run o history serial.world
  pub fits : FitsLoose o serial.world loose
  pub ends : Ends serial.world history loose limits.budget ending
  pub instructions_are : Counts (translation o.project) o history instructions

-- What is kept is the round-robin run, with the state in which it ended.
pub record IsRun (o : Origin) (limits : Limits) (e : Ended) : Type 0 where
  pub serial : IsSerialRun o limits e.history.entries e.loose e.end.instructions e.end.ending
  pub end_is : e.end ≡ end_state o e.history.entries e.loose e.end.instructions e.end.ending
