-- Laws of worlds and runs.
use Rattle.std.specs.Prelude.{◌≡◌, ◌≢◌, ℕ, List}
use Rattle.std.specs.List.{AllByRecursion}
use Rattle.ci_base.specs.declared.entry.Entry.{Entry}
use Rattle.ci_base.specs.declared.entry.Entry.TheVariants as entries
use Rattle.ci_base.specs.declared.limits.Ending.{Ending}
use Rattle.ci_base.specs.declared.limits.Limits.{Limits}
use Rattle.ci_base.specs.declared.list.Loose.{Loose}
use Rattle.ci_world.specs.Follow.{Follows}
use Rattle.ci_world.specs.Serial.{Progress, Serial, loose}
use Rattle.ci_world.specs.Tasks.{IsDead}
use Rattle.ci_world.specs.Work.{FitsLoose, Ends}
use Rattle.ci_world.specs.World.{Origin, World, Run, RunFrom}

-- a history has at most one world after it
abbrev pub OneWorld : Type 0
OneWorld = (o : Origin) (h : List Entry) (v w : World) → Run o h v → Run o h w → v ≡ w

-- a run ends in at most one way
abbrev pub OneEnding : Type 0
OneEnding = (w : World) (h : List Entry) (ls : List Loose) (budget : ℕ) (a b : Ending) → Ends w h ls budget a → Ends w h ls budget b → a ≡ b

-- the round-robin run is a run, its loose ticks fit, and it ends as it says
abbrev pub SerialIsRun : Type 0
SerialIsRun =
    (o : Origin) (limits : Limits) (s : Progress) (ending : Ending) → Serial o limits s ending →
    Run o s.history s.world × FitsLoose o s.world (loose s) × Ends s.world s.history (loose s) limits.budget ending

-- and there is at most one
abbrev pub OneSerial : Type 0
OneSerial =
    (o : Origin) (limits : Limits) (s s' : Progress) (ending ending' : Ending) → Serial o limits s ending → Serial o limits s' ending' →
    (s ≡ s') × (ending ≡ ending')

-- the entry isn't a request of this task
abbrev pub IsOfOthers : ℕ → Entry → Type 0
IsOfOthers t (entries.Ask task ticks request reply) = task ≢ t
IsOfOthers t (entries.Script event reply) = Unit {0}

-- a task that has ended or was killed stays so, and makes no further step
abbrev pub NoStepAfterEnd : Type 0
NoStepAfterEnd =
    (o : Origin) (before behind : List Entry) (v w : World) (t : ℕ) → Run o before v → IsDead v.common.shared t → RunFrom o v behind w →
    IsDead w.common.shared t × AllByRecursion (IsOfOthers t) behind

-- in every run each task has come along its trail
abbrev pub RunFollowsTrails : Type 0
RunFollowsTrails = (o : Origin) (h : List Entry) (w : World) → Run o h w → Follows o h w
