-- What joins the code and the tree.
use Rattle.std.specs.Prelude.{◌≡◌, ℕ, List, Some}
use Rattle.ci_base.specs.declared.entry.Entry.{Entry}
use Rattle.ci_base.specs.declared.request.Request.{Request}
use Rattle.ci_base.specs.Steps.{Stands, asks}
use Rattle.ci_code.specs.declared.raw.RawParts.{RawParts}
use Rattle.ci_code.specs.Machine as code
use Rattle.ci_code.specs.Moves.{Machine}
use Rattle.ci_translation.specs.Simulates.{Simulates}
use Rattle.ci_meaning.specs.Configuration.{Configuration}
use Rattle.ci_meaning.specs.Meaning as tree
use Rattle.ci_runtime.specs.Along.{Along}
use Rattle.ci_shared.specs.Roster.{Ready, standing_at}
use Rattle.ci_tree.specs.Layouts.{layout_of}
use Rattle.ci_world.specs.Lists.{at_task}
use Rattle.ci_world.specs.Serial.{IsTick, Ticks}
use Rattle.ci_world.specs.Trails.{trail}
use Rattle.ci_world.specs.World.{Origin, World, Run}

-- what a machine of the code does that has come along a task's trail, the task does on the tree: it comes to the same request after the
-- same ticks, or the next tick comes before any request
pub record DoesTheSame (o : Origin) (parts : RawParts) (c : Configuration) (k : ℕ) (m : Machine) : Type 0 where
  pub requests : (q : Request) → code.next parts m ≡ asks q → (d : Configuration) × Stands (tree.next o.project) c k q d
  pub ticks : IsTick (code.next parts m) → Ticks (tree.next o.project) c k

-- So it is in each run, for each ready task, where the code simulates the project.
abbrev pub CodeLeadsTree : Type 0
CodeLeadsTree =
    (o : Origin) (parts : RawParts) (h : List Entry) (w : World) → Simulates parts o.project → parts.layout ≡ layout_of o.project → Run o h w →
    (t : ℕ) (c : Configuration) (k : ℕ) (m : Machine) → standing_at w.common.shared.roster t ≡ Some Ready → at_task w.configurations t ≡ Some c → Along parts (trail o t h) k m →
    DoesTheSame o parts c k m
