-- Where the tasks of a run stand on the tree: each has come along its trail.
use Rattle.std.specs.Prelude.{◌≡◌, ◌<◌, ℕ, List, [], ◌∷◌, length, Some}
use Rattle.ci_base.specs.declared.entry.Entry.{Entry}
use Rattle.ci_base.specs.declared.reply.Answer.{Answer}
use Rattle.ci_base.specs.declared.request.Request.{Request}
use Rattle.ci_base.specs.declared.task.Birth.{Birth}
use Rattle.ci_base.specs.declared.task.Trail.{Trail}
use Rattle.ci_base.specs.Steps.{Stands}
use Rattle.ci_tree.specs.Bound.{Project}
use Rattle.ci_meaning.specs.Configuration.{Configuration, opening}
use Rattle.ci_meaning.specs.Meaning.{next, resume}
use Rattle.ci_shared.specs.Roster.{Standing, Ready, Waiting, Ended, Killed, standing_at}
use Rattle.ci_world.specs.Lists.{at_task}
use Rattle.ci_world.specs.Trails.{common_after, trail}
use Rattle.ci_world.specs.World.{Origin, World}

-- from one configuration to another with these answers: each comes where the task stands at a request
abbrev pub Comes : Project → Configuration → List Answer → Configuration → Type 0
Comes p c [] e = e ≡ c
Comes p c (a ∷ more) e = (k : ℕ) × (q : Request) × (d : Configuration) × Stands (next p) c k q d × Comes p (resume d a) more e

-- where a task stands, from right after its last answer on: a ready one is there, and a waiting one stands at its request
abbrev pub IsAt : Project → Standing → Configuration → Configuration → Type 0
IsAt p Ready c0 c = c ≡ c0
IsAt p (Waiting place) c0 c = (k : ℕ) × (q : Request) × Stands (next p) c0 k q c
IsAt p (Ended code) c0 c = Unit {0}
IsAt p Killed c0 c = Unit {0}

-- it has come along a trail
abbrev pub ComesAlong : Origin → Trail → Standing → Configuration → Type 0
ComesAlong o x y c =
    (b : Birth) × (x.birth ≡ Some b) × (b.function < length o.project.functions)
    × ((c0 : Configuration) × Comes o.project (opening o.project b.function b.args) x.answers c0 × IsAt o.project y c0 c)

-- the world after a history: its shared state is the one found by serving alone, and each task has come along its trail
pub record Follows (o : Origin) (h : List Entry) (w : World) : Type 0 where
  pub common : w.common ≡ common_after o h
  pub many : length w.configurations ≡ length w.common.shared.roster.tasks
  pub each :
      (t : ℕ) (y : Standing) (c : Configuration) → standing_at w.common.shared.roster t ≡ Some y → at_task w.configurations t ≡ Some c →
      ComesAlong o (trail o t h) y c
