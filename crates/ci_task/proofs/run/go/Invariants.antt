use Rattle.std.proofs.Common.{◌≤◌, ◌+◌, ◌-◌, ◌*◌, reverse}
use Rattle.std.specs.Vec.{vec_capacity}
use Rattle.ci_base.specs.declared.bounds.TheConstants.{MOST_ROOM}
use Rattle.ci_task.specs.Courses.{at_place}
use Rattle.ci_task.specs.Spelled.{spelled}
use Rattle.ci_task.proofs.Running.{Loop, weight, heaviest}
use Rattle.ci_task.proofs.run.go.Given as goal

abbrev pub invariant-run : goal.invariant-run
invariant-run l = Loop l.code (spelled l.code l.fn.from (reverse l.fn.callers.items) l.fn.stack l.fn.heard) l.before l.ticks l.landed l.place (reverse l.callers.items) l.stack l.heard l.used l.count l.function l.steps × (MOST_ROOM ≤ vec_capacity l.callers)

abbrev pub decreases-run : goal.decreases-run
decreases-run l = (l.ticks - l.used) * heaviest + weight l.code (spelled l.code (at_place l.place l.landed) (reverse l.callers.items) l.stack l.heard)
