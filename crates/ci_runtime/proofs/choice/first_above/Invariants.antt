use Rattle.std.proofs.Common.{◌≡◌, drop}
use Rattle.ci_runtime.proofs.Choosing.{first_of}
use Rattle.ci_world.specs.Serial.{first_above}
use Rattle.ci_store.specs.Stored.{live_tasks}
use Rattle.ci_runtime.proofs.choice.first_above.Given as goal

abbrev pub invariant-loop-task : goal.invariant-loop-task
invariant-loop-task l = first_above l.last 1 l.store.shared.roster.tasks ≡ first_of l.store.shared.roster.tasks l.last (drop l.task-index (live_tasks 1 l.store.shared.roster.tasks))
