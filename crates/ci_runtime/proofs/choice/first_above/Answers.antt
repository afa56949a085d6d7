use Rattle.ci_runtime.proofs.Choosing.{find_live}
use Rattle.ci_runtime.proofs.choice.first_above.Goals as goal

pub loop-task-init : goal.loop-task-init
loop-task-init c = find_live c.args.store.now.shared.roster.tasks c.args.last
