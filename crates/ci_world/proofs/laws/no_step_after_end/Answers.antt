use Rattle.ci_world.proofs.Alone.{dead_run}
use Rattle.ci_world.proofs.laws.no_step_after_end.Goals as goal

pub returns : goal.returns
returns c = dead_run
