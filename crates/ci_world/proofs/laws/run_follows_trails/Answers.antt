use Rattle.ci_world.proofs.Follow.{follows_run}
use Rattle.ci_world.proofs.laws.run_follows_trails.Goals as goal

pub returns : goal.returns
returns c = follows_run
