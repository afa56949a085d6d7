use Rattle.ci_world.proofs.Alone.{one_run}
use Rattle.ci_world.proofs.laws.one_serial.Goals as goal

pub returns : goal.returns
returns c = one_run
