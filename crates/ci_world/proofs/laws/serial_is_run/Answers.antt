use Rattle.ci_world.proofs.Sound.{serial_sound}
use Rattle.ci_world.proofs.laws.serial_is_run.Goals as goal

pub returns : goal.returns
returns c = serial_sound
