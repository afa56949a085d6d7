use Rattle.ci_shared.proofs.Clocks
use Rattle.ci_shared.proofs.laws.script_clock.Goals as goal

pub returns : goal.returns
returns c = Clocks.script_clock
