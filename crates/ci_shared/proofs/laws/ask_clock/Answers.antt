use Rattle.ci_shared.proofs.Clocks
use Rattle.ci_shared.proofs.laws.ask_clock.Goals as goal

pub returns : goal.returns
returns c = Clocks.ask_clock
