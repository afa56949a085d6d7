use Rattle.ci_shared.proofs.Proved
use Rattle.ci_shared.proofs.laws.script_grows.Goals as goal

pub returns : goal.returns
returns c = Proved.script_grows
