use Rattle.ci_shared.proofs.Proved
use Rattle.ci_shared.proofs.laws.other_script.Goals as goal

pub returns : goal.returns
returns c = Proved.other_script
