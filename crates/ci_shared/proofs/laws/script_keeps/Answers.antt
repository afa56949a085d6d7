use Rattle.ci_shared.proofs.Proved
use Rattle.ci_shared.proofs.laws.script_keeps.Goals as goal

pub returns : goal.returns
returns c = Proved.script_keeps
