use Rattle.ci_shared.proofs.Proved
use Rattle.ci_shared.proofs.laws.ask_keeps.Goals as goal

pub returns : goal.returns
returns c = Proved.ask_keeps
