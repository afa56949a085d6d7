use Rattle.ci_shared.proofs.Proved
use Rattle.ci_shared.proofs.laws.opening_keeps.Goals as goal

pub returns : goal.returns
returns c = Proved.opening_keeps
