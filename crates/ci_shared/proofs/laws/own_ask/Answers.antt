use Rattle.ci_shared.proofs.Proved
use Rattle.ci_shared.proofs.laws.own_ask.Goals as goal

pub returns : goal.returns
returns c = Proved.own_ask
