use Rattle.ci_shared.proofs.Owners
use Rattle.ci_shared.proofs.laws.ask_owns.Goals as goal

pub returns : goal.returns
returns c = Owners.ask_owns
