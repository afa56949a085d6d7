use Rattle.ci_shared.proofs.Owners
use Rattle.ci_shared.proofs.laws.opening_owns.Goals as goal

pub returns : goal.returns
returns c = Owners.opening_owns
