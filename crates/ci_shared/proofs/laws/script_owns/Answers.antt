use Rattle.ci_shared.proofs.Owners
use Rattle.ci_shared.proofs.laws.script_owns.Goals as goal

pub returns : goal.returns
returns c = Owners.script_owns
