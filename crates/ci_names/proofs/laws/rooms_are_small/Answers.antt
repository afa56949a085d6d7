use Rattle.ci_names.proofs.Small as laws
use Rattle.ci_names.proofs.laws.rooms_are_small.Goals as goal

pub returns : goal.returns
returns c = laws.rooms_are_small
