use Rattle.ci_names.proofs.FirstFound as laws
use Rattle.ci_names.proofs.laws.first_is_noted.Goals as goal

pub returns : goal.returns
returns c = laws.first_is_noted
