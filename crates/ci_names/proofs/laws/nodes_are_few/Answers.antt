use Rattle.ci_names.proofs.Counted as laws
use Rattle.ci_names.proofs.laws.nodes_are_few.Goals as goal

pub returns : goal.returns
returns c = laws.nodes_are_few
