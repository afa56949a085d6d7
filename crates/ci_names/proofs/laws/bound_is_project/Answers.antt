use Rattle.ci_names.proofs.Projects as laws
use Rattle.ci_names.proofs.laws.bound_is_project.Goals as goal

pub returns : goal.returns
returns c = laws.bound_is_project
