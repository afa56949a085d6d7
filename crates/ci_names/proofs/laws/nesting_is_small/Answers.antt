use Rattle.ci_names.proofs.Nested as laws
use Rattle.ci_names.proofs.laws.nesting_is_small.Goals as goal

pub returns : goal.returns
returns c = laws.nesting_is_small
