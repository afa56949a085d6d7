use Rattle.ci_builtin.proofs.Least as laws
use Rattle.ci_builtin.proofs.laws.searches_least.Goals as goal

pub returns : goal.returns
returns c = laws.searches_least
