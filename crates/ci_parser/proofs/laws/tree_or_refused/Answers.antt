use Rattle.ci_parser.proofs.FromReading as laws
use Rattle.ci_parser.proofs.laws.tree_or_refused.Goals as goal

pub returns : goal.returns
returns c = laws.tree_or_refused
