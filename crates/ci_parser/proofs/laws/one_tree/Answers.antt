use Rattle.ci_parser.proofs.FromReading as laws
use Rattle.ci_parser.proofs.laws.one_tree.Goals as goal

pub returns : goal.returns
returns c = laws.one_tree
