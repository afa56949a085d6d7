use Rattle.ci_parser.proofs.Nodes as laws
use Rattle.ci_parser.proofs.laws.token_for_each_node.Goals as goal

pub returns : goal.returns
returns c = laws.token_for_each_node
