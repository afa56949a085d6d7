use Rattle.ci_grammar.proofs.Prefixes as laws
use Rattle.ci_grammar.proofs.laws.completion_is_spelled.Goals as goal

pub returns : goal.returns
returns c = laws.completion_is_spelled c.tree_or_refused.ensures
