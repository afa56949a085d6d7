use Rattle.ci_grammar.proofs.Levels as laws
use Rattle.ci_grammar.proofs.laws.unexpected_is_wrong.Goals as goal

pub returns : goal.returns
returns c = laws.unexpected_is_wrong c.tree_or_refused.ensures
