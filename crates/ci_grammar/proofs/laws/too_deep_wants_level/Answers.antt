use Rattle.ci_grammar.proofs.Levels as laws
use Rattle.ci_grammar.proofs.laws.too_deep_wants_level.Goals as goal

pub returns : goal.returns
returns c = laws.too_deep_wants_level c.tree_or_refused.ensures
