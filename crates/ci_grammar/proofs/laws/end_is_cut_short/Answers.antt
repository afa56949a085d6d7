use Rattle.ci_grammar.proofs.Prefixes as laws
use Rattle.ci_grammar.proofs.laws.end_is_cut_short.Goals as goal

pub returns : goal.returns
returns c = laws.end_is_cut_short c.tree_or_refused.ensures
