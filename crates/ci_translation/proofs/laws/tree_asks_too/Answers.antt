use Rattle.ci_translation.proofs.Theorem.{tree_asks_too}
use Rattle.ci_translation.proofs.laws.tree_asks_too.Goals as goal

pub returns : goal.returns
returns c = tree_asks_too
