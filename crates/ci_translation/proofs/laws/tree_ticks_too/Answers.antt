use Rattle.ci_translation.proofs.Theorem.{tree_ticks_too}
use Rattle.ci_translation.proofs.laws.tree_ticks_too.Goals as goal

pub returns : goal.returns
returns c = tree_ticks_too
