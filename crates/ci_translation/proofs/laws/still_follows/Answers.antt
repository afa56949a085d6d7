use Rattle.ci_translation.proofs.Theorem.{still_follows}
use Rattle.ci_translation.proofs.laws.still_follows.Goals as goal

pub returns : goal.returns
returns c = still_follows
