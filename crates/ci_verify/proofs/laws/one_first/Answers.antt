use Rattle.ci_verify.proofs.Sound.{one_first}
use Rattle.ci_verify.proofs.laws.one_first.Goals as goal

pub returns : goal.returns
returns c = one_first
