use Rattle.ci_verify.proofs.Resumed.{answers_keep}
use Rattle.ci_verify.proofs.laws.answers_keep.Goals as goal

pub returns : goal.returns
returns c = answers_keep
