use Rattle.ci_verify.proofs.Safe.{never_full}
use Rattle.ci_verify.proofs.laws.never_full.Goals as goal

pub returns : goal.returns
returns c = never_full
