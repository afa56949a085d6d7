use Rattle.ci_verify.proofs.Safe.{never_stuck}
use Rattle.ci_verify.proofs.laws.never_stuck.Goals as goal

pub returns : goal.returns
returns c = never_stuck
