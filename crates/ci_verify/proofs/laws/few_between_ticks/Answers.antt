use Rattle.ci_verify.proofs.Between.{few_between_ticks}
use Rattle.ci_verify.proofs.laws.few_between_ticks.Goals as goal

pub returns : goal.returns
returns c = few_between_ticks
