use Rattle.ci_rules.proofs.Whole.{code_keeps_rules}
use Rattle.ci_rules.proofs.laws.code_keeps_rules.Goals as goal

pub returns : goal.returns
returns c = code_keeps_rules
