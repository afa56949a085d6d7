use Rattle.ci_rules.proofs.Whole.{translation_keeps_rules}
use Rattle.ci_rules.proofs.laws.translation_keeps_rules.Goals as goal

pub returns : goal.returns
returns c = translation_keeps_rules c.translation_is_code.ensures
