use Rattle.ci_rules.proofs.Fits.{translation_fits}
use Rattle.ci_rules.proofs.laws.translation_fits.Goals as goal

pub returns : goal.returns
returns c = translation_fits c.translation_is_code.ensures
