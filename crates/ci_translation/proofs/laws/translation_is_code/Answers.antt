use Rattle.ci_translation.proofs.Theorem.{translation_is_code}
use Rattle.ci_translation.proofs.laws.translation_is_code.Goals as goal

pub returns : goal.returns
returns c = translation_is_code
