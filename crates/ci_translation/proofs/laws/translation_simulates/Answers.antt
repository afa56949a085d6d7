use Rattle.ci_translation.proofs.Theorem.{translation_simulates}
use Rattle.ci_translation.proofs.laws.translation_simulates.Goals as goal

pub returns : goal.returns
returns c = translation_simulates c.soon_ticks_or_asks.ensures
