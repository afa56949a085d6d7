use Rattle.ci_translation.proofs.Theorem.{code_simulates}
use Rattle.ci_translation.proofs.laws.code_simulates.Goals as goal

-- src/laws.rt:8:1
pub returns : goal.returns
returns c = code_simulates c.soon_ticks_or_asks.ensures
