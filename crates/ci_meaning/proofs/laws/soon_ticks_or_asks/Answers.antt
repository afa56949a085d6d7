use Rattle.ci_meaning.proofs.Weight.{soon}
use Rattle.ci_meaning.proofs.laws.soon_ticks_or_asks.Goals as goal

-- src/laws.rt:10:1
pub returns : goal.returns
returns c = soon
