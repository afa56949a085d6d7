use Rattle.ci_meaning.proofs.Rooms.{stay}
use Rattle.ci_meaning.proofs.laws.rooms_stay_small.Goals as goal

-- src/laws.rt:15:1
pub returns : goal.returns
returns c = stay
