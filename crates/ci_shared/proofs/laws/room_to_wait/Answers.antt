use Rattle.ci_shared.proofs.Proved
use Rattle.ci_shared.proofs.laws.room_to_wait.Goals as goal

pub returns : goal.returns
returns c = Proved.room_to_wait_law
