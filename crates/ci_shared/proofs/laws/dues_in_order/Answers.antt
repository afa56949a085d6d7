use Rattle.ci_shared.proofs.Dues
use Rattle.ci_shared.proofs.laws.dues_in_order.Goals as goal

pub returns : goal.returns
returns c = Dues.dues_in_order
