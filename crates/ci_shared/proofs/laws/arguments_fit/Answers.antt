use Rattle.ci_shared.proofs.Fitted
use Rattle.ci_shared.proofs.laws.arguments_fit.Goals as goal

pub returns : goal.returns
returns c = Fitted.arguments_fit
