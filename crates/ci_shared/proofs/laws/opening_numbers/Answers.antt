use Rattle.ci_shared.proofs.Numbering
use Rattle.ci_shared.proofs.laws.opening_numbers.Goals as goal

pub returns : goal.returns
returns c = Numbering.opening_numbers
