use Rattle.ci_shared.proofs.Numbering
use Rattle.ci_shared.proofs.laws.ask_numbers.Goals as goal

pub returns : goal.returns
returns c = Numbering.ask_numbers
