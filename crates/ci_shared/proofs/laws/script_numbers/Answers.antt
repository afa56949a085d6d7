use Rattle.ci_shared.proofs.Numbering
use Rattle.ci_shared.proofs.laws.script_numbers.Goals as goal

pub returns : goal.returns
returns c = Numbering.script_numbers
