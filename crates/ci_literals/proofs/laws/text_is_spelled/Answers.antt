use Rattle.ci_literals.proofs.Spelled.{text_law}
use Rattle.ci_literals.proofs.laws.text_is_spelled.Goals as goal

pub returns : goal.returns
returns c = text_law
