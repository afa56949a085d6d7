use Rattle.ci_emit.proofs.Places.{code_is_short}
use Rattle.ci_emit.proofs.laws.code_is_short.Goals as goal

pub returns : goal.returns
returns c = code_is_short
