use Rattle.ci_translation.specs.Instructions.{reading}
use Rattle.ci_tree.specs.SeenBound.{scalar_of}
use Rattle.ci_emit.proofs.expressions.scalar.Goals as goal

pub returns-clause-code : goal.returns-clause-code
returns-clause-code c = c.in_ok-put.ensures (reading (scalar_of c.args.of)) c.reading.ensures
