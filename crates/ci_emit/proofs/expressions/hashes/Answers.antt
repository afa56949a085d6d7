use Rattle.std.proofs.Common.{refl}
use Rattle.ci_code.specs.declared.instruction.Instruction.TheVariants as does
use Rattle.ci_emit.proofs.expressions.hashes.Goals as goal

pub returns-clause-code : goal.returns-clause-code
returns-clause-code c k left = c.in_ok-put_over.ensures (does.Form c.args.count) refl
