use Rattle.std.proofs.Common.{refl}
use Rattle.ci_code.specs.declared.instruction.Instruction.TheVariants as does
use Rattle.ci_translation.specs.Instructions.{writing}
use Rattle.ci_tree.specs.SeenBound.{scalar_of}
use Rattle.ci_emit.proofs.Writings.{one_then}
use Rattle.ci_emit.proofs.expressions.set_targets.Goals as goal

pub returns : goal.returns
returns c =
    one_then (c.in_ok-put_over.ensures does.TakeSort refl)
    (one_then (c.in_ok-put_over-2.ensures (writing (scalar_of c.args.targets.sort)) c.writing.ensures)
    (one_then (c.in_ok-put_over-3.ensures does.TakeText refl) (c.in_ok-put_over-4.ensures (writing (scalar_of c.args.targets.text)) c.writing-2.ensures)))
