use Rattle.std.proofs.Common.{refl, ap}
use Rattle.std.specs.Prelude.{pos}
use Rattle.ci_code.specs.declared.instruction.Instruction.TheVariants as does
use Rattle.ci_translation.specs.Instructions.{writing}
use Rattle.ci_tree.specs.SeenBound.{scalar_of}
use Rattle.ci_emit.proofs.Writings.{one_then}
use Rattle.ci_emit.proofs.counting.go_on.Goals as goal

pub returns : goal.returns
returns c z e =
    one_then (c.in_ok-put_over.ensures (does.PushInt (pos 1)) refl)
    (one_then (c.in_ok-put_over-2.ensures does.Add refl)
    (one_then (c.in_ok-put_over-3.ensures (writing (scalar_of c.args.counter)) c.writing.ensures)
    (one_then (c.in_ok-put_over-4.ensures (does.Jump z) (ap does.Jump e))
    (one_then (c.in_ok-put_over-5.ensures does.Drop refl) (c.in_ok-put_over-6.ensures does.Drop refl)))))
