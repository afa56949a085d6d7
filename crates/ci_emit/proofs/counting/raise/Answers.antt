use Rattle.std.proofs.Common.{◌++◌, [], ◌∷◌, length, refl, ap, arith}
use Rattle.ci_base.specs.declared.relation.Relation.TheVariants as relation
use Rattle.ci_base.specs.declared.value.Kind.TheVariants.{Int}
use Rattle.ci_code.specs.declared.instruction.Instruction.TheVariants as does
use Rattle.ci_translation.specs.Drafts.{step}
use Rattle.ci_translation.specs.Instructions.{largest, past, reading}
use Rattle.ci_tree.specs.SeenBound.{scalar_of}
use Rattle.ci_emit.specs.Pads.{word}
use Rattle.ci_emit.proofs.Writings.{one_then, here}
use Rattle.ci_emit.proofs.counting.raise.Goals as goal

pub returns : goal.returns
returns c z e =
    one_then (c.in_ok-put_over.ensures (reading (scalar_of c.args.counter)) c.reading.ensures)
    (one_then (c.in_ok-put_over-2.ensures does.Dup refl)
    (one_then (c.in_ok-put_over-3.ensures largest refl)
    (one_then (c.in_ok-put_over-4.ensures (does.CmpInt relation.Unequal) refl)
    (one_then (here (λ b p. step (b ++ Int ∷ Int ∷ Int ∷ []) (does.JumpIfZero (past 5 p)) ∷ [])
    (let p = length c.put_over-4.new.self.pad.steps in c.in_ok-jump_if_zero.ensures (past 5 p) (ap word (omega arith))))
    (c.in_ok-go_on.ensures z e)))))
