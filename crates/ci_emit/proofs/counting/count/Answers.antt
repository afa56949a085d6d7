use Rattle.std.proofs.Common.{◌+◌, ◌++◌, [], ◌∷◌, length, refl, arith}
use Rattle.ci_base.specs.declared.relation.Relation.TheVariants as relation
use Rattle.ci_base.specs.declared.value.Kind.TheVariants.{Int}
use Rattle.ci_code.specs.declared.instruction.Instruction.TheVariants as does
use Rattle.ci_translation.specs.Drafts.{step}
use Rattle.ci_translation.specs.Instructions.{past, reading}
use Rattle.ci_tree.specs.SeenBound.{scalar_of}
use Rattle.ci_emit.proofs.Steps.{jump_word}
use Rattle.ci_emit.proofs.Writings.{one_then, here}
use Rattle.ci_emit.proofs.counting.count.Goals as goal

pub returns : goal.returns
returns c n e =
    one_then (c.in_ok-put_over.ensures does.Tick refl)
    (one_then (c.in_ok-put_over-2.ensures does.Dup refl)
    (one_then (c.in_ok-put_over-3.ensures (reading (scalar_of c.args.counter)) c.reading.ensures)
    (one_then (c.in_ok-put_over-4.ensures (does.CmpInt relation.AtLeast) refl)
    (here (λ b p. step (b ++ Int ∷ Int ∷ []) (does.JumpIfZero (past 10 (p + 1 + n))) ∷ [])
    (let p = length c.put_over-4.new.self.pad.steps in c.in_ok-jump_if_zero.ensures (past 10 (p + 1 + n)) (jump_word p 11 n c.args.body (past 10 (p + 1 + n)) e (omega arith)))))))
