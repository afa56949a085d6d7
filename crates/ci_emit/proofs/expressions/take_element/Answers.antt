use Rattle.std.proofs.Common.{◌+◌, ◌++◌, [], ◌∷◌, refl, ap, length, arith}
use Rattle.ci_base.specs.declared.function.SharedName.TheVariants as shared
use Rattle.ci_base.specs.declared.value.Kind.TheVariants.{Int}
use Rattle.ci_code.specs.declared.instruction.Instruction.TheVariants as does
use Rattle.ci_translation.specs.Drafts.{step}
use Rattle.ci_emit.specs.Pads.{word}
use Rattle.ci_emit.proofs.Writings.{one_then, here}
use Rattle.ci_emit.proofs.expressions.take_element.Goals as goal

pub returns : goal.returns
returns c =
    one_then (c.in_ok-put_over.ensures (does.Ask shared.QueRead) refl)
    (one_then (c.in_ok-put_over-2.ensures does.Dup refl)
    (one_then (here (λ b p. step (b ++ Int ∷ Int ∷ []) (does.JumpIfZero (p + 1 + 1)) ∷ []) (c.in_ok-jump_if_zero.ensures (length c.put_over-2.new.self.pad.steps + 1 + 1) (ap word (omega arith))))
    (one_then (here (λ b p. step (b ++ Int ∷ []) (does.Jump (p + 1 + 1 + 1 + 1 + 1)) ∷ []) (c.in_ok-jump.ensures (length c.jump_if_zero.new.self.pad.steps + 1 + 1 + 1 + 1 + 1) (ap word (omega arith)))) c.in_ok-set_targets.ensures)))
