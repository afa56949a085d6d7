use Rattle.std.proofs.Common.{List, ◌++◌, [], ◌∷◌, length, sym, ap, append_assoc, arith}
use Rattle.ci_base.specs.declared.value.Kind.{Kind}
use Rattle.ci_base.specs.declared.value.Kind.TheVariants.{Int}
use Rattle.ci_code.specs.declared.instruction.Instruction.TheVariants as does
use Rattle.ci_translation.specs.Drafts.{step, pick_code}
use Rattle.ci_translation.specs.Instructions.{past}
use Rattle.ci_emit.specs.Pads.{word}
use Rattle.ci_emit.proofs.Writings.{one_then, here, same_code}
use Rattle.ci_emit.proofs.labels.pick.Goals as goal

pub returns : goal.returns
returns c z e =
    let k = c.args.subject in
    let w = c.args.writer.now in
    let p = length w.pad.steps in
    same_code (λ b p. step (b ++ k ∷ Int ∷ []) (does.JumpIfZero (past 2 p)) ∷ step (b ++ k ∷ []) (does.Jump z) ∷ []) (λ b p. pick_code (b ++ k ∷ []) z p)
    (ap (λ (l : List Kind). step l (does.JumpIfZero (past 2 p)) ∷ step (w.below ++ k ∷ []) (does.Jump z) ∷ []) (sym (append_assoc w.below (k ∷ []) (Int ∷ []))))
    (one_then (here (λ b p. step (b ++ k ∷ Int ∷ []) (does.JumpIfZero (past 2 p)) ∷ []) (c.in_ok-jump_if_zero.ensures (past 2 p) (ap word (omega arith)))) (c.in_ok-put_over.ensures (does.Jump z) (ap does.Jump e)))
