use Rattle.std.proofs.Common.{[], ◌∷◌, refl}
use Rattle.ci_code.specs.declared.instruction.Instruction.TheVariants as does
use Rattle.ci_emit.specs.Contexts.{context, heads}
use Rattle.ci_translation.specs.Instructions.{within}
use Rattle.ci_tree.specs.SeenBound.{expr_of}
use Rattle.ci_emit.proofs.Writings.{one_then, expr_then}
use Rattle.ci_emit.proofs.labels.range_label.Goals as goal

pub returns : goal.returns
returns c z e =
    let k = c.args.subject in
    let m = context c.args.parts.now c.args.function.now in
    let hs = heads c.args.parts.now in
    one_then (c.in_ok-put_over.ensures does.Dup refl)
    (expr_then m (k ∷ k ∷ []) (expr_of hs c.args.low.now) c.in_ok-expression_over.ensures.code
    (expr_then m (k ∷ k ∷ k ∷ []) (expr_of hs c.args.high.now) c.in_ok-expression_over-2.ensures.code
    (one_then (c.in_ok-put_over-2.ensures (within k) c.within.ensures) (c.in_ok-pick.ensures z e))))
