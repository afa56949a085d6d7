use Rattle.std.proofs.Common.{[], ◌∷◌, refl}
use Rattle.ci_code.specs.declared.instruction.Instruction.TheVariants as does
use Rattle.ci_emit.specs.Contexts.{context, heads}
use Rattle.ci_translation.specs.Instructions.{comparing}
use Rattle.ci_tree.specs.SeenBound.{expr_of}
use Rattle.ci_emit.proofs.Writings.{one_then, expr_then}
use Rattle.ci_emit.proofs.labels.match_label.Goals as goal

pub returns : goal.returns
returns c z e =
    let k = c.args.subject in
    one_then (c.in_ok-put_over.ensures does.Dup refl)
    (expr_then (context c.args.parts.now c.args.function.now) (k ∷ k ∷ []) (expr_of (heads c.args.parts.now) c.args.value.now) c.in_ok-expression_over.ensures.code
    (one_then (c.in_ok-put_over-2.ensures (comparing c.args.relation k) c.comparing.ensures) (c.in_ok-pick.ensures z e)))
