use Rattle.std.proofs.Common.{◌++◌, [], ◌∷◌, refl, subst}
use Rattle.ci_base.specs.declared.value.Kind.{Kind}
use Rattle.ci_code.specs.declared.instruction.Instruction.TheVariants as does
use Rattle.ci_emit.specs.Contexts.{context, heads}
use Rattle.ci_translation.specs.Drafts.{step}
use Rattle.ci_translation.specs.Instructions.{writing}
use Rattle.ci_tree.specs.SeenBound.{scalar_of, expr_of}
use Rattle.ci_emit.specs.Writing.{Writes}
use Rattle.ci_emit.proofs.Writings.{one_then, plain_then}
use Rattle.ci_emit.proofs.simple.assign.Goals as goal

pub returns : goal.returns
returns c at =
    let k = context c.args.parts.now c.args.function.now in
    let kind = λ (j : Kind). Writes c.expression.new.writer c.put_over.new.self (λ b p. step (b ++ j ∷ []) (writing (scalar_of c.args.to)) ∷ []) in
    one_then (c.in_ok-put.ensures does.Tick refl)
    (plain_then k (expr_of (heads c.args.parts.now) c.args.value.now) c.in_ok-kind.ensures.code (subst kind c.in_ok-kind.ensures.kind (c.in_ok-put_over.ensures (writing (scalar_of c.args.to)) c.writing.ensures)))
