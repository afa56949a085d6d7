use Rattle.std.proofs.Common.{◌++◌, [], ◌∷◌, refl, subst}
use Rattle.ci_base.specs.declared.value.Kind.{Kind}
use Rattle.ci_code.specs.declared.instruction.Instruction.TheVariants as does
use Rattle.ci_emit.specs.Contexts.{context, heads}
use Rattle.ci_translation.specs.Drafts.{step}
use Rattle.ci_tree.specs.SeenBound.{call_of}
use Rattle.ci_emit.specs.Writing.{Writes}
use Rattle.ci_emit.proofs.Steps.{call_then}
use Rattle.ci_emit.proofs.Writings.{one_then}
use Rattle.ci_emit.proofs.simple.call_alone.Goals as goal

pub returns : goal.returns
returns c at =
    let k = context c.args.parts.now c.args.function.now in
    let kind = λ (j : Kind). Writes c.call.new.writer c.put_over.new.self (λ b p. step (b ++ j ∷ []) does.Drop ∷ []) in
    one_then (c.in_ok-put.ensures does.Tick refl)
    (call_then k (call_of (heads c.args.parts.now) c.args.what.now) c.in_ok-kind.ensures.code (subst kind c.in_ok-kind.ensures.kind (c.in_ok-put_over.ensures does.Drop refl)))
