use Rattle.std.proofs.Common.{◌≡◌, ◌++◌, [], ◌∷◌, refl, ap, ◌∙◌, subst}
use Rattle.ci_base.specs.declared.value.Kind.{Kind}
use Rattle.ci_code.specs.declared.instruction.Instruction.TheVariants as does
use Rattle.ci_emit.specs.Contexts.{context, heads}
use Rattle.ci_translation.specs.Drafts.{step}
use Rattle.ci_translation.specs.Instructions.{left_kind}
use Rattle.ci_tree.specs.SeenBound.{expr_of}
use Rattle.ci_tree.specs.declared.bound.Function.{Function}
use Rattle.ci_tree.specs.declared.bound.ProjectParts.{ProjectParts}
use Rattle.ci_emit.specs.Writing.{Writes}
use Rattle.ci_emit.proofs.Writings.{one_then, plain_then}
use Rattle.ci_emit.proofs.simple.give_back.Goals as goal

gives_here : (parts : ProjectParts) (f : Function) → f.gives ≡ (context parts f).gives
unfolding context
gives_here parts f = refl

pub returns : goal.returns
returns c at =
    let k = context c.args.parts.now c.args.function.now in
    let kind = λ (j : Kind). Writes c.expression.new.writer c.put_over.new.self (λ b p. step (b ++ j ∷ []) does.Return ∷ []) in
    one_then (c.in_ok-put.ensures does.Tick refl)
    (plain_then k (expr_of (heads c.args.parts.now) c.args.value.now) c.in_ok-expression.ensures.code
    (subst kind (c.kind_or_int.ensures ∙ ap left_kind (gives_here c.args.parts.now c.args.function.now)) (c.in_ok-put_over.ensures does.Return refl)))
