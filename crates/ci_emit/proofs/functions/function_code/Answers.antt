use Rattle.std.proofs.Common.{◌++◌, [], ◌∷◌, refl, subst}
use Rattle.ci_base.specs.declared.value.Kind.{Kind}
use Rattle.ci_code.specs.declared.instruction.Instruction.TheVariants as does
use Rattle.ci_translation.specs.Drafts.{step, first_step, block_code}
use Rattle.ci_tree.specs.SeenBound.{block_of}
use Rattle.ci_emit.specs.Contexts.{context, heads}
use Rattle.ci_emit.specs.Writing.{Writes}
use Rattle.ci_emit.proofs.Steps.{block_then}
use Rattle.ci_emit.proofs.Writings.{one_then}
use Rattle.ci_emit.proofs.functions.function_code.Goals as goal

pub returns : goal.returns
returns c =
    let k = context c.args.parts.now c.args.function.now in
    let kind = c.kind_or_int-kind.ensures in
    one_then (c.in_ok-put.ensures does.Tick refl)
    (block_then k (block_of (heads c.args.parts.now) c.args.function.now.body)
    (subst (λ body. Writes c.put.new.self c.block.new.writer (λ b p. block_code k b p (block_of (heads c.args.parts.now) body))) c.as_slice.ensures c.in_ok-block.ensures)
    (one_then (subst (λ (j : Kind). Writes c.block.new.writer c.first_value.new.writer (λ b p. first_step b j ∷ [])) kind c.in_ok-first_value.ensures)
    (subst (λ (j : Kind). Writes c.first_value.new.writer c.put_over.new.self (λ b p. step (b ++ j ∷ []) does.Return ∷ [])) kind (c.in_ok-put_over.ensures does.Return refl))))
