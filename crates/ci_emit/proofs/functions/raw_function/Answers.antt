use Rattle.std.proofs.Common.{◌++◌, ap, ◌∙◌}
use Rattle.ci_translation.specs.Drafts as drafts
use Rattle.ci_tree.specs.declared.bound.ProjectParts.{ProjectParts}
use Rattle.ci_tree.specs.SeenBound.{function_of, project_of}
use Rattle.ci_emit.specs.Contexts.{heads}
use Rattle.ci_emit.specs.Raw.{without_steps}
use Rattle.ci_emit.specs.Pads.{Pad, wrote}
use Rattle.ci_emit.proofs.Emitting.{kinds_seen}
use Rattle.ci_emit.proofs.InTurn.{whole_code}
use Rattle.ci_emit.proofs.functions.raw_function.Goals as goal

pub returns-clause-pad : goal.returns-clause-pad
returns-clause-pad c =
    let code = λ (parts : ProjectParts). wrote c.args.writer.now.pad (drafts.function_code (project_of parts) (function_of (heads parts) c.args.function.now)) in
    c.take_steps.ensures.pad
    ∙ ap without_steps (whole_code c.parts.result.now c.args.function.now c.args.writer.now c.function_code.new.writer c.requires.steps c.requires.below c.in_ok-function_code.ensures ∙ ap code c.parts.ensures.value)

pub returns-clause-below : goal.returns-clause-below
returns-clause-below c = c.take_steps.ensures.below ∙ c.in_ok-function_code.ensures.below ∙ c.requires.below

pub returns-clause-made : goal.returns-clause-made
returns-clause-made c =
    let code = λ (parts : ProjectParts). wrote c.args.writer.now.pad (drafts.function_code (project_of parts) (function_of (heads parts) c.args.function.now)) in
    let steps = c.take_steps.ensures.steps ∙ ap (λ (x : Pad). x.steps) (whole_code c.parts.result.now c.args.function.now c.args.writer.now c.function_code.new.writer c.requires.steps c.requires.below c.in_ok-function_code.ensures ∙ ap code c.parts.ensures.value) in
    let locals = c.in_ok-locals.ensures ∙ ap (λ ks. ks ++ c.args.function.now.others) (kinds_seen c.args.function.now.params) in
    (λ i. record { gives = c.args.function.now.gives; room = c.requires.room i; locals = locals i; steps = steps i })
