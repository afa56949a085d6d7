use Rattle.std.proofs.Common.{map, sym, ap, ◌∙◌, subst}
use Rattle.ci_code.specs.Code.{IsCode}
use Rattle.ci_translation.specs.Stands.{cells_of}
use Rattle.ci_tree.specs.declared.bound.ProjectParts.{ProjectParts}
use Rattle.ci_tree.specs.Projects.{IsProject}
use Rattle.ci_tree.specs.SeenBound.{array_of, project_of}
use Rattle.ci_emit.proofs.Emitted.{firsts_within, lengths_within, lists_few}
use Rattle.ci_emit.proofs.whole.emit.Goals as goal

pub arrays-requires-clause-firsts : goal.arrays-requires-clause-firsts
arrays-requires-clause-firsts c = firsts_within c.parts-parts.result.now c.parts-parts.ensures.kept c.as_slice.result.now c.as_slice.ensures

pub arrays-requires-clause-lengths : goal.arrays-requires-clause-lengths
arrays-requires-clause-lengths c = lengths_within c.parts-parts.result.now c.parts-parts.ensures.kept c.as_slice.result.now c.as_slice.ensures

pub text_list-requires : goal.text_list-requires
text_list-requires c =
    let is : IsProject (project_of c.args.project.now) = subst (λ (x : ProjectParts). IsProject (project_of x)) c.parts-parts.ensures.value c.parts-parts.ensures.kept in
    lists_few (project_of c.args.project.now) is (λ text. text.items) c.texts.result.now (c.texts.ensures ∙ c.in_ok-functions.ensures.texts)

pub of-requires : goal.of-requires
of-requires c =
    let p = project_of c.args.project.now in
    let is : IsProject p = subst (λ (x : ProjectParts). IsProject (project_of x)) c.parts-parts.ensures.value c.parts-parts.ensures.kept in
    let arrays = c.in_ok-arrays.ensures ∙ ap (λ xs. map cells_of (map array_of xs)) (c.as_slice.ensures ∙ ap (λ (x : ProjectParts). x.arrays) c.parts-parts.ensures.value) in
    let texts = c.in_ok-texts.ensures ∙ c.texts.ensures ∙ c.in_ok-functions.ensures.texts in
    let shapes = c.in_ok-shapes.ensures ∙ c.shapes.ensures ∙ c.in_ok-functions.ensures.shapes in
    let layout = c.in_ok-layout.ensures in
    let functions = c.in_ok-functions.ensures.functions in
    subst IsCode (sym (λ i. record { layout = layout i; texts = texts i; arrays = arrays i; shapes = shapes i; functions = functions i })) (c.translation_fits.ensures p is (c.code_is_short.ensures c.args.project.now is))

pub returns : goal.returns
returns c =
    let arrays = c.in_ok-arrays.ensures ∙ ap (λ xs. map cells_of (map array_of xs)) (c.as_slice.ensures ∙ ap (λ (x : ProjectParts). x.arrays) c.parts-parts.ensures.value) in
    let texts = c.in_ok-texts.ensures ∙ c.texts.ensures ∙ c.in_ok-functions.ensures.texts in
    let shapes = c.in_ok-shapes.ensures ∙ c.shapes.ensures ∙ c.in_ok-functions.ensures.shapes in
    let layout = c.in_ok-layout.ensures in
    let functions = c.in_ok-functions.ensures.functions in
    c.of.ensures ∙ (λ i. record { layout = layout i; texts = texts i; arrays = arrays i; shapes = shapes i; functions = functions i })
