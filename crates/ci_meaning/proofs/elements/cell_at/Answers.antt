use Rattle.std.proofs.Common.{◌≡◌, Some, sym, ap, ◌∙◌, subst}
use Rattle.std.specs.Prelude.{slice_get}
use Rattle.ci_tree.specs.declared.bound.ProjectParts.{ProjectParts}
use Rattle.ci_tree.specs.Projects.{IsProject}
use Rattle.ci_tree.specs.SeenBound.{project_of}
use Rattle.ci_meaning.proofs.ProjectWithin.{array_within}
use Rattle.ci_meaning.proofs.elements.cell_at.Goals as goal

pub cell_in-requires : goal.cell_in-requires
cell_in-requires c =
    let project = c.args.project.now in
    let found : slice_get project.arrays c.args.array ≡ Some c.in-Some.found.now = ap (λ (x : ProjectParts). slice_get x.arrays c.args.array) (sym c.parts.ensures.value) ∙ sym c.in-Some.ensures.value in
    let kept : IsProject (project_of project) = subst (λ (x : ProjectParts). IsProject (project_of x)) c.parts.ensures.value c.parts.ensures.kept in
    array_within project kept c.args.array c.in-Some.found.now found
