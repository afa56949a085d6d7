use Rattle.std.proofs.Common.{subst}
use Rattle.ci_tree.specs.declared.bound.ProjectParts.{ProjectParts}
use Rattle.ci_tree.specs.SeenBound.{project_of}
use Rattle.ci_meaning.specs.Within.{ProjectWithin}
use Rattle.ci_meaning.proofs.ProjectWithin.{project_within}
use Rattle.ci_meaning.proofs.limits.texts_and_cells_fit.Goals as goal

pub returns : goal.returns
returns c = subst (λ (x : ProjectParts). ProjectWithin (project_of x)) c.parts.ensures.value (project_within (project_of c.parts.result.now) c.parts.ensures.kept)
