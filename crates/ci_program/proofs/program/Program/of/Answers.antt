use Rattle.std.proofs.Common.{◌≡◌, sym, ◌∙◌, subst}
use Rattle.ci_code.specs.declared.raw.RawParts.{RawParts}
use Rattle.ci_translation.specs.Simulates.{Simulates}
use Rattle.ci_translation.specs.Translation.{translation}
use Rattle.ci_tree.specs.declared.bound.ProjectParts.{ProjectParts}
use Rattle.ci_tree.specs.Bound.{Project}
use Rattle.ci_tree.specs.Projects.{IsProject}
use Rattle.ci_tree.specs.SeenBound.{project_of}
use Rattle.ci_verify.specs.Rules.{NoneBroken}
use Rattle.ci_program.proofs.program.Program.of.Goals as goal

none_broken : (p : Project) (code : RawParts) → code ≡ translation p → NoneBroken (translation p) → NoneBroken code
none_broken p code e h = subst NoneBroken (sym e) h

pub of-code-requires : goal.of-code-requires
of-code-requires c =
    let p : Project = project_of c.args.project in
    let kept : IsProject p = subst (λ (x : ProjectParts). IsProject (project_of x)) c.parts-parts.ensures.value c.parts-parts.ensures.kept in
    none_broken p c.args.code c.requires (c.translation_keeps_rules.ensures p kept)

pub invariant_of-result : goal.invariant_of-result
invariant_of-result c =
    let p : Project = project_of c.args.project in
    let kept : IsProject p = subst (λ (x : ProjectParts). IsProject (project_of x)) c.parts-parts.ensures.value c.parts-parts.ensures.kept in
    let same : c.of-code.result ≡ translation p = c.of-code.ensures ∙ c.requires in
    record {
      translated = same;
      verified = none_broken p c.of-code.result same (c.translation_keeps_rules.ensures p kept);
      simulates = subst (λ (x : RawParts). Simulates x p) (sym same) (c.translation_simulates.ensures p kept.sound);
    }
