-- The code of a project breaks no rule of the verifier.
use Rattle.std.specs.Prelude.{◌<◌, ◌^◌, length}
use Rattle.ci_code.specs.Code.{IsCode}
use Rattle.ci_code.specs.declared.raw.RawParts.{RawParts}
use Rattle.ci_translation.specs.Stands.{IsCodeOf}
use Rattle.ci_translation.specs.Translation.{drafts, translation}
use Rattle.ci_tree.specs.Bound.{Project}
use Rattle.ci_tree.specs.Projects.{IsProject}
use Rattle.ci_verify.specs.Rules.{NoneBroken}

-- code that is that of a bound project, place by place
abbrev pub CodeKeepsRules : Type 0
CodeKeepsRules = (p : Project) (code : RawParts) → IsProject p → IsCodeOf p code → NoneBroken code

-- and so its translation
abbrev pub TranslationKeepsRules : Type 0
TranslationKeepsRules = (p : Project) → IsProject p → NoneBroken (translation p)

-- The translation's lists fit one another, where it is so short that numbers of 32 bits count its places.
abbrev pub TranslationFits : Type 0
TranslationFits = (p : Project) → IsProject p → length (drafts p) < 2 ^ 32 → IsCode (translation p)
