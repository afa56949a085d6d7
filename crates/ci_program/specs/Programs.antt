-- What a program keeps.
use Rattle.std.specs.Prelude.{◌≡◌}
use Rattle.ci_code.specs.declared.raw.RawParts.{RawParts}
use Rattle.ci_translation.specs.Simulates.{Simulates}
use Rattle.ci_translation.specs.Translation.{translation}
use Rattle.ci_tree.specs.Bound.{Project}
use Rattle.ci_verify.specs.Rules.{NoneBroken}

-- the code is the project's translation; it breaks no rule, and does what the project says
pub record IsProgram (p : Project) (code : RawParts) : Type 0 where
  pub translated : code ≡ translation p
  pub verified : NoneBroken code
  pub simulates : Simulates code p
