use Rattle.std.proofs.Common.{refl, subst}
use Rattle.ci_code.specs.declared.raw.RawParts.{RawParts}
use Rattle.ci_verify.specs.Rules.{NoneBroken}
use Rattle.ci_verify.proofs.verifier.verify.Goals as goal

pub invariant_of-result : goal.invariant_of-result
invariant_of-result c = subst (λ (code : RawParts). NoneBroken code) c.parts.ensures.value c.in-None.ensures

pub returns-in-None : goal.returns-in-None
returns-in-None c = (refl, subst (λ (code : RawParts). NoneBroken code) c.parts.ensures.value c.in-None.ensures)
