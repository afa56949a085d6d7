use Rattle.std.proofs.Common.{sym, subst}
use Rattle.ci_code.specs.declared.raw.RawParts.{RawParts}
use Rattle.ci_verify.specs.Rules.{NoneBroken}
use Rattle.ci_verify.proofs.verifier.Verified.parts.Goals as goal

pub returns-clause-sound : goal.returns-clause-sound
returns-clause-sound c = subst (λ (code : RawParts). NoneBroken code) (sym c.parts.ensures.value) c.self.invariant
