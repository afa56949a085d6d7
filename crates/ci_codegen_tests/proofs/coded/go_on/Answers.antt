use Rattle.std.proofs.Common.{subst}
use Rattle.ci_code.specs.declared.raw.RawParts.{RawParts}
use Rattle.ci_code.specs.Code.{IsCode}
use Rattle.ci_codegen_tests.proofs.Standing.{gone_on}
use Rattle.ci_verify.specs.Rules.{NoneBroken}
use Rattle.ci_codegen_tests.proofs.coded.go_on.Goals as goal

pub returns : goal.returns
returns c =
    let is = subst (λ (code : RawParts). IsCode code) c.parts-parts.ensures.value c.parts-parts.ensures.kept in
    let none = subst (λ (code : RawParts). NoneBroken code) c.parts-parts.ensures.value c.parts-parts.ensures.sound in
    gone_on c.args.code.now c.args.request.now c.args.answer.now c.args.machine.now _ is none c.requires.asks c.requires.fits c.resume.ensures
