use Rattle.std.proofs.Common.{◌≡◌, ◌≤◌, ◌<◌, List, length, rules, Some, refl, subst}
use Rattle.std.proofs.lemmas.Option.{slice_get_read}
use Rattle.ci_base.specs.declared.layout.Head.{Head}
use Rattle.ci_code.specs.declared.raw.RawFunction.{RawFunction}
use Rattle.std.specs.List.{slice_get}
use Rattle.ci_verify.specs.Rules.{AreTablesKept}
use Rattle.ci_verify.proofs.Loops.{function_more, none_broken}
use Rattle.ci_verify.proofs.verifier.first_broken.Goals as goal

pub loop-number-preserved : goal.loop-number-preserved
loop-number-preserved c =
    let tables : AreTablesKept c.args.code.now = c.are_tables_kept.ensures.0 c.if-not-are_tables_kept.false in
    let inside : c.loop-number.number < length c.members-functions.result.now = search rules in
    let within : c.loop-number.number < length c.members-heads.result.now = search rules in
    let head : slice_get c.args.code.now.layout.functions c.loop-number.number ≡ Some c.index-heads-number.result = subst (λ (heads : List Head). slice_get heads c.loop-number.number ≡ Some c.index-heads-number.result) c.members-heads.ensures (slice_get_read c.members-heads.result.now (length c.members-heads.result.now) c.loop-number.number c.index-heads-number.result refl within c.index-heads-number.is) in
    let function : slice_get c.args.code.now.functions c.loop-number.number ≡ Some c.index-functions-number.result = subst (λ (functions : List RawFunction). slice_get functions c.loop-number.number ≡ Some c.index-functions-number.result) c.members-functions.ensures (slice_get_read c.members-functions.result.now (length c.members-functions.result.now) c.loop-number.number c.index-functions-number.result refl inside c.index-functions-number.is) in
    function_more c.args.code.now c.loop-number.number c.index-heads-number.result c.index-functions-number.result tables head function c.loop-number.invariant c.in-None.ensures

pub returns : goal.returns
returns c =
    let tables : AreTablesKept c.args.code.now = c.are_tables_kept.ensures.0 c.if-not-are_tables_kept.false in
    let all : length c.args.code.now.functions ≤ c.loop-number.number = search rules in
    none_broken c.args.code.now c.loop-number.number all tables c.loop-number.invariant
