use Rattle.std.proofs.Common.{◌≡◌, ◌≢◌, rules, w32, SFits, to_z, of_z}
use Rattle.std.proofs.lemmas.Int.{to_z-of_z}
use Rattle.ci_sems.proofs.Finding.{name_here, name_nowhere, name_passed, some_number}
use Rattle.ci_sems.proofs.find.by_name.Goals as goal

pub returns-then-eq : goal.returns-then-eq
returns-then-eq c =
    let same : c.index-kept-i.result.name ≡ c.args.text.now = search rules in
    let fits : SFits w32 c.number_of.result = search rules in
    some_number c.args.text.now c.args.kept.now (to_z w32 (of_z w32 c.number_of.result)) c.number_of.result c.index-kept-i.result (to_z-of_z w32 c.number_of.result fits) c.number_of.ensures
    (name_here c.args.text.now c.args.kept.now c.loop-i.i c.index-kept-i.result c.loop-i-test.true c.index-kept-i.is c.loop-i.invariant same)

pub loop-i-preserved : goal.loop-i-preserved
loop-i-preserved c =
    let other : c.index-kept-i.result.name ≢ c.args.text.now = search rules in
    name_passed c.args.text.now c.args.kept.now c.loop-i.i c.index-kept-i.result c.loop-i-test.true c.index-kept-i.is c.loop-i.invariant other

pub returns : goal.returns
returns c = name_nowhere c.args.text.now c.args.kept.now c.loop-i.i c.loop-i-test.false c.loop-i.invariant
