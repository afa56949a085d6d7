use Rattle.std.proofs.Common.{◌≡◌, ℤ, ap, ◌∙◌, w32, to_z, of_z}
use Rattle.ci_stack.proofs.Placing.{trip}
use Rattle.ci_task.specs.Operators.{whole}
use Rattle.ci_task.proofs.Acts.{whole_can, whole_does}
use Rattle.ci_task.proofs.hot.two_ints.Goals as goal

pub last_number-high-requires : goal.last_number-high-requires
last_number-high-requires c = (whole_can c.args.code.now c.args.what c.args.at c.args.stack.now c.requires.whole c.requires.can).0

pub second_number-low-requires : goal.second_number-low-requires
second_number-low-requires c = (whole_can c.args.code.now c.args.what c.args.at c.args.stack.now c.requires.whole c.requires.can).1

pub replace_by_number-requires-clause-there : goal.replace_by_number-requires-clause-there
replace_by_number-requires-clause-there c = (whole_can c.args.code.now c.args.what c.args.at c.args.stack.now c.requires.whole c.requires.can).2

pub replace_by_number-requires-clause-room : goal.replace_by_number-requires-clause-room
replace_by_number-requires-clause-room c = (whole_can c.args.code.now c.args.what c.args.at c.args.stack.now c.requires.whole c.requires.can).3

pub returns : goal.returns
returns c =
    let r : ℤ = to_z w32 (of_z w32 c.whole-result.result) in
    let made : r ≡ whole c.args.what c.second_number-low.result c.last_number-high.result =
    trip c.whole-result.result c.whole-result.type_inv
    ∙ c.whole-result.ensures
    ∙ ap (λ (z : ℤ). whole c.args.what z (to_z w32 (of_z w32 c.last_number-high.result))) (trip c.second_number-low.result c.second_number-low.type_inv)
    ∙ ap (λ (z : ℤ). whole c.args.what c.second_number-low.result z) (trip c.last_number-high.result c.last_number-high.type_inv) in
    whole_does c.args.code.now c.args.what c.args.at c.args.stack.now c.replace_by_number.new.self c.second_number-low.result c.last_number-high.result r c.requires.whole c.last_number-high.ensures c.second_number-low.ensures made c.replace_by_number.ensures
