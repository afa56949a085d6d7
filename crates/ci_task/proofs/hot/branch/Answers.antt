use Rattle.std.proofs.Common.{◌+◌, true, false, refl, arith}
use Rattle.ci_base.specs.declared.value.Value.TheVariants.{Int}
use Rattle.ci_stack.proofs.Topping.{length_last}
use Rattle.ci_task.proofs.Acts.{branch_can, branch_does, zero_of, no_zero_of}
use Rattle.ci_task.proofs.hot.branch.Goals as goal

pub last_number-n-requires : goal.last_number-n-requires
last_number-n-requires c = branch_can c.args.code.now c.args.to c.args.at c.args.stack.now c.requires

pub take_off-requires : goal.take_off-requires
take_off-requires c =
    let found = branch_can c.args.code.now c.args.to c.args.at c.args.stack.now c.requires in
    omega (arith, length_last c.args.stack.now found.0 (Int found.1) found.2)

pub returns-then-n-eq0-clause-does : goal.returns-then-n-eq0-clause-does
returns-then-n-eq0-clause-does c = branch_does c.args.code.now c.args.to c.args.to c.args.at c.args.stack.now c.take_off.new.self c.last_number-n.result true c.last_number-n.ensures c.take_off.ensures (zero_of c.last_number-n.result c.last_number-n.type_inv c.if-n-eq0.true) refl

pub returns-clause-does : goal.returns-clause-does
returns-clause-does c = branch_does c.args.code.now c.args.to (c.args.at.place + 1) c.args.at c.args.stack.now c.take_off.new.self c.last_number-n.result false c.last_number-n.ensures c.take_off.ensures (no_zero_of c.last_number-n.result c.if-n-eq0.false) refl
