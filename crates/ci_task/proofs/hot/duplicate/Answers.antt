use Rattle.std.proofs.Common.{◌-◌, [], arith}
use Rattle.ci_code.specs.declared.instruction.Instruction.TheVariants as does
use Rattle.ci_stack.proofs.Topping.{at, length_last}
use Rattle.ci_task.proofs.Acts.{can_push, does_push, dup_there}
use Rattle.ci_task.proofs.hot.duplicate.Goals as goal

pub overflow_sub-last : goal.overflow_sub-last
overflow_sub-last c =
    let found = dup_there c.args.code.now c.args.at c.args.stack.now c.requires.0 c.requires.1 c.requires.3 in
    omega (arith, c.count-last.ensures.value, length_last c.args.stack.now found.1 found.0 found.2)

pub push_copy-requires-clause-there : goal.push_copy-requires-clause-there
push_copy-requires-clause-there c =
    let found = dup_there c.args.code.now c.args.at c.args.stack.now c.requires.0 c.requires.1 c.requires.3 in
    omega (arith, c.count-last.ensures.value, length_last c.args.stack.now found.1 found.0 found.2)

pub push_copy-requires-clause-room : goal.push_copy-requires-clause-room
push_copy-requires-clause-room c =
    let found = dup_there c.args.code.now c.args.at c.args.stack.now c.requires.0 c.requires.1 c.requires.3 in
    can_push c.args.code.now does.Dup c.args.at c.args.stack.now c.requires.0 c.requires.1 found.0 found.3 c.requires.2 c.requires.3

pub returns : goal.returns
returns c = λ callers heard s room.
    let found = dup_there c.args.code.now c.args.at c.args.stack.now callers heard room in
    does_push c.args.code.now does.Dup c.args.at c.args.stack.now c.push_copy.new.self callers heard found.0 found.3 s
    (c.push_copy.ensures found.0 (at c.args.stack.now found.1 [] found.0 (c.count-last.result - 1) found.2 (omega (arith, c.count-last.ensures.value, length_last c.args.stack.now found.1 found.0 found.2))))
