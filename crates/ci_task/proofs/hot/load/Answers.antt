use Rattle.std.proofs.Common.{◌+◌}
use Rattle.std.proofs.lemmas.Option.{slice_get_within}
use Rattle.ci_code.specs.declared.instruction.Instruction.TheVariants as does
use Rattle.ci_task.proofs.Acts.{can_push, does_push, load_there}
use Rattle.ci_task.proofs.hot.load.Goals as goal

pub push_copy-requires-clause-there : goal.push_copy-requires-clause-there
push_copy-requires-clause-there c =
    let found = load_there c.args.code.now c.args.local c.args.at c.args.stack.now c.requires.0 c.requires.1 c.requires.3 in
    slice_get_within c.args.stack.now (c.args.at.base + c.args.local) found.0 found.1

pub push_copy-requires-clause-room : goal.push_copy-requires-clause-room
push_copy-requires-clause-room c =
    let found = load_there c.args.code.now c.args.local c.args.at c.args.stack.now c.requires.0 c.requires.1 c.requires.3 in
    can_push c.args.code.now (does.Load c.args.local) c.args.at c.args.stack.now c.requires.0 c.requires.1 found.0 found.2 c.requires.2 c.requires.3

pub returns : goal.returns
returns c = λ callers heard s room.
    let found = load_there c.args.code.now c.args.local c.args.at c.args.stack.now callers heard room in
    does_push c.args.code.now (does.Load c.args.local) c.args.at c.args.stack.now c.push_copy.new.self callers heard found.0 found.2 s (c.push_copy.ensures found.0 found.1)
