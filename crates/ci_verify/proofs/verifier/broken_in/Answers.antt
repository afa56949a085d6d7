use Rattle.std.proofs.Common.{◌≤◌, ◌<◌, length, rules}
use Rattle.ci_verify.proofs.Loops.{one_more, none_in}
use Rattle.ci_verify.proofs.verifier.broken_in.Goals as goal

pub loop-place-preserved : goal.loop-place-preserved
loop-place-preserved c = one_more c.args.code.now c.args.head.now c.args.function.now c.loop-place.place c.loop-place.invariant c.in-None.ensures

pub returns : goal.returns
returns c =
    let all : length c.args.function.now.steps ≤ c.loop-place.place = search rules in
    let some : 0 < length c.args.function.now.steps = search rules in
    none_in c.args.code.now c.args.head.now c.args.function.now c.loop-place.place all some c.loop-place.invariant
