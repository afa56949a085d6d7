use Rattle.ci_assembly.proofs.Rising.{one_higher}
use Rattle.ci_assembly.proofs.cells.do_rise.Goals as goal

pub loop-place-preserved : goal.loop-place-preserved
loop-place-preserved c =
    one_higher c.args.globals.now c.loop-place.place c.index-globals-place.result c.index-globals-place-in-loop-place.result c.loop-place.auto.place c.loop-place-test.true c.if-globals-place.false c.loop-place.invariant
