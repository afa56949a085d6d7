use Rattle.std.proofs.Common.{Ok}
use Rattle.ci_outside.proofs.Putting.{Puts-then, Puts-fails}
use Rattle.ci_listing.specs.Listing.{function_text}
use Rattle.ci_listing.proofs.Numbered.{around, next}
use Rattle.ci_listing.proofs.listing.put_functions.Goals as goal

pub returns-in-Err : goal.returns-in-Err
returns-in-Err g c =
    Puts-fails g.K.Sink.bytes g.K.Sink.faults _ _ _ _ _ _ _ _ _ _
    (around (function_text c.args.code.now) c.args.functions.now c.loop-number.number c.index-functions-number.result c.index-functions-number.is c.loop-number-test.true)
    c.loop-number.invariant c.in-Err.ensures

pub loop-number-preserved : goal.loop-number-preserved
loop-number-preserved g c =
    rw (next (function_text c.args.code.now) c.args.functions.now c.loop-number.number c.index-functions-number.result c.index-functions-number.is c.loop-number-test.true)
    (Puts-then g.K.Sink.bytes g.K.Sink.faults _ _ _ _ (Ok tt) _ _ c.loop-number.invariant c.in-Ok.ensures)
