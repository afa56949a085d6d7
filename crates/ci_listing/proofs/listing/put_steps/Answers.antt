use Rattle.std.proofs.Common.{Ok}
use Rattle.ci_code.specs.declared.instruction.Instruction.TheVariants.{Tick}
use Rattle.ci_code.specs.declared.instruction.Step.{Step}
use Rattle.ci_outside.proofs.Putting.{Puts-then, Puts-fails}
use Rattle.ci_listing.specs.Listing.{step_line}
use Rattle.ci_listing.proofs.Numbered.{numbered-around, numbered-next}
use Rattle.ci_listing.proofs.listing.put_steps.Goals as goal

abbrev none : Step
none = record { shape = 0; what = Tick }

pub returns-in-Err : goal.returns-in-Err
returns-in-Err g c =
    Puts-fails g.K.Sink.bytes g.K.Sink.faults _ _ _ _ _ _ _ _ _ _ (numbered-around (step_line c.args.texts.now) c.args.steps.now c.loop-place.place none c.loop-place-test.true)
    c.loop-place.invariant c.in-Err.ensures

pub loop-place-preserved : goal.loop-place-preserved
loop-place-preserved g c =
    rw (numbered-next (step_line c.args.texts.now) c.args.steps.now c.loop-place.place none c.loop-place-test.true)
    (Puts-then g.K.Sink.bytes g.K.Sink.faults _ _ _ _ (Ok tt) _ _ c.loop-place.invariant c.in-Ok.ensures)
