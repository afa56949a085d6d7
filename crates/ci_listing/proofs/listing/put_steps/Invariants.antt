use Rattle.std.proofs.Common.{take, Ok}
use Rattle.ci_outside.specs.Sink.{Puts}
use Rattle.ci_outside.specs.declared.sink.Failed.{Failed}
use Rattle.ci_listing.specs.Listing.{numbered, step_line}
use Rattle.ci_listing.proofs.listing.put_steps.Given as goal

abbrev pub invariant-loop-place : goal.invariant-loop-place
invariant-loop-place g l =
    Puts {T = Unit {0}} {E = Failed} g.K.Sink.bytes g.K.Sink.faults l.initial.out l.out (Ok tt) (numbered (step_line l.texts) 0 (take l.place l.steps))
