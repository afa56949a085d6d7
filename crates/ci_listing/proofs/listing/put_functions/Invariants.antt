use Rattle.std.proofs.Common.{take, Ok}
use Rattle.ci_outside.specs.Sink.{Puts}
use Rattle.ci_outside.specs.declared.sink.Failed.{Failed}
use Rattle.ci_listing.specs.Listing.{numbered, function_text}
use Rattle.ci_listing.proofs.listing.put_functions.Given as goal

abbrev pub invariant-loop-number : goal.invariant-loop-number
invariant-loop-number g l =
    Puts {T = Unit {0}} {E = Failed} g.K.Sink.bytes g.K.Sink.faults l.initial.out l.out (Ok tt) (numbered (function_text l.code) 0 (take l.number l.functions))
