use Rattle.std.proofs.Common.{take, Ok}
use Rattle.std.specs.List.{flat_map}
use Rattle.ci_outside.specs.Sink.{Puts}
use Rattle.ci_outside.specs.declared.sink.Failed.{Failed}
use Rattle.ci_history.specs.Report.{entry_line}
use Rattle.ci_history.proofs.report.put_traces.Given as goal

abbrev pub invariant-loop-entry : goal.invariant-loop-entry
invariant-loop-entry g l =
    Puts {T = Unit {0}} {E = Failed} g.K.Sink.bytes g.K.Sink.faults l.initial.out l.out (Ok tt) (flat_map entry_line (take l.entry-index l.entries))
