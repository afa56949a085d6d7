use Rattle.ci_history.specs.Report.{entry_line}
use Rattle.ci_history.proofs.Writing.{flat-around, stops}
use Rattle.ci_history.proofs.report.put_traces.Goals as goal

pub returns-in_err-put_entry : goal.returns-in_err-put_entry
returns-in_err-put_entry g c =
    stops g.K.Sink.bytes g.K.Sink.faults _ _ _ _ _ _ _ _ _ _ (flat-around entry_line _ _ _ c.entry-item.is c.loop-entry-test.true) c.from_residual.ensures.0
    c.loop-entry.invariant c.in_err-put_entry.ensures
