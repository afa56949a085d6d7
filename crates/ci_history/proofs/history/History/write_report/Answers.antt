use Rattle.std.proofs.Common.{◌≡◌, ◌++◌, length, refl, append_assoc}
use Rattle.std.specs.List.{flat_map}
use Rattle.ci_outside.proofs.Putting.{Puts-then}
use Rattle.ci_history.specs.Report.{report_text, entry_line, task_lines, closing_line}
use Rattle.ci_history.proofs.Writing.{stops, stops-first}
use Rattle.ci_history.proofs.history.History.write_report.Goals as goal

pub returns-in_err-put_traces : goal.returns-in_err-put_traces
returns-in_err-put_traces g c =
    let rest = task_lines 1 c.args.end.now.tasks ++ closing_line (length c.args.self.now.entries) c.args.end.now.work c.args.end.now.instructions c.args.end.now.ending in
    let split : report_text c.args.self.now.entries c.args.end.now ≡ flat_map entry_line c.entries.result.now ++ rest =
    rw c.entries.ensures (simp append_assoc) in
    stops-first g.K.Sink.bytes g.K.Sink.faults _ _ _ _ _ _ rest split c.from_residual.ensures.0 c.in_err-put_traces.ensures

pub returns-in_err-put_tasks : goal.returns-in_err-put_tasks
returns-in_err-put_tasks g c =
    let rest = closing_line (length c.args.self.now.entries) c.args.end.now.work c.args.end.now.instructions c.args.end.now.ending in
    let split : report_text c.args.self.now.entries c.args.end.now ≡ flat_map entry_line c.entries.result.now ++ (task_lines 1 c.members.result.now ++ rest) =
    rw (c.entries.ensures, c.members.ensures.value) (simp append_assoc) in
    stops g.K.Sink.bytes g.K.Sink.faults _ _ _ _ _ _ _ _ _ rest split c.from_residual-in_err-put_tasks.ensures.0
    c.in_ok-put_traces.ensures c.in_err-put_tasks.ensures

pub returns : goal.returns
returns g c =
    let closing = closing_line (length c.entries-2.result.now) c.args.end.now.work c.args.end.now.instructions c.args.end.now.ending in
    let split : (flat_map entry_line c.entries.result.now ++ task_lines 1 c.members.result.now) ++ closing ≡ report_text c.args.self.now.entries c.args.end.now =
    rw (c.entries.ensures, c.entries-2.ensures, c.members.ensures.value) refl in
    rw (← split)
    (Puts-then g.K.Sink.bytes g.K.Sink.faults _ _ _ _ _ _ _
    (Puts-then g.K.Sink.bytes g.K.Sink.faults _ _ _ _ _ _ _ c.in_ok-put_traces.ensures c.in_ok-put_tasks.ensures) c.put_closing.ensures)
