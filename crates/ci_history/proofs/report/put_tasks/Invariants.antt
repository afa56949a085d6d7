use Rattle.std.proofs.Common.{◌≡◌, ◌+◌, take, Ok}
use Rattle.ci_outside.specs.Sink.{Puts}
use Rattle.ci_outside.specs.declared.sink.Failed.{Failed}
use Rattle.ci_history.specs.Report.{task_lines}
use Rattle.ci_history.proofs.report.put_tasks.Given as goal

abbrev pub invariant-loop-task : goal.invariant-loop-task
invariant-loop-task g l =
    record {
      number : l.number ≡ l.task-index + 1;
      put : Puts {T = Unit {0}} {E = Failed} g.K.Sink.bytes g.K.Sink.faults l.initial.out l.out (Ok tt) (task_lines 1 (take l.task-index l.tasks));
    }
