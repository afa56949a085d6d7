use Rattle.std.proofs.Common.{arith}
use Rattle.ci_outside.proofs.Putting.{Puts-then}
use Rattle.ci_history.proofs.Writing.{lines-around, lines-next, stops}
use Rattle.ci_history.proofs.report.put_tasks.Goals as goal

pub returns-in_err-put_task : goal.returns-in_err-put_task
returns-in_err-put_task g c =
    stops g.K.Sink.bytes g.K.Sink.faults _ _ _ _ _ _ _ _ _ _ (lines-around _ _ _ _ c.task-item.is c.loop-task-test.true c.loop-task.invariant.number) c.from_residual.ensures.0
    c.loop-task.invariant.put c.in_err-put_task.ensures

pub loop-task-preserved : goal.loop-task-preserved
loop-task-preserved g c = record {
  number = omega (arith, c.loop-task.invariant.number);
  put = rw (lines-next _ _ _ _ c.task-item.is c.loop-task-test.true c.loop-task.invariant.number)
      (Puts-then g.K.Sink.bytes g.K.Sink.faults _ _ _ _ _ _ _ c.loop-task.invariant.put c.in_ok-put_task.ensures);
}
