use Rattle.std.proofs.Common.{arith}
use Rattle.ci_lines.proofs.Searching.{task_here}
use Rattle.ci_lines.proofs.search.of_task.Goals as goal

pub returns-then-waiter-task : goal.returns-then-waiter-task
returns-then-waiter-task c =
    task_here c.args.task c.args.waiting.now.items c.loop-i.i c.index-waiter.result.now (omega (arith, c.loop-i-test.true, c.len-i-end.ensures)) c.index-waiter.ensures c.loop-i.invariant c.if-waiter-task.true
