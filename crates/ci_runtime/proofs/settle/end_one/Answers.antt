use Rattle.std.proofs.Common.{◌≡◌, ◌≤◌, arith}
use Rattle.ci_runtime.proofs.Placing.{victim_out}
use Rattle.ci_runtime.proofs.settle.end_one.Goals as goal
use Rattle.ci_runtime.proofs.settle.end_one.Goals.{else-task-gt0-via-then-task-gt0+else-task-started, else-task-gt0-via-else-task-gt0}

pub returns-else-task-gt0-clause-victim : goal.returns-else-task-gt0-clause-victim
returns-else-task-gt0-clause-victim c =
    victim_out _ _ _ (λ one le. elim c.else-task-gt0.branch [
      | else-task-gt0-via-then-task-gt0+else-task-started w ↦ omega (arith, w.if-task-started.false, w.started.ensures.value, one, le)
      | else-task-gt0-via-else-task-gt0 w ↦ omega (arith, w.if-task-gt0.false, one, le)
    ])
