use Rattle.std.proofs.Common.{ℕ, subst}
use Rattle.ci_base.specs.declared.task.Trail.{Trail}
use Rattle.ci_task.specs.declared.machine.Pause.{Pause}
use Rattle.ci_task.specs.Moved.{moved, Paused}
use Rattle.ci_task_tests.proofs.Going.{can_run, run_on, run_told}
use Rattle.ci_task_tests.proofs.play.go_on.Goals as goal

pub run-pause-requires : goal.run-pause-requires
run-pause-requires c = can_run c.args.code.now c.args.machine.now c.requires

pub answer-requires : goal.answer-requires
answer-requires c =
    run_told c.args.code.now c.args.machine.now c.run-pause.new.self c.args.ticks c.in-Asks.ticks c.in-Asks.request c.requires
    (subst (λ (p : Pause). (trail : Trail) (before : ℕ) → moved c.args.code.now trail before c.args.machine.now → Paused c.args.code.now trail before c.args.ticks p c.run-pause.new.self) c.in-Asks.is c.run-pause.ensures)

pub returns-in-OutOfTicks : goal.returns-in-OutOfTicks
returns-in-OutOfTicks c = run_on c.args.code.now c.args.machine.now c.run-pause.new.self c.args.ticks c.run-pause.result c.requires c.run-pause.ensures
