use Rattle.ci_task_tests.proofs.Going.{can_run, run_on}
use Rattle.ci_task_tests.proofs.play.run.Goals as goal

pub run-pause-requires : goal.run-pause-requires
run-pause-requires c = can_run c.args.code.now c.args.machine.now c.requires

pub returns : goal.returns
returns c = run_on c.args.code.now c.args.machine.now c.run-pause.new.self c.args.ticks c.run-pause.result c.requires c.run-pause.ensures
