use Rattle.ci_task_tests.specs.Begun.{HasBegun}
use Rattle.ci_task_tests.proofs.play.finish.Given as goal

abbrev pub invariant-runs : goal.invariant-runs
invariant-runs l = HasBegun l.code l.machine
