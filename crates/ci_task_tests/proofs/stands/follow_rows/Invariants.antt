use Rattle.ci_task_tests.specs.Begun.{HasBegun}
use Rattle.ci_task_tests.proofs.stands.follow_rows.Given as goal

abbrev pub invariant-rows : goal.invariant-rows
invariant-rows g l = HasBegun l.code l.machine
