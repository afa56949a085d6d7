use Rattle.ci_task_tests.proofs.Going.{begun_new}
use Rattle.ci_task_tests.proofs.play.begin.Goals as goal

pub returns : goal.returns
returns c = begun_new c.args.code.now c.empty.result c.begin.new.self c.begin.ensures
