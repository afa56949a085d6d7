use Rattle.ci_task.proofs.Again.{answers_again}
use Rattle.ci_task.proofs.laws.answers_again.Goals as goal

pub returns : goal.returns
returns c = answers_again
