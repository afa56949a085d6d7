use Rattle.ci_world.proofs.Alone.{one_from}
use Rattle.ci_world.proofs.laws.one_world.Goals as goal

pub returns : goal.returns
returns c = λ o h v w a b. one_from o h _ v w a b
