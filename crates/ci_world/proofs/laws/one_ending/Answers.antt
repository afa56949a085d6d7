use Rattle.ci_world.proofs.Alone.{one_end}
use Rattle.ci_world.specs.Work.{work}
use Rattle.ci_world.proofs.laws.one_ending.Goals as goal

pub returns : goal.returns
returns c = λ w h ls budget a b x y. one_end w.common (work h ls) budget a b x.as_it_ends y.as_it_ends
