use Rattle.std.proofs.Common.{ap}
use Rattle.ci_runtime.specs.Desks.{state}
use Rattle.ci_runtime.proofs.Closing.{at_rest}
use Rattle.ci_runtime.proofs.desk.Desk.ending_at_rest.Goals as goal

pub returns : goal.returns
returns c = at_rest _ _ _ _ c.self.inside.board _ c.self.invariant (ap state c.self.view_is) c.requires c.ending_at_rest.ensures
