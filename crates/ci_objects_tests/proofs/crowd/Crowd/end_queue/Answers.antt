use Rattle.ci_objects_tests.proofs.Long.{followed}
use Rattle.ci_objects_tests.proofs.crowd.Crowd.end_queue.Goals as goal

pub invariant_of-self : goal.invariant_of-self
invariant_of-self c = (followed c.self.inside.many c.shut-answer.ensures c.self.invariant.0, c.self.invariant.1)
