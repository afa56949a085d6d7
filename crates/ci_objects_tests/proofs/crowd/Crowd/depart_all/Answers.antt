use Rattle.ci_shared.specs.Sections.{depart_all}
use Rattle.ci_objects_tests.proofs.Long.{shorter}
use Rattle.ci_objects_tests.proofs.crowd.Crowd.depart_all.Goals as goal

pub invariant_of-self : goal.invariant_of-self
invariant_of-self c =
    (shorter (depart_all c.args.task c.args.sections.now c.self.inside.lines).deliveries c.self.inside.lines c.depart_all.new.lines c.self.inside.many c.depart_all.ensures.lines c.self.invariant.0, c.self.invariant.1)
