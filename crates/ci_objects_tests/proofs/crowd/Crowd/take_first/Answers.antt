use Rattle.std.proofs.Common.{◌≤◌, ◌-◌, arith, length, sym, ◌∙◌}
use Rattle.ci_objects_tests.proofs.Crowded.{fewer_first}
use Rattle.ci_objects_tests.proofs.crowd.Crowd.take_first.Goals as goal

pub invariant_of-self : goal.invariant_of-self
invariant_of-self c =
    let few : length c.take_first.new.self ≤ c.self.inside.many - 1 =
    fewer_first c.args.place.now c.self.inside.lines c.take_first.new.self c.self.inside.many c.in-Some.task (sym c.in-Some.is ∙ c.take_first.ensures.task) c.take_first.ensures.rest c.self.invariant.0 in
    (omega (arith, few, c.saturating_sub-self-inside.ensures), omega (arith, c.self.invariant.1, c.saturating_sub-self-inside.ensures))
