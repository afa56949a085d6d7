use Rattle.std.proofs.Common.{◌≤◌, ◌-◌, arith, length}
use Rattle.ci_objects_tests.proofs.Crowded.{fewer_left, no_more_left, seat_left}
use Rattle.ci_objects_tests.proofs.crowd.Crowd.leave.Goals as goal

pub invariant_of-self : goal.invariant_of-self
invariant_of-self c =
    let few : length c.leave.new.self ≤ c.self.inside.many - 1 =
    fewer_left c.args.task c.self.inside.lines c.leave.new.self c.self.inside.many c.in-Some.place c.in-Some.ensures.place c.leave.ensures.rest c.self.invariant.0 in
    (omega (arith, few, c.saturating_sub-self-inside.ensures), omega (arith, c.self.invariant.1, c.saturating_sub-self-inside.ensures))

pub invariant_of-self-in-None : goal.invariant_of-self-in-None
invariant_of-self-in-None c = (no_more_left c.args.task c.self.inside.lines c.leave.new.self c.self.inside.many c.leave.ensures.rest c.self.invariant.0, c.self.invariant.1)

pub returns-in-Some : goal.returns-in-Some
returns-in-Some c = seat_left c.args.task c.self.inside.lines c.leave.new.self c.leave.ensures.rest

pub returns-in-None : goal.returns-in-None
returns-in-None c = seat_left c.args.task c.self.inside.lines c.leave.new.self c.leave.ensures.rest
