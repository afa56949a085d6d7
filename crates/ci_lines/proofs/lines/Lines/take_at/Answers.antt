use Rattle.std.proofs.Common.{◌≤◌, arith}
use Rattle.std.specs.VecDeque.{deque_capacity}
use Rattle.ci_base.specs.declared.bounds.TheConstants.{MOST_LIVE_TASKS}
use Rattle.ci_lines.proofs.Taking.{rest_is, rest_once, taken}
use Rattle.ci_lines.proofs.lines.Lines.take_at.Goals as goal

pub invariant_of-self : goal.invariant_of-self
invariant_of-self c =
    let before : MOST_LIVE_TASKS ≤ deque_capacity c.self.inside.waiting = c.self.invariant.0 in
    (omega (arith, before, c.remove.ensures.capacity), rest_once c.self.inside.waiting.items c.args.self.now c.remove.new.self.items c.args.at c.in-Some.waiter c.self.view_is c.self.invariant.1 c.requires c.in-Some.ensures.value c.in-Some.ensures.items)

pub returns-clause-taken : goal.returns-clause-taken
returns-clause-taken c = taken c.self.inside.waiting.items c.args.self.now c.args.at c.in-Some.waiter c.self.view_is c.requires c.in-Some.ensures.value

pub returns-clause-rest : goal.returns-clause-rest
returns-clause-rest c = rest_is c.self.inside.waiting.items c.args.self.now c.remove.new.self.items c.args.at c.in-Some.waiter c.self.view_is c.self.invariant.1 c.requires c.in-Some.ensures.value c.in-Some.ensures.items
