use Rattle.std.proofs.Common.{◌≤◌, List, sym, ap, ◌∙◌, subst, arith}
use Rattle.std.specs.VecDeque.{deque_capacity}
use Rattle.ci_base.specs.declared.bounds.TheConstants.{MOST_LIVE_TASKS}
use Rattle.ci_shared.specs.declared.waiter.Waiter.{Waiter}
use Rattle.ci_shared.specs.Roster.{Once, seats}
use Rattle.ci_shared.proofs.Lines.{once_joined}
use Rattle.ci_lines.proofs.lines.Lines.join.Goals as goal

pub invariant_of-self : goal.invariant_of-self
invariant_of-self c =
    let before : MOST_LIVE_TASKS ≤ deque_capacity c.self.inside.waiting = c.self.invariant.0 in (
      omega (arith, before, c.push_back_reserved.ensures.capacity),
      subst (λ (l : List Waiter). Once l) (sym c.push_back_reserved.ensures.items)
          (once_joined c.self.inside.waiting.items _ c.self.invariant.1 (ap (λ (l : List Waiter). seats c.args.task l) c.self.view_is ∙ c.requires.nowhere)),
    )
