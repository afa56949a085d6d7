use Rattle.std.proofs.Common.{◌≤◌, List, sym, ap, ◌∙◌, length, arith}
use Rattle.ci_base.specs.declared.bounds.TheConstants.{MOST_TASKS}
use Rattle.ci_tasktab.proofs.Living.{live_marked}
use Rattle.ci_tasktab.proofs.Placing.{same_count}
use Rattle.ci_tasktab.specs.declared.slot.Slot.{Slot}
use Rattle.ci_tasktab.specs.Slots.{live_in, with_mark}
use Rattle.ci_tasktab.proofs.table.TaskTable.mark.Goals as goal

pub invariant_of-self : goal.invariant_of-self
invariant_of-self c =
    let old = c.self.inside.slots.items in
    let many : length old ≤ MOST_TASKS = c.self.invariant.2 in (
      omega (arith, c.self.invariant.0, c.set_mark.ensures.capacity),
      c.self.invariant.1,
      omega (arith, many, ap (λ (l : List Slot). length l) c.set_mark.ensures.items, same_count (with_mark c.args.suspended) c.args.task old),
      c.self.invariant.3,
      c.self.invariant.4 ∙ sym (live_marked c.args.suspended c.args.task old) ∙ sym (ap (λ (l : List Slot). live_in l) c.set_mark.ensures.items),
    )
