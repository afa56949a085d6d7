use Rattle.std.proofs.Common.{◌≡◌, ◌≤◌, List, true, sym, ap, ◌∙◌, subst, length, arith}
use Rattle.ci_base.specs.declared.bounds.TheConstants.{MOST_TASKS}
use Rattle.ci_tasktab.proofs.Living.{live_kept, waiting_lives}
use Rattle.ci_tasktab.proofs.Placing.{same_count}
use Rattle.ci_tasktab.specs.declared.slot.Slot.{Slot}
use Rattle.ci_tasktab.specs.Slots.{is_live_at, live_in, with_status}
use Rattle.ci_tasktab.proofs.table.TaskTable.set_waits.Goals as goal

pub invariant_of-self : goal.invariant_of-self
invariant_of-self c =
    let old = c.self.inside.slots.items in
    let live : is_live_at old c.args.task ≡ true = subst (λ (l : List Slot). is_live_at l c.args.task ≡ true) (sym c.self.view_is) c.requires in
    let many : length old ≤ MOST_TASKS = c.self.invariant.2 in (
      omega (arith, c.self.invariant.0, c.set_status.ensures.capacity),
      c.self.invariant.1,
      omega (arith, many, ap (λ (l : List Slot). length l) c.set_status.ensures.items, same_count (with_status c.waiting.result) c.args.task old),
      c.self.invariant.3,
      c.self.invariant.4 ∙ sym (live_kept c.waiting.result c.args.task old (waiting_lives c.waiting.result c.args.waits c.waiting.ensures) live) ∙ sym (ap (λ (l : List Slot). live_in l) c.set_status.ensures.items),
    )
