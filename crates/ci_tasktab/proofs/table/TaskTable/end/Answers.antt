use Rattle.std.proofs.Common.{◌≡◌, ◌≤◌, ℕ, List, true, sym, ap, ◌∙◌, subst, length, arith}
use Rattle.std.specs.Prelude.{filter, nat_eq, not}
use Rattle.ci_base.specs.declared.bounds.TheConstants.{MOST_LIVE_TASKS, MOST_TASKS}
use Rattle.ci_tasktab.proofs.Living.{live_gone}
use Rattle.ci_tasktab.proofs.Placing.{live_within, same_count}
use Rattle.ci_tasktab.specs.declared.slot.Slot.{Slot}
use Rattle.ci_tasktab.specs.Slots.{is_live_at, live_in, with_status}
use Rattle.ci_tasktab.proofs.table.TaskTable.end.Goals as goal

pub invariant_of-self : goal.invariant_of-self
invariant_of-self c =
    let old = c.self.inside.slots.items in
    let live : is_live_at old c.args.task ≡ true = subst (λ (l : List Slot). is_live_at l c.args.task ≡ true) (sym c.self.view_is) c.requires.live in
    let within : (1 ≤ c.args.task) × (c.args.task ≤ length old) = live_within old c.args.task live in
    let many : length old ≤ MOST_TASKS = c.self.invariant.2 in
    let few : length c.self.inside.live.items ≤ MOST_LIVE_TASKS = c.self.invariant.3 in (
      omega (arith, c.self.invariant.0, c.set_status.ensures.capacity),
      omega (arith, c.self.invariant.1, c.drop_number.ensures.capacity),
      omega (arith, many, ap (λ (l : List Slot). length l) c.set_status.ensures.items, same_count (with_status c.args.status) c.args.task old),
      omega (arith, few, c.drop_number.ensures.fewer),
      c.drop_number.ensures.items ∙ ap (λ (l : List ℕ). filter (λ (n : ℕ). not (nat_eq n c.args.task)) l) c.self.invariant.4
          ∙ sym (live_gone c.args.status c.args.task old c.requires.dead within.0 within.1) ∙ sym (ap (λ (l : List Slot). live_in l) c.set_status.ensures.items),
    )
