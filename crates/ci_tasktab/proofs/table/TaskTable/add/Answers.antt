use Rattle.std.proofs.Common.{◌<◌, ◌+◌, ◌++◌, ◌∷◌, [], ℕ, List, sym, ap, ◌∙◌, subst, length, arith}
use Rattle.ci_base.specs.declared.bounds.TheConstants.{MOST_LIVE_TASKS, MOST_TASKS}
use Rattle.ci_tasktab.proofs.Living.{live_pushed}
use Rattle.ci_tasktab.specs.declared.slot.Slot.{Slot}
use Rattle.ci_tasktab.specs.Slots.{live_in}
use Rattle.ci_tasktab.proofs.table.TaskTable.add.Goals as goal

pub invariant_of-self : goal.invariant_of-self
invariant_of-self c =
    let old = c.self.inside.slots.items in
    let live = c.self.inside.live.items in
    let room : length old < MOST_TASKS = subst (λ (l : List Slot). length l < MOST_TASKS) (sym c.self.view_is) c.requires.room in
    let few : length live < MOST_LIVE_TASKS = subst (λ (l : List ℕ). length l < MOST_LIVE_TASKS) (sym (c.self.invariant.4 ∙ ap (λ (l : List Slot). live_in l) c.self.view_is)) c.requires.few in (
      omega (arith, c.self.invariant.0, c.push_reserved.ensures.capacity),
      omega (arith, c.self.invariant.1, c.push_reserved-2.ensures.capacity),
      omega (arith, room, c.push_reserved.ensures.len),
      omega (arith, few, c.push_reserved-2.ensures.len),
      c.push_reserved-2.ensures.items ∙ ap (λ (l : List ℕ). l ++ (c.count-task.result + 1) ∷ []) c.self.invariant.4
          ∙ ap (λ (n : ℕ). live_in old ++ (n + 1) ∷ []) (c.count-task.ensures.value ∙ ap (λ (l : List Slot). length l) (sym c.self.view_is)) ∙ sym (live_pushed c.args.function old) ∙ sym (ap (λ (l : List Slot). live_in l) c.push_reserved.ensures.items),
    )
