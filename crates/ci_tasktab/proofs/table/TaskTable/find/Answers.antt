use Rattle.std.proofs.Common.{◌≡◌, ◌≤◌, length, subst, ℕ, List, Option, sym, ap, ◌∙◌}
use Rattle.std.specs.Prelude.{find}
use Rattle.ci_base.specs.declared.layout.Head.{Head}
use Rattle.ci_base.specs.declared.bounds.TheConstants.{MOST_TASKS}
use Rattle.ci_shared.specs.Started.{least_live}
use Rattle.ci_shared.specs.declared.waiter.Waiter.{Waiter}
use Rattle.ci_tasktab.proofs.Living.{found, found_within}
use Rattle.ci_tasktab.specs.declared.slot.Slot.{Slot}
use Rattle.ci_tasktab.specs.Slots.{live_in, runs, tasks_in}
use Rattle.ci_tasktab.proofs.table.TaskTable.find.Goals as goal

-- as it is kept
along : (hs hs' : List Head) (name live live' : List ℕ) (xs xs' slots : List Slot) (ws : List Waiter) (r : Option ℕ) → hs' ≡ hs → live' ≡ live → xs' ≡ slots → slots ≡ xs → live ≡ live_in slots → r ≡ find (runs hs' name xs') live' → r ≡ least_live hs name 1 (tasks_in ws xs)
along hs hs' name live live' xs xs' slots ws r h l x v i is =
    is ∙ ap (λ (z : List Head). find (runs z name xs') live') h ∙ ap (λ (z : List Slot). find (runs hs name z) live') (x ∙ v) ∙ ap (λ (z : List ℕ). find (runs hs name xs) z) (l ∙ i ∙ ap (λ (z : List Slot). live_in z) v)
    ∙ sym (found hs name ws xs)

pub returns-clause-task : goal.returns-clause-task
returns-clause-task c = λ ws. along c.args.layout.now.functions _ c.args.name.now c.self.inside.live.items _ c.args.self.now _ c.self.inside.slots.items ws c.first_running.result c.members.ensures c.as_slice-2.ensures.value c.as_slice.ensures.value c.self.view_is c.self.invariant.4 c.first_running.ensures

pub returns-clause-within : goal.returns-clause-within
returns-clause-within c = found_within _ c.args.name.now c.as_slice.result.now c.as_slice-2.result.now c.first_running.result
    (subst (λ (l : List Slot). length l ≤ MOST_TASKS) (sym c.as_slice.ensures.value) c.self.invariant.2) c.first_running.ensures
