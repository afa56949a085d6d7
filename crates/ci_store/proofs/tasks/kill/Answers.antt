use Rattle.std.proofs.Common.{◌≡◌, ℕ, sym, subst, to_z, of_z, w32}
use Rattle.std.proofs.lemmas.Int.{to_z-of_z}
use Rattle.ci_shared.specs.Steps as steps
use Rattle.ci_store.proofs.Ending.{is_killed, not_killed}
use Rattle.ci_store.specs.Done.{Does}
use Rattle.ci_store.specs.Stored.{shared_of}
use Rattle.ci_store.proofs.tasks.kill.Goals as goal

pub returns-then-not-is_live : goal.returns-then-not-is_live
returns-then-not-is_live c =
    let p = c.args.parts.now in
    let number_is : to_z w32 (of_z w32 c.args.number) ≡ c.args.number = to_z-of_z w32 c.args.number c.ranges.number in
    let task_is = rw number_is at c.whole-task.ensures in
    subst (λ (t : ℕ). Does (steps.kill (shared_of p) t) c.coded.result p p) task_is (not_killed p c.requires c.whole-task.result c.coded.result c.coded.ensures (sym c.if-not-is_live.ensures))

pub returns : goal.returns
returns c =
    let p = c.args.parts.now in
    let number_is : to_z w32 (of_z w32 c.args.number) ≡ c.args.number = to_z-of_z w32 c.args.number c.ranges.number in
    let task_is = rw number_is at c.whole-task.ensures in
    subst (λ (t : ℕ). Does (steps.kill (shared_of p) t) c.coded-2.result p c.end.new.parts) task_is (is_killed p c.end.new.parts c.whole-task.result c.coded-2.result c.coded-2.ensures (sym c.if-not-is_live.ensures) c.end.ensures)
