use Rattle.std.proofs.lemmas.Int.{to_z-of_z}
use Rattle.std.proofs.Common.{to_z, of_z, w32, ◌≡◌, ◌∙◌, List, ap}
use Rattle.ci_base.specs.declared.task.Delivery.{Delivery}
use Rattle.ci_shared.proofs.Owed.{que_close_fit}
use Rattle.ci_shared.specs.Queues.{que_close}
use Rattle.ci_store.proofs.Answering.{got_row, queues_do}
use Rattle.ci_store.proofs.Asking.{lives, room}
use Rattle.ci_store.specs.Done.{freed}
use Rattle.ci_store.specs.Stored.{roster_of}
use Rattle.ci_store.proofs.objects.close_queue.Goals as goal

pub shut-answer-requires : goal.shut-answer-requires
shut-answer-requires c = room c.args.parts.now c.requires

pub free-requires : goal.free-requires
free-requires c =
    let number_is : to_z w32 (of_z w32 c.args.number) ≡ c.args.number = to_z-of_z w32 c.args.number c.ranges.number in
    let p = c.args.parts.now in
    let fit = que_close_fit (roster_of p) c.requires.sound.keeps.seated c.args.number p.queues in
    lives p (que_close c.args.number p.queues p.lines).deliveries c.deliveries.result.now fit.fit
    (c.deliveries.ensures.value ∙ got_row p c.requires (que_close c.args.number p.queues p.lines) c.shut-answer.result c.shut-answer.new.self c.shut-answer.new.lines c.shut-answer.new.woken (rw number_is at c.shut-answer.ensures))

pub returns : goal.returns
returns c =
    let number_is : to_z w32 (of_z w32 c.args.number) ≡ c.args.number = to_z-of_z w32 c.args.number c.ranges.number in
    let p = c.args.parts.now in
    queues_do p c.requires c.shut-answer.result c.shut-answer.new.lines c.shut-answer.new.woken c.free.new.tasks (que_close c.args.number p.queues p.lines) c.shut-answer.new.self (rw number_is at c.shut-answer.ensures)
    (c.free.ensures ∙ ap (λ (ds : List Delivery). freed ds p.tasks) c.deliveries.ensures.value)
