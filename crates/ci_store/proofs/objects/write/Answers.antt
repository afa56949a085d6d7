use Rattle.std.proofs.lemmas.Int.{to_z-of_z}
use Rattle.std.proofs.Common.{to_z, of_z, w32, ◌≡◌, ◌∙◌, List, ap}
use Rattle.ci_base.specs.declared.task.Delivery.{Delivery}
use Rattle.ci_shared.proofs.Owed.{write_fit}
use Rattle.ci_shared.specs.Queues.{que_write}
use Rattle.ci_store.proofs.Answering.{got_row, queues_do}
use Rattle.ci_store.proofs.Asking.{lives, room}
use Rattle.ci_store.specs.Done.{freed}
use Rattle.ci_store.specs.Stored.{roster_of}
use Rattle.ci_store.proofs.objects.write.Goals as goal

pub write-answer-requires : goal.write-answer-requires
write-answer-requires c = room c.args.parts.now c.requires

pub free-requires : goal.free-requires
free-requires c =
    let number_is : to_z w32 (of_z w32 c.args.number) ≡ c.args.number = to_z-of_z w32 c.args.number c.ranges.number in
    let sort_is : to_z w32 (of_z w32 c.args.sort) ≡ c.args.sort = to_z-of_z w32 c.args.sort c.ranges.sort in
    let p = c.args.parts.now in
    let fit = write_fit (roster_of p) c.requires.sound.keeps.seated c.args.number c.args.sort c.args.text.now p.queues in
    lives p (que_write c.args.number c.args.sort c.args.text.now p.queues p.lines).deliveries c.deliveries.result.now fit.fit
    (c.deliveries.ensures.value ∙ got_row p c.requires (que_write c.args.number c.args.sort c.args.text.now p.queues p.lines) c.write-answer.result c.write-answer.new.self c.write-answer.new.lines c.write-answer.new.woken (rw (number_is, sort_is) at c.write-answer.ensures))

pub returns : goal.returns
returns c =
    let number_is : to_z w32 (of_z w32 c.args.number) ≡ c.args.number = to_z-of_z w32 c.args.number c.ranges.number in
    let sort_is : to_z w32 (of_z w32 c.args.sort) ≡ c.args.sort = to_z-of_z w32 c.args.sort c.ranges.sort in
    let p = c.args.parts.now in
    queues_do p c.requires c.write-answer.result c.write-answer.new.lines c.write-answer.new.woken c.free.new.tasks (que_write c.args.number c.args.sort c.args.text.now p.queues p.lines) c.write-answer.new.self (rw (number_is, sort_is) at c.write-answer.ensures)
    (c.free.ensures ∙ ap (λ (ds : List Delivery). freed ds p.tasks) c.deliveries.ensures.value)
