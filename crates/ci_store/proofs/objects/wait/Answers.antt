use Rattle.std.proofs.lemmas.Int.{to_z-of_z}
use Rattle.std.proofs.Common.{to_z, of_z, w32, ◌≡◌}
use Rattle.ci_shared.specs.Semaphores.{sem_wait}
use Rattle.ci_store.proofs.Answering.{semaphores_serve}
use Rattle.ci_store.proofs.Asking.{asker}
use Rattle.ci_store.proofs.objects.wait.Goals as goal

pub wait-reply-requires-clause-least : goal.wait-reply-requires-clause-least
wait-reply-requires-clause-least c = (asker c.args.parts.now c.args.task c.requires.clear.sound c.requires.asker).least

pub wait-reply-requires-clause-most : goal.wait-reply-requires-clause-most
wait-reply-requires-clause-most c = (asker c.args.parts.now c.args.task c.requires.clear.sound c.requires.asker).most

pub wait-reply-requires-clause-nowhere : goal.wait-reply-requires-clause-nowhere
wait-reply-requires-clause-nowhere c = (asker c.args.parts.now c.args.task c.requires.clear.sound c.requires.asker).nowhere

pub wait-reply-requires-clause-room : goal.wait-reply-requires-clause-room
wait-reply-requires-clause-room c = (asker c.args.parts.now c.args.task c.requires.clear.sound c.requires.asker).room

pub settle-requires : goal.settle-requires
settle-requires c = (asker c.args.parts.now c.args.task c.requires.clear.sound c.requires.asker).live

pub returns : goal.returns
returns c =
    let number_is : to_z w32 (of_z w32 c.args.number) ≡ c.args.number = to_z-of_z w32 c.args.number c.ranges.number in
    let limit_is : to_z w32 (of_z w32 c.args.limit) ≡ c.args.limit = to_z-of_z w32 c.args.limit c.ranges.limit in
    let p = c.args.parts.now in
    semaphores_serve p c.requires.clear c.args.task (asker p c.args.task c.requires.clear.sound c.requires.asker).nowhere c.wait-reply.result c.wait-reply.new.lines c.settle.new.tasks c.settle.ensures (sem_wait c.args.number c.args.limit p.clock p.sems) c.wait-reply.new.self (rw (number_is, limit_is) at c.wait-reply.ensures)
