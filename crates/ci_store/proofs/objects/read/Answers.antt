use Rattle.std.proofs.lemmas.Int.{to_z-of_z}
use Rattle.std.proofs.Common.{to_z, of_z, w32, ◌≡◌}
use Rattle.ci_shared.specs.Queues.{que_read}
use Rattle.ci_store.proofs.Answering.{queues_serve}
use Rattle.ci_store.proofs.Asking.{asker}
use Rattle.ci_store.proofs.objects.read.Goals as goal

pub read-reply-requires-clause-least : goal.read-reply-requires-clause-least
read-reply-requires-clause-least c = (asker c.args.parts.now c.args.task c.requires.clear.sound c.requires.asker).least

pub read-reply-requires-clause-most : goal.read-reply-requires-clause-most
read-reply-requires-clause-most c = (asker c.args.parts.now c.args.task c.requires.clear.sound c.requires.asker).most

pub read-reply-requires-clause-nowhere : goal.read-reply-requires-clause-nowhere
read-reply-requires-clause-nowhere c = (asker c.args.parts.now c.args.task c.requires.clear.sound c.requires.asker).nowhere

pub read-reply-requires-clause-room : goal.read-reply-requires-clause-room
read-reply-requires-clause-room c = (asker c.args.parts.now c.args.task c.requires.clear.sound c.requires.asker).room

pub settle-requires : goal.settle-requires
settle-requires c = (asker c.args.parts.now c.args.task c.requires.clear.sound c.requires.asker).live

pub returns : goal.returns
returns c =
    let number_is : to_z w32 (of_z w32 c.args.number) ≡ c.args.number = to_z-of_z w32 c.args.number c.ranges.number in
    let mode_is : to_z w32 (of_z w32 c.args.mode) ≡ c.args.mode = to_z-of_z w32 c.args.mode c.ranges.mode in
    let p = c.args.parts.now in
    queues_serve p c.requires.clear c.args.task (asker p c.args.task c.requires.clear.sound c.requires.asker).nowhere c.read-reply.result c.read-reply.new.lines c.settle.new.tasks c.settle.ensures (que_read c.args.number c.args.mode p.queues) c.read-reply.new.self (rw (number_is, mode_is) at c.read-reply.ensures)
