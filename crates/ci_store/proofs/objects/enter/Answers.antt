use Rattle.ci_shared.specs.Sections.{enter}
use Rattle.ci_store.proofs.Answering.{sections_serve}
use Rattle.ci_store.proofs.Asking.{asker}
use Rattle.ci_store.proofs.objects.enter.Goals as goal

pub enter-reply-requires-clause-least : goal.enter-reply-requires-clause-least
enter-reply-requires-clause-least c = (asker c.args.parts.now c.args.task c.requires.clear.sound c.requires.asker).least

pub enter-reply-requires-clause-most : goal.enter-reply-requires-clause-most
enter-reply-requires-clause-most c = (asker c.args.parts.now c.args.task c.requires.clear.sound c.requires.asker).most

pub enter-reply-requires-clause-nowhere : goal.enter-reply-requires-clause-nowhere
enter-reply-requires-clause-nowhere c = (asker c.args.parts.now c.args.task c.requires.clear.sound c.requires.asker).nowhere

pub enter-reply-requires-clause-room : goal.enter-reply-requires-clause-room
enter-reply-requires-clause-room c = (asker c.args.parts.now c.args.task c.requires.clear.sound c.requires.asker).room

pub settle-requires : goal.settle-requires
settle-requires c = (asker c.args.parts.now c.args.task c.requires.clear.sound c.requires.asker).live

pub returns : goal.returns
returns c =
    let p = c.args.parts.now in
    sections_serve p c.requires.clear c.args.task (asker p c.args.task c.requires.clear.sound c.requires.asker).nowhere c.enter-reply.result c.enter-reply.new.lines c.settle.new.tasks c.settle.ensures (enter c.args.task c.args.name.now p.sections) c.enter-reply.new.self c.enter-reply.ensures
