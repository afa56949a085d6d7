use Rattle.std.proofs.Common.{◌∙◌, List, ap}
use Rattle.ci_base.specs.declared.task.Delivery.{Delivery}
use Rattle.ci_shared.proofs.Owed.{depart_fit}
use Rattle.ci_shared.specs.Sections.{depart}
use Rattle.ci_store.proofs.Answering.{got_row, sections_do}
use Rattle.ci_store.proofs.Asking.{lives, room}
use Rattle.ci_store.specs.Done.{freed}
use Rattle.ci_store.specs.Stored.{roster_of}
use Rattle.ci_store.proofs.objects.depart.Goals as goal

pub depart-answer-requires : goal.depart-answer-requires
depart-answer-requires c = room c.args.parts.now c.requires

pub free-requires : goal.free-requires
free-requires c =
    let p = c.args.parts.now in
    let fit = depart_fit (roster_of p) c.requires.sound.keeps.seated c.args.task c.args.name.now p.sections in
    lives p (depart c.args.task c.args.name.now p.sections p.lines).deliveries c.deliveries.result.now fit.fit
    (c.deliveries.ensures.value ∙ got_row p c.requires (depart c.args.task c.args.name.now p.sections p.lines) c.depart-answer.result c.depart-answer.new.self c.depart-answer.new.lines c.depart-answer.new.woken c.depart-answer.ensures)

pub returns : goal.returns
returns c =
    let p = c.args.parts.now in
    sections_do p c.requires c.depart-answer.result c.depart-answer.new.lines c.depart-answer.new.woken c.free.new.tasks (depart c.args.task c.args.name.now p.sections p.lines) c.depart-answer.new.self c.depart-answer.ensures
    (c.free.ensures ∙ ap (λ (ds : List Delivery). freed ds p.tasks) c.deliveries.ensures.value)
