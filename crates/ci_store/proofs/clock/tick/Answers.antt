use Rattle.std.proofs.Common.{◌≡◌, ◌+◌, ◌∙◌, ℕ, ap, to_z, of_z, w32}
use Rattle.std.proofs.lemmas.Int.{to_z-of_z}
use Rattle.ci_shared.specs.Words.{whole}
use Rattle.ci_store.proofs.Asking.{room}
use Rattle.ci_store.proofs.Ticking.{tick_does, tick_lives}
use Rattle.ci_store.proofs.clock.tick.Goals as goal

pub answer_due-requires : goal.answer_due-requires
answer_due-requires c = room c.args.parts.now c.requires.clear

pub free-requires : goal.free-requires
free-requires c =
    let p = c.args.parts.now in
    tick_lives p c.requires.clear (p.clock + c.from.result) c.answer_due.new.woken c.answer_due.ensures.woken c.deliveries.result.now c.deliveries.ensures.value

pub returns : goal.returns
returns c =
    let p = c.args.parts.now in
    let ms_is : to_z w32 (of_z w32 c.args.ms) ≡ c.args.ms = to_z-of_z w32 c.args.ms c.ranges.ms in
    let gained = rw ms_is at c.whole.ensures in
    tick_does p c.requires.clear (p.clock + c.from.result) c.answer_due.new.woken c.answer_due.ensures.woken (whole c.args.ms) c.coded.result c.answer_due.new.lines c.deliveries.result.now c.free.new.tasks
    (ap (λ (n : ℕ). p.clock + n) (c.from.ensures ∙ gained)) c.coded.ensures c.answer_due.ensures.lines c.deliveries.ensures.value c.free.ensures
