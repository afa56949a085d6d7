use Rattle.std.proofs.Common.{◌≡◌, ℤ, ap, to_z, of_z, w32}
use Rattle.std.proofs.lemmas.Int.{to_z-of_z}
use Rattle.ci_base.specs.declared.place.Place.TheVariants as places
use Rattle.ci_sems.specs.Found.{Stands}
use Rattle.ci_sems.proofs.Arms.{signal_full, signal_more, stands_in}
use Rattle.ci_sems.proofs.semaphores.Sems.signal.Goals as goal

pub returns-then-count-ge-MOST_COUNT : goal.returns-then-count-ge-MOST_COUNT
returns-then-count-ge-MOST_COUNT c =
    let e : to_z w32 (of_z w32 c.args.number) ≡ c.args.number = to_z-of_z w32 c.args.number c.ranges.number in
    let s : Stands c.args.number c.args.self.now c.in-Some.at = stands_in c.args.number (to_z w32 (of_z w32 c.args.number)) c.in-Some.at c.as_slice.result.now c.self.inside.kept.items c.args.self.now e c.as_slice.ensures.value c.self.view_is c.in-Some.ensures in
    signal_full c.args.number c.in-Some.at c.args.self.now c.self.inside.kept.items c.args.lines.now c.take_first.new.self c.args.woken.now c.index.result.now (places.Semaphore (to_z w32 (of_z w32 c.args.number))) c.take_first.result
    s c.self.view_is c.index.ensures (ap (λ (z : ℤ). places.Semaphore z) e) c.take_first.ensures.task c.in_default-take_first.is c.take_first.ensures.rest
    c.coded-then-count-ge-MOST_COUNT.result c.coded-then-count-ge-MOST_COUNT.ensures c.if-count-ge-MOST_COUNT.true

pub returns : goal.returns
returns c =
    let e : to_z w32 (of_z w32 c.args.number) ≡ c.args.number = to_z-of_z w32 c.args.number c.ranges.number in
    let s : Stands c.args.number c.args.self.now c.in-Some.at = stands_in c.args.number (to_z w32 (of_z w32 c.args.number)) c.in-Some.at c.as_slice.result.now c.self.inside.kept.items c.args.self.now e c.as_slice.ensures.value c.self.view_is c.in-Some.ensures in
    signal_more c.args.number c.in-Some.at c.args.self.now c.self.inside.kept.items c.args.lines.now c.take_first.new.self c.args.woken.now c.index.result.now (places.Semaphore (to_z w32 (of_z w32 c.args.number))) c.take_first.result
    s c.self.view_is c.index.ensures (ap (λ (z : ℤ). places.Semaphore z) e) c.take_first.ensures.task c.in_default-take_first.is c.take_first.ensures.rest
    c.coded-2.result c.index_mut.result.now c.coded-2.ensures c.index_mut.ensures.value c.if-count-ge-MOST_COUNT.false
