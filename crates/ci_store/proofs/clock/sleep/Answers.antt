use Rattle.std.proofs.Common.{◌≡◌, ◌+◌, ◌*◌, ℤ, Some, ap, to_z, of_z, w32}
use Rattle.std.proofs.lemmas.Int.{to_z-of_z}
use Rattle.std.proofs.Math.IntN.{nat_abs}
use Rattle.ci_base.specs.declared.place.Place.TheVariants as places
use Rattle.ci_shared.specs.Steps.{sleep}
use Rattle.ci_store.proofs.Answering.{waits_there}
use Rattle.ci_store.proofs.Asking.{asker}
use Rattle.ci_store.proofs.Ticking.{sleeps}
use Rattle.ci_store.proofs.clock.sleep.Goals as goal

pub join-requires-clause-most : goal.join-requires-clause-most
join-requires-clause-most c = (asker c.args.parts.now c.args.task c.requires.clear.sound c.requires.asker).most

pub join-requires-clause-room : goal.join-requires-clause-room
join-requires-clause-room c = (asker c.args.parts.now c.args.task c.requires.clear.sound c.requires.asker).room

pub set_waits-requires : goal.set_waits-requires
set_waits-requires c = (asker c.args.parts.now c.args.task c.requires.clear.sound c.requires.asker).live

pub returns : goal.returns
returns c =
    let p = c.args.parts.now in
    let free = (asker p c.args.task c.requires.clear.sound c.requires.asker).nowhere in
    let n_is : to_z w32 (of_z w32 c.args.n) ≡ c.args.n = to_z-of_z w32 c.args.n c.ranges.n in
    let joins = rw n_is at c.join.ensures in
    let whole = rw n_is at c.if-n-lt0.false in
    waits_there p c.requires.clear c.args.task free (sleep p.clock c.args.n c.args.unit) places.Clock (Some (p.clock + nat_abs c.args.n * c.args.unit)) c.join.new.self c.set_waits.new.self
    (sleeps p.clock c.args.unit c.args.n whole (λ e. c.if-n-eq0.false (ap (λ (z : ℤ). of_z w32 z) e))) joins c.set_waits.ensures
