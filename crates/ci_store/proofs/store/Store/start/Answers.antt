use Rattle.std.proofs.Common.{refl}
use Rattle.ci_store.proofs.Whole.{start_sound, start_stored}
use Rattle.ci_store.proofs.store.Store.start.Goals as goal

pub invariant_of-result : goal.invariant_of-result
invariant_of-result c =
    start_sound c.args.layout.now c.requires _ c.in-Ok-without_cells.ensures c.in-Ok.ensures c.in-Ok-room.ensures c.in-Ok-room-2.ensures c.in-Ok-room-3.ensures c.in-Ok-room-4.ensures c.in-Ok-room-5.ensures refl refl

pub returns : goal.returns
returns c =
    start_stored c.args.layout.now c.requires _ c.in-Ok-without_cells.ensures c.in-Ok.ensures c.in-Ok-room.ensures c.in-Ok-room-2.ensures c.in-Ok-room-3.ensures c.in-Ok-room-4.ensures c.in-Ok-room-5.ensures refl refl c.empty.ensures refl
