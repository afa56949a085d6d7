use Rattle.std.proofs.Common.{◌+◌, ◌∙◌, List, sym, ap, subst, drop}
use Rattle.ci_tasktab.specs.declared.slot.Slot.{Slot}
use Rattle.ci_store.proofs.Placed.{one_freed}
use Rattle.ci_store.specs.Done.{AllLive, freed}
use Rattle.ci_store.proofs.parts.free.Goals as goal

pub set_waits-requires : goal.set_waits-requires
set_waits-requires c = (one_freed c.args.woken.now c.loop-i.i c.index-woken-i.result c.loop-i.tasks c.loop-i-test.true c.loop-i.invariant.live).0

pub loop-i-preserved : goal.loop-i-preserved
loop-i-preserved c =
    let one = one_freed c.args.woken.now c.loop-i.i c.index-woken-i.result c.loop-i.tasks c.loop-i-test.true c.loop-i.invariant.live in
    record {
      live = subst (λ (xs : List Slot). AllLive (drop (c.loop-i.i + 1) c.args.woken.now) xs) (sym c.set_waits.ensures) one.1;
      rest = ap (λ (xs : List Slot). freed (drop (c.loop-i.i + 1) c.args.woken.now) xs) c.set_waits.ensures ∙ one.2 ∙ c.loop-i.invariant.rest;
    }
