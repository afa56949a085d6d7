use Rattle.std.proofs.Common.{◌≡◌, ◌≤◌, ◌∙◌, ap, sym, arith, refl, subst}
use Rattle.ci_base.specs.declared.task.Delivery.{Delivery}
use Rattle.ci_runtime.specs.Seats.{ResumedAt}
use Rattle.ci_runtime.proofs.Placing.{delivered_more}
use Rattle.ci_runtime.proofs.settle.deliver.Goals as goal

pub loop-delivery-preserved : goal.loop-delivery-preserved
loop-delivery-preserved c =
    let i = c.loop-delivery.invariant in
    record {
      done = delivered_more _ _ _ _ _ _ c.loop-delivery-test.true i.done (subst (λ (d : Delivery). ResumedAt d.task d.answer c.loop-delivery.seats c.resume.new.self) c.delivery-item.is c.resume.ensures);
      long = c.resume.ensures.changed.long ∙ i.long;
      few = omega (arith, i.few, c.resume.ensures.changed.few);
    }
