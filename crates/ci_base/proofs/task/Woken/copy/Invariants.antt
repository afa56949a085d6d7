use Rattle.std.proofs.Common.{◌≡◌, take}
use Rattle.ci_base.proofs.task.Woken.copy.Given as goal

abbrev pub invariant-loop-delivery : goal.invariant-loop-delivery
invariant-loop-delivery l = l.copy ≡ take l.delivery-index l.delivery-items
