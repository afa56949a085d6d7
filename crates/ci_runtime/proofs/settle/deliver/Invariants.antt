use Rattle.std.proofs.Common.{◌≡◌, ◌≤◌, take, length, count_by}
use Rattle.ci_runtime.specs.Seats.{is_taken, Delivered}
use Rattle.ci_runtime.proofs.settle.deliver.Given as goal

abbrev pub invariant-loop-delivery : goal.invariant-loop-delivery
invariant-loop-delivery l = record {
  done : Delivered (take l.delivery-index l.deliveries) l.fn.seats l.seats;
  long : length l.seats ≡ length l.fn.seats;
  few : count_by is_taken l.seats ≤ count_by is_taken l.fn.seats;
}
