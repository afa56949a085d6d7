use Rattle.std.proofs.Common.{◌≤◌, ◌-◌}
use Rattle.ci_runtime.specs.Desks.{IsSame, CanGoOn, work_of, state}
use Rattle.ci_runtime.proofs.Rounding.{TurnSoFar}
use Rattle.ci_runtime.proofs.desk.Desk.turn.Given as goal

abbrev pub invariant-loop-rest : goal.invariant-loop-rest
invariant-loop-rest l = record {
  same : IsSame (state l.fn.self) (state l.self);
  can : CanGoOn (state l.self) l.task l.left;
  so_far : TurnSoFar (state l.fn.self) l.task l.fn.self.limits.slice (state l.self) l.left;
  grew : work_of (state l.fn.self) ≤ work_of (state l.self);
}

abbrev pub decreases-loop-rest : goal.decreases-loop-rest
decreases-loop-rest l = l.self.limits.budget - work_of (state l.self)
