use Rattle.std.proofs.Common.{◌-◌}
use Rattle.ci_runtime.specs.Desks.{IsSame, state, work_of}
use Rattle.ci_runtime.specs.Runs.{RoundsFrom}
use Rattle.ci_runtime.proofs.rounds.finish.Given as goal

abbrev pub invariant-loop-desk : goal.invariant-loop-desk
invariant-loop-desk l = record {
  same : IsSame (state l.fn.desk) (state l.desk);
  so_far : RoundsFrom (state l.fn.desk) (state l.desk);
}

abbrev pub decreases-loop-desk : goal.decreases-loop-desk
decreases-loop-desk l = l.desk.limits.budget - work_of (state l.desk)
