use Rattle.std.proofs.Common.{◌≡◌, take, drop}
use Rattle.ci_task.proofs.outcomes.last_values.Given as goal

abbrev pub invariant-loop-i : goal.invariant-loop-i
invariant-loop-i l = l.values.items ≡ take l.i (drop l.base l.stack)
