use Rattle.std.proofs.Common.{◌≡◌, ◌++◌, take}
use Rattle.ci_task.proofs.machine.push_all.Given as goal

abbrev pub invariant-loop-value : goal.invariant-loop-value
invariant-loop-value l = l.stack ≡ l.fn.stack ++ take l.value-index l.values
