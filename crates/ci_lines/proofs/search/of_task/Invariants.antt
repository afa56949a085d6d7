use Rattle.std.proofs.Common.{◌≡◌, drop}
use Rattle.ci_lines.specs.Found.{waiter_of}
use Rattle.ci_lines.proofs.search.of_task.Given as goal

-- nobody passed so far is the task
abbrev pub invariant-loop-i : goal.invariant-loop-i
invariant-loop-i l = waiter_of l.task l.waiting.items ≡ waiter_of l.task (drop l.i l.waiting.items)
