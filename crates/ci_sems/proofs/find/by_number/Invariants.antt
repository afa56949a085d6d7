use Rattle.std.proofs.Common.{◌≡◌, take, None}
use Rattle.ci_shared.specs.Semaphores.{semaphore_of}
use Rattle.ci_sems.proofs.find.by_number.Given as goal

-- none passed so far has the number
abbrev pub invariant-loop-i : goal.invariant-loop-i
invariant-loop-i l = semaphore_of l.number (take l.i l.kept) ≡ None
