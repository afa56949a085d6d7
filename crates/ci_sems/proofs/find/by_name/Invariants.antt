use Rattle.std.proofs.Common.{◌≡◌, drop}
use Rattle.ci_shared.specs.Semaphores.{semaphore_named}
use Rattle.ci_sems.proofs.find.by_name.Given as goal

-- none passed so far has the name
abbrev pub invariant-loop-i : goal.invariant-loop-i
invariant-loop-i l = semaphore_named l.text l.kept ≡ semaphore_named l.text (drop l.i l.kept)
