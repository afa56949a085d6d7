use Rattle.std.proofs.Common.{length}
use Rattle.ci_store.proofs.Ticking.{Ticking}
use Rattle.ci_store.proofs.clock.answer_due.Given as goal

abbrev pub invariant-loop-task : goal.invariant-loop-task
invariant-loop-task l = Ticking l.now l.initial.lines l.initial.woken l.lines l.woken

abbrev pub decreases-loop-task : goal.decreases-loop-task
decreases-loop-task l = length l.lines
