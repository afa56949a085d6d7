use Rattle.std.proofs.Common.{length}
use Rattle.ci_lines.proofs.Turning.{Turning}
use Rattle.ci_lines.proofs.lines.Lines.turn_away.Given as goal

abbrev pub invariant-loop-task : goal.invariant-loop-task
invariant-loop-task l = Turning l.place l.initial.self l.initial.woken l.self l.woken

abbrev pub decreases-loop-task : goal.decreases-loop-task
decreases-loop-task l = length l.self
