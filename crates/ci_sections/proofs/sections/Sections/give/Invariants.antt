use Rattle.std.proofs.Common.{◌-◌, length}
use Rattle.ci_sections.specs.Picked.{picks}
use Rattle.ci_sections.proofs.Handing.{Giving}
use Rattle.ci_sections.proofs.sections.Sections.give.Given as goal

abbrev pub invariant-loop-at : goal.invariant-loop-at
invariant-loop-at l = Giving (picks l.given) l.initial.self l.initial.lines l.initial.woken l.at l.self l.lines l.woken

abbrev pub decreases-loop-at : goal.decreases-loop-at
decreases-loop-at l = length l.self - l.at
