use Rattle.std.proofs.Common.{arith}
use Rattle.ci_shared.proofs.Lines.{once_none}
use Rattle.ci_lines.proofs.lines.Lines.room.Goals as goal

pub invariant_of-result : goal.invariant_of-result
invariant_of-result c = (omega (arith, c.in-Ok.ensures.exact), rw c.in-Ok.ensures.items once_none)
