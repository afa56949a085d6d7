use Rattle.std.proofs.Common.{take}
use Rattle.std.specs.Prelude.{All}
use Rattle.ci_assembly.specs.Parts.{IsHead}
use Rattle.ci_assembly.proofs.heads.are_heads.Given as goal

abbrev pub invariant-loop-head : goal.invariant-loop-head
invariant-loop-head l = All IsHead (take l.head-index l.heads)
