-- Where a function goes on behind an instruction.
use Rattle.ci_code.specs.declared.instruction.Instruction.{Instruction}
use Rattle.ci_code.specs.declared.instruction.Instruction.TheVariants as does
use Rattle.ci_verify.specs.declared.way.Way.{Way}
use Rattle.ci_verify.specs.declared.way.Way.TheVariants.{Next, To, Branch, Ends}

abbrev pub way_of : Instruction → Way
way_of (does.Jump to) = To to
way_of (does.JumpIfZero to) = Branch to
way_of does.Return = Ends
way_of _ = Next
