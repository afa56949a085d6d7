use Rattle.std.proofs.Common.{subst}
use Rattle.ci_code.specs.declared.instruction.Instruction.{Instruction}
use Rattle.ci_task.specs.Moved.{Asking}
use Rattle.ci_task.proofs.request.request.Goals as goal

pub returns-in-ReadCell : goal.returns-in-ReadCell
returns-in-ReadCell c = λ q asks. c.cell_read.ensures q (subst (λ (w : Instruction). Asking c.args.code.now w c.args.stack.now q) c.in-ReadCell.is asks)

pub returns-in-WriteCell : goal.returns-in-WriteCell
returns-in-WriteCell c = λ q asks. c.cell_written.ensures q (subst (λ (w : Instruction). Asking c.args.code.now w c.args.stack.now q) c.in-WriteCell.is asks)

pub returns-in-ReadAt : goal.returns-in-ReadAt
returns-in-ReadAt c = λ q asks. c.element_read.ensures q (subst (λ (w : Instruction). Asking c.args.code.now w c.args.stack.now q) c.in-ReadAt.is asks)

pub returns-in-WriteAt : goal.returns-in-WriteAt
returns-in-WriteAt c = λ q asks. c.element_written.ensures q (subst (λ (w : Instruction). Asking c.args.code.now w c.args.stack.now q) c.in-WriteAt.is asks)

pub returns-in-Ask : goal.returns-in-Ask
returns-in-Ask c = λ q asks. c.shared.ensures q (subst (λ (w : Instruction). Asking c.args.code.now w c.args.stack.now q) c.in-Ask.is asks)
