use Rattle.std.proofs.Common.{arith}
use Rattle.ci_stack.proofs.Placing.{length-values}
use Rattle.ci_stack.proofs.table.Table.room.Goals as goal

pub returns-in-Ok-with_capacity : goal.returns-in-Ok-with_capacity
returns-in-Ok-with_capacity c = omega (arith, length-values c.resize.new.self.items c.in-Ok-with_capacity.texts.items, c.in-Ok.ensures.len)
