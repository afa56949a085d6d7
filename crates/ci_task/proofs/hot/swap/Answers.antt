use Rattle.ci_task.proofs.Acts.{swap_can, swap_does}
use Rattle.ci_task.proofs.hot.swap.Goals as goal

pub swap_last-requires : goal.swap_last-requires
swap_last-requires c = swap_can c.args.code.now c.args.at c.args.stack.now c.requires

pub returns : goal.returns
returns c = swap_does c.args.code.now c.args.at c.args.stack.now c.swap_last.new.self c.swap_last.ensures
