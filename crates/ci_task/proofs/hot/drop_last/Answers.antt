use Rattle.ci_task.proofs.Acts.{drop_can, drop_does}
use Rattle.ci_task.proofs.hot.drop_last.Goals as goal

pub take_off-requires : goal.take_off-requires
take_off-requires c = drop_can c.args.code.now c.args.at c.args.stack.now c.requires

pub returns : goal.returns
returns c = drop_does c.args.code.now c.args.at c.args.stack.now c.take_off.new.self c.take_off.ensures
