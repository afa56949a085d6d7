use Rattle.ci_task.proofs.Acts.{store_can, store_does}
use Rattle.ci_task.proofs.hot.store.Goals as goal

pub store_last-requires : goal.store_last-requires
store_last-requires c = store_can c.args.code.now c.args.local c.args.at c.args.stack.now c.requires

pub returns : goal.returns
returns c = store_does c.args.code.now c.args.local c.args.at c.args.stack.now c.store_last.new.self c.store_last.ensures
