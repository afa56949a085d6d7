use Rattle.ci_tasktab.proofs.Placing.{set_there}
use Rattle.ci_tasktab.specs.Slots.{with_status}
use Rattle.ci_tasktab.proofs.slot.set_status.Goals as goal

pub returns-clause-items : goal.returns-clause-items
returns-clause-items c = set_there (with_status c.args.status) c.args.slots.now.items c.args.task c.index_mut-slot.result.now c.requires.least c.requires.most c.index_mut-slot.ensures.value
