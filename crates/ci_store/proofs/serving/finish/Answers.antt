use Rattle.ci_store.proofs.Asking.{asker}
use Rattle.ci_store.proofs.serving.finish.Goals as goal

pub end-requires-clause-live : goal.end-requires-clause-live
end-requires-clause-live c = (asker c.args.parts.now c.args.task c.requires.clear.sound c.requires.asker).live
