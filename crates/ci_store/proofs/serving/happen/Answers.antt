use Rattle.ci_shared.specs.Serving.{script}
use Rattle.ci_store.specs.Stored.{basis_in, shared_of}
use Rattle.ci_store.proofs.serving.happen.Goals as goal

pub returns : goal.returns
returns c = record {
  reply_is = c.told.ensures (script (basis_in c.args.parts.now) (shared_of c.args.parts.now) c.args.event.now).reply c.answer_event.ensures.answer_is;
  leaves = c.answer_event.ensures.leaves;
}
