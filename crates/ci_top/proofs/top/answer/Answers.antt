use Rattle.ci_top.proofs.top.answer.Goals as goal

pub returns-clause-answer : goal.returns-clause-answer
returns-clause-answer g c =
    let decided = c.decide-decision.ensures.decided in
    record {
      cause = decided.cause;
      holds = rw c.keep.ensures.kept decided.holds;
      delivers = rw (c.keep.ensures.status, c.keep.ensures.kept, ← decided.text_is, ← decided.status_is) c.deliver-status.ensures;
    }
