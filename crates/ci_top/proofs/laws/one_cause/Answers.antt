use Rattle.ci_top.proofs.Causes.{one_cause_lem}
use Rattle.ci_top.proofs.laws.one_cause.Goals as goal

pub returns : goal.returns
returns c = one_cause_lem c.one_meaning.ensures.one_fault c.one_meaning.ensures.never_both c.one_meaning.ensures.one_project c.one_serial.ensures
