use Rattle.ci_names.proofs.Free as laws
use Rattle.ci_names.proofs.laws.kind_or_fault.Goals as goal

pub returns-clause-kind : goal.returns-clause-kind
returns-clause-kind c = laws.kind_means_no_fault

pub returns-clause-no_kind : goal.returns-clause-no_kind
returns-clause-no_kind c = laws.no_kind_means_fault
