use Rattle.ci_names.proofs.Ordered as laws
use Rattle.ci_names.proofs.laws.faults_in_order.Goals as goal

pub returns-clause-order : goal.returns-clause-order
returns-clause-order c = laws.faults_are_in_order

pub returns-clause-first : goal.returns-clause-first
returns-clause-first c = laws.first_is_least
