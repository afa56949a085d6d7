use Rattle.ci_runtime.proofs.Back
use Rattle.ci_runtime.proofs.laws.code_leads_tree.Goals as goal

pub returns : goal.returns
returns c = Back.code_leads_tree
