use Rattle.ci_names.proofs.Named as laws
use Rattle.ci_names.proofs.laws.faults_name_tokens.Goals as goal

pub returns : goal.returns
returns c = laws.faults_name_tokens
