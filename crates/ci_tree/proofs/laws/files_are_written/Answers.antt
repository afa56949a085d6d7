use Rattle.ci_tree.proofs.Written as laws
use Rattle.ci_tree.proofs.laws.files_are_written.Goals as goal

pub returns : goal.returns
returns c = laws.written_tree
