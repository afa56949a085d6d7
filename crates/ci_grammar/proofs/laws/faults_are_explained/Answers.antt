use Rattle.ci_grammar.proofs.Explained.{faults_are_explained}
use Rattle.ci_grammar.proofs.laws.faults_are_explained.Goals as goal

pub returns : goal.returns
returns c = faults_are_explained c.unexpected_is_wrong.ensures c.too_deep_wants_level.ensures c.end_is_cut_short.ensures
