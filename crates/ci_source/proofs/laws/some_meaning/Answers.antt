use Rattle.ci_source.proofs.SomeMeaning.{have_meanings}
use Rattle.ci_source.proofs.laws.some_meaning.Goals as goal

pub returns : goal.returns
returns c = have_meanings c.one_reading.ensures.some c.tree_or_refused.ensures c.first_is_noted.ensures
