use Rattle.ci_names.proofs.Whole as laws
use Rattle.ci_names.proofs.laws.bound_is_sound.Goals as goal

pub returns : goal.returns
returns c = laws.bound_is_sound
