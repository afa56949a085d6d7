use Rattle.ci_verify.proofs.Sound.{verified_is_sound}
use Rattle.ci_verify.proofs.laws.verified_is_sound.Goals as goal

pub returns : goal.returns
returns c = verified_is_sound
