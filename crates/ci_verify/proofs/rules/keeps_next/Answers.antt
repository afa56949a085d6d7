use Rattle.ci_verify.specs.Kinds.{after_of}
use Rattle.ci_verify.specs.Rules.{GoesOn}
use Rattle.ci_verify.specs.Ways.{way_of}
use Rattle.ci_verify.proofs.Places.{at_shape}
use Rattle.ci_verify.proofs.rules.keeps_next.Goals as goal

pub returns-in-Some : goal.returns-in-Some
returns-in-Some c = at_shape c.args.code.now c.args.function.now c.args.place (λ s before. GoesOn c.args.code.now c.args.function.now c.args.place (after_of c.args.code.now c.args.function.now before s.what) (way_of s.what)) c.in-Some.step c.in-Some.before.now c.goes_on_behind.result c.in-Some.ensures c.goes_on_behind.ensures
