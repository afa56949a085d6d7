use Rattle.std.proofs.Common.{◌+◌, drop}
use Rattle.ci_scopes.specs.Seen.{scope_of}
use Rattle.ci_bodies.proofs.LocalSteps.{locals_more}
use Rattle.ci_bodies.proofs.Loops.{next}
use Rattle.ci_bodies.proofs.locals.locals.Goals as goal

pub loop-one-preserved : goal.loop-one-preserved
loop-one-preserved c =
    let i = c.loop-one.one-index in
    let all = c.args.locals.now in
    locals_more (scope_of c.loop-one.scope) (scope_of c.local.new.scope) c.loop-one.into c.local.new.into c.loop-one.found c.local.new.found c.args.kind (drop i all) (drop (i + 1) all) c.one-item.result
    (scope_of c.args.scope.now) c.args.into.now c.args.found.now all c.in_ok-local.ensures.tree c.in_ok-local.ensures.found c.in_ok-local.ensures.scope
    (next all i c.one-item.result c.one-item.is c.loop-one-test.true) c.loop-one.invariant
