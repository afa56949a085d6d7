use Rattle.std.proofs.Common.{◌+◌, drop}
use Rattle.ci_scopes.specs.Seen.{scope_of}
use Rattle.ci_bodies.proofs.LabelSteps.{labels_more}
use Rattle.ci_bodies.proofs.Loops.{next}
use Rattle.ci_bodies.proofs.labels.labels.Goals as goal

pub loop-one-preserved : goal.loop-one-preserved
loop-one-preserved c =
    let i = c.loop-one.one-index in
    let all = c.args.labels.now in
    labels_more (scope_of c.args.scope.now) c.args.subject c.loop-one.made c.push.new.items c.in_ok-bound.bound c.loop-one.found c.label.new.found (drop i all) (drop (i + 1) all) c.one-item.result
    c.args.found.now all c.in_ok-push.ensures c.in_ok-bound.ensures.tree c.in_ok-bound.ensures.found
    (next all i c.one-item.result c.one-item.is c.loop-one-test.true) c.loop-one.invariant
