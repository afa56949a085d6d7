use Rattle.std.proofs.Common.{◌+◌, drop, map, ap}
use Rattle.std.proofs.lemmas.List.{drop_all}
use Rattle.ci_tree.specs.SeenBound.{label_of}
use Rattle.ci_emit.specs.Contexts.{context, heads}
use Rattle.ci_emit.proofs.Loops.{next}
use Rattle.ci_emit.proofs.Steps.{labels_next, labels_done}
use Rattle.ci_emit.proofs.labels.labels.Goals as goal

pub loop-one-init : goal.loop-one-init
loop-one-init c = record { goes = λ z e x h. h }

pub loop-one-preserved : goal.loop-one-preserved
loop-one-preserved c =
    let i = c.loop-one.one-index in
    let all = c.args.labels.now in
    let seen = label_of (heads c.args.parts.now) in
    labels_next (context c.args.parts.now c.args.function.now) c.args.subject c.args.body c.args.writer.now c.loop-one.writer c.label.new.writer (map seen all) (map seen (drop i all)) (seen c.one-item.result) (map seen (drop (i + 1) all))
    (ap (map seen) (next all i c.one-item.result c.one-item.is c.loop-one-test.true)) c.in_ok-label.ensures c.loop-one.invariant

pub returns : goal.returns
returns c z e =
    let seen = label_of (heads c.args.parts.now) in
    labels_done (context c.args.parts.now c.args.function.now) c.args.subject c.args.body c.args.writer.now c.loop-one.writer (map seen c.args.labels.now) (map seen (drop c.loop-one.one-index c.args.labels.now))
    (ap (map seen) (drop_all c.loop-one.one-index c.args.labels.now c.loop-one-test.false)) c.loop-one.invariant z e
