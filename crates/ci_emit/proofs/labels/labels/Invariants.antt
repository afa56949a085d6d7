use Rattle.std.proofs.Common.{drop, map}
use Rattle.ci_emit.proofs.Steps.{LabelsAt}
use Rattle.ci_emit.specs.Contexts.{context, heads}
use Rattle.ci_tree.specs.SeenBound.{label_of}
use Rattle.ci_emit.proofs.labels.labels.Given as goal

abbrev pub invariant-loop-one : goal.invariant-loop-one
invariant-loop-one l =
    LabelsAt (context l.parts l.function) l.subject l.body l.fn.writer l.writer (map (label_of (heads l.parts)) l.labels) (map (label_of (heads l.parts)) (drop l.one-index l.labels))
