use Rattle.std.proofs.Common.{◌≡◌, drop, map}
use Rattle.std.specs.Prelude.{max}
use Rattle.ci_tree.specs.Rooms.{labels_width}
use Rattle.ci_tree.specs.SeenBound.{label_of, heads_of}
use Rattle.ci_meaning.proofs.sizes.labels_width.Given as goal

abbrev pub invariant-loop-label : goal.invariant-loop-label
invariant-loop-label l =
    let heads = heads_of l.project.functions in
    max l.widest (labels_width (map (label_of heads) (drop l.label-index l.labels))) ≡ labels_width (map (label_of heads) l.labels)
