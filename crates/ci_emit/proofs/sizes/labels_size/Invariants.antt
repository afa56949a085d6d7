use Rattle.std.proofs.Common.{◌≡◌, ◌+◌, ◌<◌, ◌^◌, drop, map}
use Rattle.ci_emit.specs.Pads.{word}
use Rattle.ci_tree.specs.SeenBound.{label_of, heads_of}
use Rattle.ci_translation.specs.Drafts as drafts
use Rattle.ci_emit.proofs.sizes.labels_size.Given as goal

abbrev pub invariant-loop-label : goal.invariant-loop-label
invariant-loop-label l =
    let heads = heads_of l.functions in
    record { small : l.size < 2 ^ 32; whole : word (l.size + drafts.labels_size (map (label_of heads) (drop l.label-index l.labels))) ≡ word (drafts.labels_size (map (label_of heads) l.labels)) }
