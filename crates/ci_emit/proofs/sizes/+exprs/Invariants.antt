use Rattle.std.proofs.Common.{◌≡◌, ◌+◌, ◌<◌, ◌^◌, drop}
use Rattle.ci_emit.specs.Pads.{word}
use Rattle.ci_tree.specs.SeenBound.{exprs_of, links_of, heads_of}
use Rattle.ci_translation.specs.Drafts as drafts
use Rattle.ci_emit.proofs.sizes.+exprs.Given as goal

abbrev pub invariant-args_size-loop-arg : goal.invariant-args_size-loop-arg
invariant-args_size-loop-arg l =
    let heads = heads_of l.functions in
    record { small : l.size < 2 ^ 32; whole : word (l.size + drafts.args_size (exprs_of heads (drop l.arg-index l.args))) ≡ word (drafts.args_size (exprs_of heads l.args)) }

abbrev pub invariant-links_size-loop-member : goal.invariant-links_size-loop-member
invariant-links_size-loop-member l =
    let heads = heads_of l.functions in
    record { small : l.size < 2 ^ 32; whole : word (l.size + drafts.links_size (links_of heads (drop l.member-index l.rest))) ≡ word (drafts.links_size (links_of heads l.rest)) }
