use Rattle.std.proofs.Common.{◌≡◌, ◌+◌, ◌<◌, ◌^◌, drop}
use Rattle.ci_emit.specs.Pads.{word}
use Rattle.ci_tree.specs.SeenBound.{clauses_of, block_of, heads_of}
use Rattle.ci_translation.specs.Drafts as drafts
use Rattle.ci_emit.proofs.sizes.+stmts.Given as goal

abbrev pub invariant-clauses_size-loop-clause : goal.invariant-clauses_size-loop-clause
invariant-clauses_size-loop-clause l =
    let heads = heads_of l.functions in
    record { small : l.size < 2 ^ 32; whole : word (l.size + drafts.clauses_size (clauses_of heads (drop l.clause-index l.clauses))) ≡ word (drafts.clauses_size (clauses_of heads l.clauses)) }

abbrev pub invariant-block_size-loop-stmt : goal.invariant-block_size-loop-stmt
invariant-block_size-loop-stmt l =
    let heads = heads_of l.functions in
    record { small : l.size < 2 ^ 32; whole : word (l.size + drafts.block_size (block_of heads (drop l.stmt-index l.body))) ≡ word (drafts.block_size (block_of heads l.body)) }
