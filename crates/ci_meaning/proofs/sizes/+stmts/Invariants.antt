use Rattle.std.proofs.Common.{◌≡◌, drop}
use Rattle.std.specs.Prelude.{max}
use Rattle.ci_tree.specs.Rooms.{clauses_width, block_width}
use Rattle.ci_tree.specs.SeenBound.{clauses_of, block_of, heads_of}
use Rattle.ci_meaning.proofs.sizes.+stmts.Given as goal

abbrev pub invariant-clauses_width-loop-clause : goal.invariant-clauses_width-loop-clause
invariant-clauses_width-loop-clause l =
    let heads = heads_of l.project.functions in
    max l.widest (clauses_width (clauses_of heads (drop l.clause-index l.clauses))) ≡ clauses_width (clauses_of heads l.clauses)

abbrev pub invariant-block_width-loop-stmt : goal.invariant-block_width-loop-stmt
invariant-block_width-loop-stmt l =
    let heads = heads_of l.project.functions in
    max l.widest (block_width (block_of heads (drop l.stmt-index l.body))) ≡ block_width (block_of heads l.body)
