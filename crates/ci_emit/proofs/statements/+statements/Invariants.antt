use denote.Param.Weighed.{most}
use Rattle.std.proofs.Common.{◌+◌, ◌*◌, max, drop}
use Rattle.ci_tree.proofs.bound.Stmt.TheLaws.{the_size}
use Rattle.ci_emit.proofs.Steps.{BlockAt, ClausesAt}
use Rattle.ci_emit.specs.Contexts.{context, heads}
use Rattle.ci_tree.specs.SeenBound.{block_of, clauses_of}
use Rattle.ci_emit.proofs.statements.+statements.Given as goal

abbrev pub invariant-block-loop-stmt : goal.invariant-block-loop-stmt
invariant-block-loop-stmt l =
    BlockAt (context l.parts l.function) l.fn.writer l.writer (block_of (heads l.parts) l.body) (block_of (heads l.parts) (drop l.stmt-index l.body))

abbrev pub invariant-clauses-loop-case : goal.invariant-clauses-loop-case
invariant-clauses-loop-case l =
    ClausesAt (context l.parts l.function) l.subject l.end l.fn.writer l.writer (clauses_of (heads l.parts) l.cases) (clauses_of (heads l.parts) (drop l.case-index l.cases))

-- From a statement to its parts the tree is less deep; otherwise it may stay as deep, and the last number falls.
abbrev pub decreases-statement : goal.decreases-statement
decreases-statement l = 8 * goal.size-statement l

abbrev pub decreases-block : goal.decreases-block
decreases-block l = 8 * goal.size-block l + 1

abbrev pub decreases-otherwise : goal.decreases-otherwise
decreases-otherwise l = 8 * goal.size-otherwise l + 2

abbrev pub decreases-choice : goal.decreases-choice
decreases-choice l = 8 * goal.size-choice l + 2

abbrev pub decreases-choice_of_two : goal.decreases-choice_of_two
decreases-choice_of_two l = 8 * max (goal.size-choice_of_two l) (most the_size l.last.now) + 3

abbrev pub decreases-repetition : goal.decreases-repetition
decreases-repetition l = 8 * goal.size-repetition l + 2

abbrev pub decreases-iteration : goal.decreases-iteration
decreases-iteration l = 8 * goal.size-iteration l + 3

abbrev pub decreases-rounds : goal.decreases-rounds
decreases-rounds l = 8 * most the_size l.body.now + 2

abbrev pub decreases-selection : goal.decreases-selection
decreases-selection l = 8 * max (goal.size-selection l) (most the_size l.last.now) + 4

abbrev pub decreases-clauses : goal.decreases-clauses
decreases-clauses l = 8 * goal.size-clauses l + 3

abbrev pub decreases-clause : goal.decreases-clause
decreases-clause l = 8 * goal.size-clause l + 2
