use Rattle.std.proofs.Common.{◌+◌, ◌*◌, max, drop}
use Rattle.ci_scopes.specs.Seen.{scope_of}
use Rattle.ci_bodies.proofs.BodySteps.{BodyAt, ClausesAt}
use Rattle.ci_bodies.proofs.Depths.{other_depth}
use Rattle.ci_bodies.proofs.bodies.+bodies.Given as goal

-- From a statement to its parts the tree is less deep; otherwise it may stay as deep, and the last number falls.
abbrev pub decreases-statement : goal.decreases-statement
decreases-statement l = 8 * goal.size-statement l

abbrev pub decreases-body : goal.decreases-body
decreases-body l = 8 * goal.size-body l + 1

abbrev pub decreases-otherwise : goal.decreases-otherwise
decreases-otherwise l = 8 * other_depth l.other.now + 2

abbrev pub decreases-else_part : goal.decreases-else_part
decreases-else_part l = 8 * other_depth l.other.now + 2

abbrev pub decreases-repetition : goal.decreases-repetition
decreases-repetition l = 8 * goal.size-repetition l + 2

abbrev pub decreases-iteration : goal.decreases-iteration
decreases-iteration l = 8 * goal.size-iteration l + 2

abbrev pub decreases-choice : goal.decreases-choice
decreases-choice l = 8 * max (goal.size-choice l) (other_depth l.other.now) + 3

abbrev pub decreases-clause : goal.decreases-clause
decreases-clause l = 8 * goal.size-clause l + 2

abbrev pub decreases-clauses : goal.decreases-clauses
decreases-clauses l = 8 * goal.size-clauses l + 3

abbrev pub decreases-selection : goal.decreases-selection
decreases-selection l = 8 * max (goal.size-selection l) (other_depth l.other.now) + 4

abbrev pub invariant-body-loop-stmt : goal.invariant-body-loop-stmt
invariant-body-loop-stmt l = BodyAt (scope_of l.scope) l.made l.found (drop l.stmt-index l.body) (scope_of l.fn.scope) l.fn.found l.body

abbrev pub invariant-clauses-loop-one : goal.invariant-clauses-loop-one
invariant-clauses-loop-one l = ClausesAt (scope_of l.scope) l.subject l.made l.found (drop l.one-index l.clauses) (scope_of l.fn.scope) l.fn.found l.clauses
