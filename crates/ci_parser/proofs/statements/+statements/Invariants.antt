use Rattle.std.proofs.Common.{◌≡◌, ◌+◌, ◌*◌, ◌-◌, suc, length, map}
use Rattle.ci_tree.specs.Seen.{stmt_of, clause_of}
use Rattle.ci_expressions.specs.Gives.{kinds}
use Rattle.ci_parser.specs.Reading as reading
use Rattle.ci_parser.proofs.Bodies.{with_before, with_clauses}
use Rattle.ci_parser.proofs.statements.+statements.Given as goal

-- Inside a construct one level fewer is free; at one level, from the construct down to what opens the next.
abbrev pub decreases-selection : goal.decreases-selection
decreases-selection l = 16 * l.inside + 8

abbrev pub decreases-cases : goal.decreases-cases
decreases-cases l = 16 * l.inside + 7

abbrev pub decreases-cases_end : goal.decreases-cases_end
decreases-cases_end l = 16 * l.inside + 6

abbrev pub decreases-case_else : goal.decreases-case_else
decreases-case_else l = 16 * l.inside + 5

abbrev pub decreases-clause : goal.decreases-clause
decreases-clause l = 16 * l.inside + 5

abbrev pub decreases-choice : goal.decreases-choice
decreases-choice l = 16 * l.inside + 7

abbrev pub decreases-branches : goal.decreases-branches
decreases-branches l = 16 * l.inside + 6

abbrev pub decreases-else_part : goal.decreases-else_part
decreases-else_part l = 16 * l.inside + 5

abbrev pub decreases-repetition : goal.decreases-repetition
decreases-repetition l = 16 * l.inside + 6

abbrev pub decreases-ended_body : goal.decreases-ended_body
decreases-ended_body l = 16 * l.inside + 5

abbrev pub decreases-count : goal.decreases-count
decreases-count l = 16 * l.inside + 6

abbrev pub decreases-behind_word : goal.decreases-behind_word
decreases-behind_word l = 16 * l.inside + 9

abbrev pub decreases-opened : goal.decreases-opened
decreases-opened l = 16 * l.free + 1

abbrev pub decreases-statement : goal.decreases-statement
decreases-statement l = 16 * l.free + 3

abbrev pub decreases-body : goal.decreases-body
decreases-body l = 16 * l.free + 4

abbrev pub invariant-body-loop : goal.invariant-body-loop
invariant-body-loop l =
    with_before (map stmt_of l.found) (reading.statements (reading.expression l.free) (reading.inside_of l.free) (l.end - l.counter) l.here.at (kinds l.here.left.now))
    ≡ reading.body l.free l.fn.from.at (kinds l.fn.from.left.now)

abbrev pub invariant-cases-loop : goal.invariant-cases-loop
invariant-cases-loop l =
    with_clauses (map clause_of l.clauses) (reading.cases (reading.within l.inside) (l.end - l.counter) l.here.at (kinds l.here.left.now))
    ≡ reading.cases (reading.within l.inside) (suc (length (kinds l.fn.from.left.now))) l.fn.from.at (kinds l.fn.from.left.now)
