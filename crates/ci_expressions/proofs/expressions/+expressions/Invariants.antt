use Rattle.std.proofs.Common.{◌≡◌, ◌≤◌, ◌+◌, ◌*◌, ◌-◌, length, map}
use Rattle.std.specs.Prelude.{Ok}
use Rattle.ci_tree.specs.Seen.{expr_of, link_of}
use Rattle.ci_expressions.specs.Gives.{kinds}
use Rattle.ci_expressions.specs.Reading as reading
use Rattle.ci_expressions.proofs.expressions.+expressions.Given as goal

-- Each call inside a level that it opens has one level fewer; at one level, from the loosest group to the name alone.
abbrev pub decreases-arguments : goal.decreases-arguments
decreases-arguments l = 128 * l.free + 72

abbrev pub decreases-some_arguments : goal.decreases-some_arguments
decreases-some_arguments l = 128 * l.free + 71

abbrev pub decreases-argument : goal.decreases-argument
decreases-argument l = 128 * l.free + 70

abbrev pub decreases-expression : goal.decreases-expression
decreases-expression l = 128 * l.free + 69

abbrev pub decreases-called : goal.decreases-called
decreases-called l = 128 * l.inside + 73

abbrev pub decreases-call_at : goal.decreases-call_at
decreases-call_at l = 128 * l.free

abbrev pub decreases-chain_behind : goal.decreases-chain_behind
decreases-chain_behind l = 128 * l.free + 8 * l.group + 8

abbrev pub decreases-rest : goal.decreases-rest
decreases-rest l = 128 * l.free + 8 * l.group + 7

abbrev pub decreases-links : goal.decreases-links
decreases-links l = 128 * l.free + 8 * l.group + 6

abbrev pub decreases-one_link : goal.decreases-one_link
decreases-one_link l = 128 * l.free + 8 * l.group + 5

abbrev pub decreases-level : goal.decreases-level
decreases-level l = 128 * l.free + 8 * l.group + 4

abbrev pub decreases-unary : goal.decreases-unary
decreases-unary l = 128 * l.free + 3

abbrev pub decreases-member : goal.decreases-member
decreases-member l = 128 * l.free + 2

abbrev pub decreases-named : goal.decreases-named
decreases-named l = 128 * l.free + 1

abbrev pub invariant-level-loop-lower : goal.invariant-level-loop-lower
invariant-level-loop-lower l =
    (l.lower ≤ l.group) × (reading.level_on (reading.unary l.free) l.lower l.here.at (kinds l.here.left.now) ≡ Ok (expr_of l.first, l.behind.at, kinds l.behind.left.now))

abbrev pub decreases-level-loop-lower : goal.decreases-level-loop-lower
decreases-level-loop-lower l = l.group - l.lower

abbrev pub invariant-links-loop : goal.invariant-links-loop
invariant-links-loop l =
    reading.with_front (map link_of l.links) (reading.gather (reading.link_at (reading.level_on (reading.unary l.free) l.group) l.group) (l.end - l.counter) l.here.at (kinds l.here.left.now))
    ≡ reading.gather (reading.link_at (reading.level_on (reading.unary l.free) l.group) l.group) (length (kinds l.fn.from.left.now)) l.fn.from.at (kinds l.fn.from.left.now)

abbrev pub invariant-some_arguments-loop : goal.invariant-some_arguments-loop
invariant-some_arguments-loop l =
    reading.with_front (map expr_of l.args) (reading.gather (reading.comma_step (reading.expression l.free)) (l.end - l.counter) l.here.at (kinds l.here.left.now))
    ≡ reading.members (reading.expression l.free) l.fn.from.at (kinds l.fn.from.left.now)
