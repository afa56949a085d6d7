use Rattle.std.proofs.Common.{◌≡◌, ◌-◌, map}
use Rattle.ci_tree.specs.Seen.{item_of}
use Rattle.ci_expressions.specs.Gives.{kinds}
use Rattle.ci_parser.specs.Reading as reading
use Rattle.ci_parser.proofs.members.some_variables.Given as goal

abbrev pub invariant-loop : goal.invariant-loop
invariant-loop l =
    reading.with_front (map item_of l.variables) (reading.gather (reading.comma_step (reading.var l.global l.kind)) (l.end - l.counter) l.here.at (kinds l.here.left.now))
    ≡ reading.members (reading.var l.global l.kind) l.fn.from.at (kinds l.fn.from.left.now)
