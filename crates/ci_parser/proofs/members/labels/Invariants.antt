use Rattle.std.proofs.Common.{◌≡◌, ◌-◌, map}
use Rattle.ci_tree.specs.Seen.{label_of}
use Rattle.ci_expressions.specs.Gives.{kinds}
use Rattle.ci_parser.specs.Reading as reading
use Rattle.ci_parser.proofs.members.labels.Given as goal

abbrev pub invariant-loop : goal.invariant-loop
invariant-loop l =
    reading.with_front (map label_of l.labels) (reading.gather (reading.comma_step (reading.label (reading.expression l.free))) (l.end - l.counter) l.here.at (kinds l.here.left.now))
    ≡ reading.members (reading.label (reading.expression l.free)) l.fn.from.at (kinds l.fn.from.left.now)
