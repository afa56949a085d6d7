use Rattle.std.proofs.Common.{◌≡◌, ◌-◌, map}
use Rattle.ci_tree.specs.Seen.{local_of}
use Rattle.ci_expressions.specs.Gives.{kinds}
use Rattle.ci_parser.specs.Reading as reading
use Rattle.ci_parser.proofs.members.locals.Given as goal

abbrev pub invariant-loop : goal.invariant-loop
invariant-loop l =
    reading.with_front (map local_of l.locals) (reading.gather (reading.comma_step (reading.local (reading.expression l.free))) (l.end - l.counter) l.here.at (kinds l.here.left.now))
    ≡ reading.members (reading.local (reading.expression l.free)) l.fn.from.at (kinds l.fn.from.left.now)
