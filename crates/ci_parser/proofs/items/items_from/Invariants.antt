use Rattle.std.proofs.Common.{◌≡◌, ◌-◌, length}
use Rattle.ci_tree.specs.Seen.{items_of}
use Rattle.ci_expressions.specs.Gives.{kinds}
use Rattle.ci_parser.specs.Reading as reading
use Rattle.ci_parser.proofs.items.items_from.Given as goal

abbrev pub invariant-loop : goal.invariant-loop
invariant-loop l =
    reading.items_with (items_of l.items) (reading.items l.free (l.end - l.counter) l.here.at (kinds l.here.left.now))
    ≡ reading.items l.free (length (kinds l.fn.from.left.now)) l.fn.from.at (kinds l.fn.from.left.now)
