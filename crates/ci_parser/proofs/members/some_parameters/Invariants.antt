use Rattle.std.proofs.Common.{◌≡◌, ◌-◌}
use Rattle.ci_expressions.specs.Gives.{kinds}
use Rattle.ci_parser.specs.Reading as reading
use Rattle.ci_parser.proofs.members.some_parameters.Given as goal

abbrev pub invariant-loop : goal.invariant-loop
invariant-loop l =
    reading.with_front l.params (reading.gather (reading.comma_step reading.parameter) (l.end - l.counter) l.here.at (kinds l.here.left.now))
    ≡ reading.members reading.parameter l.fn.from.at (kinds l.fn.from.left.now)
