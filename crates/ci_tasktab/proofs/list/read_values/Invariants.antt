use Rattle.std.proofs.Common.{◌≡◌, ◌+◌, length}
use Rattle.ci_base.specs.declared.bounds.TheConstants.{MOST_PARAMETERS}
use Rattle.ci_shared.specs.Arguments.{values_in}
use Rattle.ci_tasktab.proofs.Reading.{behind}
use Rattle.ci_tasktab.proofs.list.read_values.Given as goal

abbrev pub invariant-loop-left : goal.invariant-loop-left
invariant-loop-left l = record {
  room : length l.args + l.left ≡ MOST_PARAMETERS;
  rest : behind l.args (values_in l.left l.rest) ≡ values_in MOST_PARAMETERS l.list;
}

abbrev pub decreases-loop-left : goal.decreases-loop-left
decreases-loop-left l = l.left
