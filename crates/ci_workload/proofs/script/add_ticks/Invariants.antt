use Rattle.std.proofs.Common.{◌≡◌, ◌+◌, ◌*◌, ◌≤◌, ◌++◌, length}
use Rattle.std.specs.List.{flat_map}
use Rattle.ci_workload.specs.Workload.{numbers, tick_line}
use Rattle.ci_workload.proofs.script.add_ticks.Given as goal

abbrev pub invariant-loop-earlier : goal.invariant-loop-earlier
invariant-loop-earlier l = record {
  value : l.text ≡ l.initial.text ++ flat_map tick_line (numbers l.earlier);
  short : length l.text ≤ length l.initial.text + 7 * l.earlier;
}
