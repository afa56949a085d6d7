use Rattle.std.proofs.Common.{◌≡◌, ◌+◌, ◌*◌, ◌≤◌, ◌++◌, length}
use Rattle.std.specs.List.{flat_map}
use Rattle.ci_workload.specs.Workload.{numbers, start_text}
use Rattle.ci_workload.proofs.source.add_starts.Given as goal

abbrev pub invariant-loop-earlier : goal.invariant-loop-earlier
invariant-loop-earlier l = record {
  value : l.text ≡ l.initial.text ++ flat_map start_text (numbers l.earlier);
  short : length l.text ≤ length l.initial.text + 60 * l.earlier;
}
