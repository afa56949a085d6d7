use Rattle.std.proofs.Common.{◌≡◌, ◌≤◌, length}
use Rattle.ci_base.specs.declared.bounds.TheConstants.{MOST_SCRIPT_LINES}
use Rattle.ci_script.specs.Lines.{lines}
use Rattle.ci_script.specs.Scripts.{IsScript, told, told_behind, events_first}
use Rattle.ci_script.proofs.reader.read_script.Given as goal

-- the events so far, before those of the lines that are left
abbrev pub invariant-loop-rest : goal.invariant-loop-rest
invariant-loop-rest l = record {
  few : l.number ≤ MOST_SCRIPT_LINES;
  fewer : length l.kept.items ≤ l.number;
  script : IsScript l.kept.items;
  split : told l.fn.source ≡ events_first l.kept.items (told_behind l.number (lines l.rest));
}

abbrev pub decreases-loop-rest : goal.decreases-loop-rest
decreases-loop-rest l = length l.rest
