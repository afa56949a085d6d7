use Rattle.std.proofs.Common.{◌≡◌, ◌≤◌, ◌-◌, length, drop}
use Rattle.ci_tree.specs.LeftOut.{constants}
use Rattle.ci_meaning.specs.Held.{values_of}
use Rattle.ci_meaning.proofs.calling.next_default.Given as goal

abbrev pub invariant-loop-place : goal.invariant-loop-place
invariant-loop-place l = record { later : l.at ≤ l.place; same : constants (drop l.place (values_of l.params)) ≡ constants (drop l.at (values_of l.params)) }

abbrev pub decreases-loop-place : goal.decreases-loop-place
decreases-loop-place l = length l.params - l.place
