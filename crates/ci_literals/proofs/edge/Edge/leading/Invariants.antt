use Rattle.std.proofs.Common.{◌≡◌, ◌+◌, ◌-◌, ◌≤◌, length, drop}
use Rattle.std.specs.List.{prefix_len}
use Rattle.ci_literals.specs.Edges.{leaves_out}
use Rattle.ci_literals.proofs.edge.Edge.leading.Given as goal

abbrev pub invariant-loop-count : goal.invariant-loop-count
invariant-loop-count l = (l.count ≤ length l.bytes) × (l.count + prefix_len (leaves_out l.self) (drop l.count l.bytes) ≡ prefix_len (leaves_out l.self) l.bytes)

abbrev pub decreases-loop-count : goal.decreases-loop-count
decreases-loop-count l = length l.bytes - l.count
