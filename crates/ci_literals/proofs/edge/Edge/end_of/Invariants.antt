use Rattle.std.proofs.Common.{◌≡◌, ◌+◌, ◌-◌, ◌≤◌, length, take}
use Rattle.std.specs.List.{suffix_len}
use Rattle.ci_literals.specs.Edges.{leaves_out}
use Rattle.ci_literals.proofs.edge.Edge.end_of.Given as goal

abbrev pub invariant-loop-end : goal.invariant-loop-end
invariant-loop-end l = (l.end ≤ length l.bytes) × (length l.bytes - l.end + suffix_len (leaves_out l.self) (take l.end l.bytes) ≡ suffix_len (leaves_out l.self) l.bytes)

abbrev pub decreases-loop-end : goal.decreases-loop-end
decreases-loop-end l = l.end
