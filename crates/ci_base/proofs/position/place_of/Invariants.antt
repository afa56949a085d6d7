use Rattle.std.proofs.Common.{◌≡◌, ◌+◌, ◌≤◌}
use Rattle.ci_base.specs.Places.{line, column}
use Rattle.ci_base.proofs.position.place_of.Given as goal

-- line and column are those of the index
abbrev pub invariant-loop-b : goal.invariant-loop-b
invariant-loop-b l =
    (l.line ≡ line l.b-items l.b-index) × (l.column ≡ column l.b-items l.b-index) × (l.line ≤ l.b-index + 1) × (l.column ≤ l.b-index + 1)
