use Rattle.std.proofs.Common.{◌≡◌, map, take}
use Rattle.ci_tree.specs.Layouts.{cell_head_of}
use Rattle.ci_tree.specs.SeenBound.{cell_of}
use Rattle.ci_tree.proofs.layouts.cell_heads.Given as goal

abbrev pub invariant-loop-cell : goal.invariant-loop-cell
invariant-loop-cell l = l.heads.items ≡ map (λ c. cell_head_of (cell_of c)) (take l.cell-index l.cells)
