use Rattle.std.proofs.Common.{take}
use Rattle.std.specs.Prelude.{All}
use Rattle.ci_assembly.specs.Parts.{IsCell}
use Rattle.ci_assembly.proofs.cells.are_cells.Given as goal

abbrev pub invariant-loop-cell : goal.invariant-loop-cell
invariant-loop-cell l = All IsCell (take l.cell-index l.cells)
