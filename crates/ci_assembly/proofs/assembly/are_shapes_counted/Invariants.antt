use Rattle.std.proofs.Common.{take}
use Rattle.std.specs.Prelude.{All}
use Rattle.ci_assembly.specs.Parts.{IsShapeCounted}
use Rattle.ci_assembly.proofs.assembly.are_shapes_counted.Given as goal

abbrev pub invariant-loop-shape : goal.invariant-loop-shape
invariant-loop-shape l = All IsShapeCounted (take l.shape-index l.shapes)
