use Rattle.std.proofs.Common.{take}
use Rattle.std.specs.Prelude.{All}
use Rattle.ci_assembly.specs.Parts.{IsNamed}
use Rattle.ci_assembly.proofs.cells.are_named.Given as goal

abbrev pub invariant-loop-global : goal.invariant-loop-global
invariant-loop-global l = All IsNamed (take l.global-index l.globals)
