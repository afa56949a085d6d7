use Rattle.ci_assembly.specs.Parts.{RiseBefore}
use Rattle.ci_assembly.proofs.cells.do_rise.Given as goal

abbrev pub invariant-loop-place : goal.invariant-loop-place
invariant-loop-place l = RiseBefore l.place l.globals
