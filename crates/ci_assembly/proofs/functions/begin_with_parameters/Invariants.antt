use Rattle.ci_assembly.specs.Parts.{BeginBefore}
use Rattle.ci_assembly.proofs.functions.begin_with_parameters.Given as goal

abbrev pub invariant-loop-number : goal.invariant-loop-number
invariant-loop-number l = BeginBefore l.number l.heads l.functions
