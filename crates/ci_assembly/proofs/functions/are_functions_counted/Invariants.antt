use Rattle.std.proofs.Common.{take}
use Rattle.std.specs.Prelude.{All}
use Rattle.ci_code.specs.Code.{IsFunctionCounted}
use Rattle.ci_assembly.proofs.functions.are_functions_counted.Given as goal

abbrev pub invariant-loop-function : goal.invariant-loop-function
invariant-loop-function l = All IsFunctionCounted (take l.function-index l.functions)
