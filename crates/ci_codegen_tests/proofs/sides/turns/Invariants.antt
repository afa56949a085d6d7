use Rattle.ci_codegen_tests.specs.Sides.{Comes}
use Rattle.ci_meaning.specs.Within.{IsOf}
use Rattle.ci_codegen_tests.proofs.sides.turns.Given as goal

abbrev pub invariant-loop-place : goal.invariant-loop-place
invariant-loop-place l = IsOf l.project l.task × Comes l.code l.machine
