use Rattle.ci_meaning.specs.Within.{IsOf}
use Rattle.ci_codegen_tests.proofs.sides.next_on_tree.Given as goal

abbrev pub invariant-loop : goal.invariant-loop
invariant-loop l = IsOf l.project l.task
