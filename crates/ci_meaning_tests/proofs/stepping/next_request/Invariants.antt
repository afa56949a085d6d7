use Rattle.ci_meaning.specs.Within.{IsOf}
use Rattle.ci_meaning_tests.proofs.stepping.next_request.Given as goal

abbrev pub invariant-loop : goal.invariant-loop
invariant-loop l = IsOf l.project l.task
