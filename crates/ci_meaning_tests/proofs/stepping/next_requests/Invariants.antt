use Rattle.ci_meaning.specs.Within.{IsOf}
use Rattle.ci_meaning_tests.proofs.stepping.next_requests.Given as goal

abbrev pub invariant-loop-place : goal.invariant-loop-place
invariant-loop-place l = IsOf l.project l.task
