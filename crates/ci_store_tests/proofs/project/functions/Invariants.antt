use Rattle.ci_tasktab.specs.Births.{IsWithin}
use Rattle.ci_store_tests.proofs.project.functions.Given as goal

abbrev pub invariant-plans : goal.invariant-plans
invariant-plans l = IsWithin l.heads.items
