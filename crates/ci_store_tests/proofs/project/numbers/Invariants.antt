use Rattle.std.specs.List.{All}
use Rattle.ci_store_tests.specs.Cells.{IsOwn}
use Rattle.ci_store_tests.proofs.project.numbers.Given as goal

abbrev pub invariant-cells : goal.invariant-cells
invariant-cells l = All IsOwn l.cells.items
