use Rattle.ci_assembly.specs.Parts.{IsCell}
use Rattle.ci_assembly.proofs.Lists.{one_more, all_pass}
use Rattle.ci_assembly.proofs.cells.are_cells.Goals as goal

pub loop-cell-preserved : goal.loop-cell-preserved
loop-cell-preserved c = one_more IsCell c.args.cells.now _ _ c.cell-item.is c.loop-cell-test.true c.loop-cell.invariant (c.is_of_kind.ensures.0 c.if-not-is_of_kind.false)

pub returns : goal.returns
returns c = all_pass IsCell c.args.cells.now _ c.loop-cell-test.false c.loop-cell.invariant
