use Rattle.std.proofs.Common.{◌∙◌}
use Rattle.ci_tree.specs.Layouts.{cell_head_of}
use Rattle.ci_tree.specs.SeenBound.{cell_of}
use Rattle.ci_tree.proofs.LayoutSteps.{member_more, all_members}
use Rattle.ci_tree.proofs.layouts.cell_heads.Goals as goal

pub loop-cell-preserved : goal.loop-cell-preserved
loop-cell-preserved c =
    member_more (λ x. cell_head_of (cell_of x)) c.args.cells.now c.loop-cell.cell-index c.cell-item.result c.loop-cell.heads.items c.push.new.list.items c.cell_head.result
    c.cell-item.is c.loop-cell-test.true c.loop-cell.invariant c.in_ok-push.ensures c.cell_head.ensures

pub returns : goal.returns
returns c = c.of.ensures ∙ all_members cell_head_of cell_of c.args.cells.now c.loop-cell.cell-index c.loop-cell.heads.items c.loop-cell.invariant c.loop-cell-test.false
