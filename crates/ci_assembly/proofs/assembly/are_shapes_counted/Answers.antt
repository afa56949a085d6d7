use Rattle.ci_assembly.specs.Parts.{IsShapeCounted}
use Rattle.ci_assembly.proofs.Lists.{one_more, all_pass}
use Rattle.ci_assembly.proofs.assembly.are_shapes_counted.Goals as goal

pub loop-shape-preserved : goal.loop-shape-preserved
loop-shape-preserved c = one_more IsShapeCounted c.args.shapes.now _ _ c.shape-item.is c.loop-shape-test.true c.loop-shape.invariant (c.is_shape_counted.ensures.0 c.if-not-is_shape_counted.false)

pub returns : goal.returns
returns c = all_pass IsShapeCounted c.args.shapes.now _ c.loop-shape-test.false c.loop-shape.invariant
