use Rattle.std.proofs.Common.{◌∙◌}
use Rattle.ci_translation.specs.Stands.{cells_of}
use Rattle.ci_tree.proofs.LayoutSteps.{all_members}
use Rattle.ci_tree.specs.SeenBound.{array_of}
use Rattle.ci_emit.proofs.whole.arrays.Goals as goal

pub returns : goal.returns
returns c = c.of.ensures ∙ all_members cells_of array_of c.args.arrays.now c.loop-array.array-index c.loop-array.list.items c.loop-array.invariant c.loop-array-test.false
