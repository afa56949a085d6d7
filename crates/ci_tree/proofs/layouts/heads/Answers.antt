use Rattle.std.proofs.Common.{◌∙◌}
use Rattle.ci_tree.specs.Layouts.{head_of}
use Rattle.ci_tree.specs.SeenBound.{function_of}
use Rattle.ci_tree.proofs.LayoutSteps.{member_more, all_members}
use Rattle.ci_tree.proofs.layouts.heads.Goals as goal

pub loop-function-preserved : goal.loop-function-preserved
loop-function-preserved c takes =
    member_more (λ f. head_of (function_of takes f)) c.args.functions.now c.loop-function.function-index c.function-item.result c.loop-function.heads.items c.push.new.list.items c.in_ok-one.one
    c.function-item.is c.loop-function-test.true (c.loop-function.invariant takes) c.in_ok-push.ensures (c.in_ok-one.ensures takes)

pub returns : goal.returns
returns c takes = c.of.ensures ∙ all_members head_of (function_of takes) c.args.functions.now c.loop-function.function-index c.loop-function.heads.items (c.loop-function.invariant takes) c.loop-function-test.false
