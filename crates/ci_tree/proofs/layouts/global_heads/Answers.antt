use Rattle.std.proofs.Common.{◌∙◌}
use Rattle.ci_tree.specs.Layouts.{global_head_of}
use Rattle.ci_tree.specs.SeenBound.{global_of}
use Rattle.ci_tree.proofs.LayoutSteps.{member_more, all_members}
use Rattle.ci_tree.proofs.layouts.global_heads.Goals as goal

pub loop-global-preserved : goal.loop-global-preserved
loop-global-preserved c =
    member_more (λ x. global_head_of (global_of x)) c.args.globals.now c.loop-global.global-index c.global-item.result c.loop-global.heads.items c.push.new.list.items c.global_head.result
    c.global-item.is c.loop-global-test.true c.loop-global.invariant c.in_ok-push.ensures c.global_head.ensures

pub returns : goal.returns
returns c = c.of.ensures ∙ all_members global_head_of global_of c.args.globals.now c.loop-global.global-index c.loop-global.heads.items c.loop-global.invariant c.loop-global-test.false
