use Rattle.ci_tree.proofs.LayoutSteps.{default_more}
use Rattle.ci_tree.proofs.layouts.defaults.Goals as goal

pub loop-param-preserved : goal.loop-param-preserved
loop-param-preserved c =
    default_more (λ p. p.first) c.args.params.now c.loop-param.param-index c.param-item.result c.loop-param.values.items c.add_default.new.values.items
    c.param-item.is c.loop-param-test.true c.loop-param.invariant c.in_ok-add_default.ensures
