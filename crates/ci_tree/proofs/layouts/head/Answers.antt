use Rattle.std.proofs.Common.{rules}
use Rattle.ci_tree.proofs.LayoutSteps.{head_same}
use Rattle.ci_tree.proofs.layouts.head.Goals as goal

pub returns : goal.returns
returns c takes =
    let f = c.args.function.now in
    head_same takes f c.of_few.result c.in_ok-kinds.kinds c.in_ok-defaults.defaults (search rules) (search rules) (search rules)
