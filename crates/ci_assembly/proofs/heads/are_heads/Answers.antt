use Rattle.ci_assembly.specs.Parts.{IsHead}
use Rattle.ci_assembly.proofs.Lists.{one_more, all_pass}
use Rattle.ci_assembly.proofs.heads.are_heads.Goals as goal

pub loop-head-preserved : goal.loop-head-preserved
loop-head-preserved c = one_more IsHead c.args.heads.now _ _ c.head-item.is c.loop-head-test.true c.loop-head.invariant (c.is_head.ensures.0 c.if-not-is_head.false)

pub returns : goal.returns
returns c = all_pass IsHead c.args.heads.now _ c.loop-head-test.false c.loop-head.invariant
