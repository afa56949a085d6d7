use Rattle.ci_assembly.specs.Parts.{IsNamed}
use Rattle.ci_assembly.proofs.Lists.{one_more, all_pass}
use Rattle.ci_assembly.proofs.cells.are_named.Goals as goal

pub loop-global-preserved : goal.loop-global-preserved
loop-global-preserved c = one_more IsNamed c.args.globals.now _ _ c.global-item.is c.loop-global-test.true c.loop-global.invariant (c.is_named.ensures.0 c.if-not-is_named.false)

pub returns : goal.returns
returns c = all_pass IsNamed c.args.globals.now _ c.loop-global-test.false c.loop-global.invariant
