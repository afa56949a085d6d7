use Rattle.ci_code.specs.Code.{IsFunctionCounted}
use Rattle.ci_assembly.proofs.Lists.{one_more, all_pass}
use Rattle.ci_assembly.proofs.functions.are_functions_counted.Goals as goal

pub loop-function-preserved : goal.loop-function-preserved
loop-function-preserved c = one_more IsFunctionCounted c.args.functions.now _ _ c.function-item.is c.loop-function-test.true c.loop-function.invariant (c.is_function_counted.ensures.0 c.if-not-is_function_counted.false)

pub returns : goal.returns
returns c = all_pass IsFunctionCounted c.args.functions.now _ c.loop-function-test.false c.loop-function.invariant
