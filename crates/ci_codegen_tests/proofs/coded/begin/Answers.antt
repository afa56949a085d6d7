use Rattle.ci_codegen_tests.proofs.Standing.{begun}
use Rattle.ci_codegen_tests.proofs.coded.begin.Goals as goal

pub returns : goal.returns
returns c = begun c.args.code.now c.args.function c.args.args.now _ c.begin.ensures
