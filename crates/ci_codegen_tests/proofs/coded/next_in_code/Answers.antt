use Rattle.ci_codegen_tests.proofs.Standing.{asking}
use Rattle.ci_codegen_tests.proofs.coded.next_in_code.Goals as goal

pub returns-in-Asks : goal.returns-in-Asks
returns-in-Asks c = asking c.args.code.now 100000 _ _ c.args.machine.now _ c.requires c.in-Asks.ensures
