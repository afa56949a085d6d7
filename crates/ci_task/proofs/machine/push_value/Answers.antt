use Rattle.std.proofs.Common.{[], refl, sym}
use Rattle.std.proofs.lemmas.List.{append-nil}
use Rattle.ci_task.proofs.machine.push_value.Goals as goal

pub returns : goal.returns
returns c = c.replace_by.ensures c.args.stack.now [] (sym (append-nil c.args.stack.now)) refl
