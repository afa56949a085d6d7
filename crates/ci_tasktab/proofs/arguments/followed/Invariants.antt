use Rattle.std.proofs.Common.{◌≡◌, ◌++◌, take}
use Rattle.ci_tasktab.proofs.arguments.followed.Given as goal

abbrev pub invariant-loop-value : goal.invariant-loop-value
invariant-loop-value l = l.args ≡ l.fn.given ++ take l.value-index l.values
