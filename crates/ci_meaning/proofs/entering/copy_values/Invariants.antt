use Rattle.std.proofs.Common.{◌≡◌, take}
use Rattle.ci_meaning.proofs.entering.copy_values.Given as goal

abbrev pub invariant-loop-one : goal.invariant-loop-one
invariant-loop-one l = l.copy ≡ take l.one-index l.args
