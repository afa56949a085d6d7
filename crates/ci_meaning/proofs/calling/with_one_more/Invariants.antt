use Rattle.std.proofs.Common.{◌≡◌, take}
use Rattle.ci_meaning.proofs.calling.with_one_more.Given as goal

abbrev pub invariant-loop-one : goal.invariant-loop-one
invariant-loop-one l = l.values ≡ take l.one-index l.before
