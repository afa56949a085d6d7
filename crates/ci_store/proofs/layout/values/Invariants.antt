use Rattle.std.proofs.Common.{◌≡◌, take}
use Rattle.ci_store.proofs.layout.values.Given as goal

abbrev pub invariant-loop-member : goal.invariant-loop-member
invariant-loop-member l = l.kept.items ≡ take l.member-index l.members
