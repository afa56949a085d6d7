use Rattle.std.proofs.Common.{◌≡◌, ◌++◌, map, take}
use Rattle.ci_base.specs.Values.{first_of_kind}
use Rattle.ci_meaning.proofs.entering.locals_with.Given as goal

abbrev pub invariant-loop-kind : goal.invariant-loop-kind
invariant-loop-kind l = l.locals ≡ l.args ++ map first_of_kind (take l.kind-index l.others)
