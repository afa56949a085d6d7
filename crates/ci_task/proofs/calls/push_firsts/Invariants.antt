use Rattle.std.proofs.Common.{◌≡◌, ◌++◌, map, take}
use Rattle.ci_base.specs.Values.{first_of_kind}
use Rattle.ci_task.proofs.calls.push_firsts.Given as goal

abbrev pub invariant-loop-kind : goal.invariant-loop-kind
invariant-loop-kind l = l.stack ≡ l.fn.stack ++ map first_of_kind (take l.kind-index l.kinds)
