use Rattle.std.proofs.Common.{◌≡◌, map, take}
use Rattle.ci_names.specs.Given.{by_value}
use Rattle.ci_scopes.specs.Values.{taken_of}
use Rattle.ci_scopes.proofs.given.by_values.Given as goal

abbrev pub invariant-loop-kind : goal.invariant-loop-kind
invariant-loop-kind l = map taken_of l.takes ≡ map by_value (take l.kind-index l.kinds)
