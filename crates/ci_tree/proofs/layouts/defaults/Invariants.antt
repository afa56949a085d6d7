use Rattle.std.proofs.Common.{◌≡◌, take}
use Rattle.std.specs.List.{filter_map}
use Rattle.ci_tree.proofs.layouts.defaults.Given as goal

abbrev pub invariant-loop-param : goal.invariant-loop-param
invariant-loop-param l = l.values.items ≡ filter_map (λ p. p.first) (take l.param-index l.params)
