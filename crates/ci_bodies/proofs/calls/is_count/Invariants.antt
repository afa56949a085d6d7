use Rattle.std.proofs.Common.{◌≡◌, map, drop}
use Rattle.ci_tree.specs.Seen.{exprs_of}
use Rattle.ci_names.specs.Kinds.{is_count}
use Rattle.ci_scopes.specs.Seen.{taken_of}
use Rattle.ci_bodies.proofs.calls.is_count.Given as goal

abbrev pub invariant-loop-arg : goal.invariant-loop-arg
invariant-loop-arg l = is_count (map taken_of l.left) (exprs_of (drop l._arg-index l.args)) ≡ is_count (map taken_of l.fn.takes) (exprs_of l.args)
