use Rattle.std.proofs.Common.{◌≡◌, map, drop}
use Rattle.ci_tree.specs.Tree.{no_expr}
use Rattle.ci_names.specs.Kinds.{is_count}
use Rattle.ci_scopes.specs.Seen.{taken_of}
use Rattle.ci_bodies.proofs.calls.may_all_be_left_out.Given as goal

abbrev pub invariant-loop-taken : goal.invariant-loop-taken
invariant-loop-taken l = is_count (map taken_of (drop l.taken-index l.takes)) no_expr ≡ is_count (map taken_of l.takes) no_expr
