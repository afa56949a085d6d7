use Rattle.std.proofs.Common.{◌≡◌, map, take}
use Rattle.ci_tree.specs.Layouts.{global_head_of}
use Rattle.ci_tree.specs.SeenBound.{global_of}
use Rattle.ci_tree.proofs.layouts.global_heads.Given as goal

abbrev pub invariant-loop-global : goal.invariant-loop-global
invariant-loop-global l = l.heads.items ≡ map (λ g. global_head_of (global_of g)) (take l.global-index l.globals)
