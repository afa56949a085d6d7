use Rattle.std.proofs.Common.{◌≡◌, map, take}
use Rattle.ci_emit.proofs.whole.shape_list.Given as goal

abbrev pub invariant-loop-shape : goal.invariant-loop-shape
invariant-loop-shape l = l.list.items ≡ map (λ shape. shape.items) (take l.shape-index l.shapes)
