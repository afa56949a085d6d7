use Rattle.std.proofs.Common.{◌≡◌, map, take}
use Rattle.ci_translation.specs.Stands.{cells_of}
use Rattle.ci_tree.specs.SeenBound.{array_of}
use Rattle.ci_emit.proofs.whole.arrays.Given as goal

abbrev pub invariant-loop-array : goal.invariant-loop-array
invariant-loop-array l = l.list.items ≡ map (λ a. cells_of (array_of a)) (take l.array-index l.arrays)
