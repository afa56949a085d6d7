use Rattle.std.proofs.Common.{◌≡◌, map, take}
use Rattle.ci_tree.specs.LeftOut.{Heads}
use Rattle.ci_tree.specs.Layouts.{head_of}
use Rattle.ci_tree.specs.SeenBound.{function_of}
use Rattle.ci_tree.proofs.layouts.heads.Given as goal

abbrev pub invariant-loop-function : goal.invariant-loop-function
invariant-loop-function l = (takes : Heads) → l.heads.items ≡ map (λ f. head_of (function_of takes f)) (take l.function-index l.functions)
