use Rattle.std.proofs.Common.{drop, map}
use Rattle.ci_emit.proofs.Loops.{ArgsAt}
use Rattle.ci_tree.specs.Bound.{Param}
use Rattle.ci_tree.specs.LeftOut.{constants}
use Rattle.ci_tree.specs.SeenBound.{param_of}
use Rattle.ci_tree.specs.Sound.{Context}
use Rattle.ci_emit.proofs.arguments.defaults.Given as goal

abbrev pub invariant-loop-param : goal.invariant-loop-param
invariant-loop-param l =
    (c : Context) → ArgsAt c l.fn.writer l.writer (constants (map (λ (p : Param). p.first) (map param_of l.params))) (constants (map (λ (p : Param). p.first) (map param_of (drop l.param-index l.params))))
