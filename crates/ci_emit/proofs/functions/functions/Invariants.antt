use Rattle.std.proofs.Common.{drop, map}
use Rattle.ci_emit.proofs.InTurn.{FunctionsAt}
use Rattle.ci_emit.specs.Contexts.{heads}
use Rattle.ci_tree.specs.SeenBound.{function_of, project_of}
use Rattle.ci_emit.proofs.functions.functions.Given as goal

abbrev pub invariant-loop-number : goal.invariant-loop-number
invariant-loop-number l = FunctionsAt (project_of l.project) l.writer l.made.items (map (function_of (heads l.project)) (drop l.number l.all))
