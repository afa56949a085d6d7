use Rattle.std.proofs.Common.{drop}
use Rattle.ci_emit.proofs.Loops.{ArgsAt, LinksAt}
use Rattle.ci_emit.specs.Contexts.{context, heads}
use Rattle.ci_tree.specs.SeenBound.{exprs_of, links_of}
use Rattle.ci_emit.proofs.expressions.+expressions.Given as goal

abbrev pub invariant-arguments-loop-arg : goal.invariant-arguments-loop-arg
invariant-arguments-loop-arg l =
    ArgsAt (context l.parts l.function) l.fn.writer l.writer (exprs_of (heads l.parts) l.args) (exprs_of (heads l.parts) (drop l.arg-index l.args))

abbrev pub invariant-links-loop-member : goal.invariant-links-loop-member
invariant-links-loop-member l =
    LinksAt (context l.parts l.function) l.fn.writer l.writer l.fn.left l.kind (links_of (heads l.parts) l.rest) (links_of (heads l.parts) (drop l.member-index l.rest))
