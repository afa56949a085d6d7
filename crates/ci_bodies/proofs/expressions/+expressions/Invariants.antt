use Rattle.std.proofs.Common.{drop, map}
use Rattle.ci_scopes.specs.Seen.{scope_of, taken_of}
use Rattle.ci_bodies.proofs.Arguments.{ArgsAt}
use Rattle.ci_bodies.proofs.Links.{LinksAt}
use Rattle.ci_bodies.proofs.expressions.+expressions.Given as goal

abbrev pub invariant-arguments-loop-arg : goal.invariant-arguments-loop-arg
invariant-arguments-loop-arg l =
    ArgsAt (scope_of l.scope) l.bound l.fit l.found (map taken_of l.left) (drop l.arg-index l.args) (map taken_of l.fn.takes) l.fn.found l.args

abbrev pub invariant-links-loop-member : goal.invariant-links-loop-member
invariant-links-loop-member l =
    LinksAt (scope_of l.scope) l.links l.kind l.found (drop l.member-index l.rest) l.fn.left l.fn.found l.rest
