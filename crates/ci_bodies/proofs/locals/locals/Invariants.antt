use Rattle.std.proofs.Common.{drop}
use Rattle.ci_scopes.specs.Seen.{scope_of}
use Rattle.ci_bodies.proofs.LocalSteps.{LocalsAt}
use Rattle.ci_bodies.proofs.locals.locals.Given as goal

abbrev pub invariant-loop-one : goal.invariant-loop-one
invariant-loop-one l = LocalsAt (scope_of l.scope) l.into l.found l.kind (drop l.one-index l.locals) (scope_of l.fn.scope) l.fn.into l.fn.found l.locals
