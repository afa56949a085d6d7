use Rattle.ci_names.specs.Statements.{compared}
use Rattle.ci_tree.specs.Seen.{expr_of}
use Rattle.ci_scopes.specs.Seen.{scope_of}
use Rattle.ci_bodies.proofs.Noted.{both_noted}
use Rattle.ci_bodies.proofs.labels.label.Goals as goal

pub returns-in_ok-high-in-Range-clause-found : goal.returns-in_ok-high-in-Range-clause-found
returns-in_ok-high-in-Range-clause-found c =
    let s = scope_of c.args.scope.now in
    rw c.in-Range.is
    (both_noted c.args.found.now c.compared-in-Range.new.found c.compared-in-Range-2.new.found (compared s c.args.subject (expr_of c.in-Range.low)) (compared s c.args.subject (expr_of c.in-Range.high))
    c.in_ok-low-in-Range.ensures.found c.in_ok-high-in-Range.ensures.found)
