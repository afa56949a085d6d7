use Rattle.std.proofs.Common.{map, ap, ◌∙◌}
use Rattle.ci_tree.specs.Bound as to
use Rattle.ci_names.specs.Binding.{heads_in}
use Rattle.ci_scopes.specs.Seen.{scope_of}
use Rattle.ci_bodies.specs.InFront.{stmts_in_front}
use Rattle.ci_bodies.specs.Made.{stmt_in}
use Rattle.ci_bodies.proofs.InFront.{stmts_pushed}
use Rattle.ci_bodies.proofs.locals.first_value.Goals as goal

pub returns-in_ok-push-in-Some-clause-tree : goal.returns-in_ok-push-in-Some-clause-tree
returns-in_ok-push-in-Some-clause-tree c =
    let s = scope_of c.args.scope.now in
    let front = λ (x : to.Stmt) (rest : to.Block). stmts_in_front (map (stmt_in s) c.args.into.now) (to.then x rest) in
    rw c.in-Some.is (λ rest.
    stmts_pushed (heads_in s.declared) c.args.into.now c.push.new.items c.assign.result rest c.in_ok-push-in-Some.ensures
    ∙ ap (λ x. front x rest) (c.assign.ensures (heads_in s.declared))
    ∙ (λ i. front (to.assign c.args.at (to.local (c.count.ensures i)) (c.in_ok-bound-in-Some.ensures.tree i)) rest))
