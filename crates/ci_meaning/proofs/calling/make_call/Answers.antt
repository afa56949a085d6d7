use Rattle.std.proofs.Common.{sym, subst}
use Rattle.ci_tree.specs.declared.bound.Callee.{Callee}
use Rattle.ci_tree.specs.SeenBound.{callee_of, heads_of, project_of}
use Rattle.ci_meaning.specs.Held.{Calls}
use Rattle.ci_meaning.specs.Moves.{called}
use Rattle.ci_meaning.proofs.calling.make_call.Goals as goal

pub returns-in-Private-clause-ok : goal.returns-in-Private-clause-ok
returns-in-Private-clause-ok c =
    let heads = heads_of c.args.project.now.functions in
    let p = project_of c.args.project.now in
    subst (λ (x : Callee). Calls heads c.args.passed (called p (callee_of x) c.args.args.now) c.args.task.now c.call_private.result c.call_private.new.task) (sym c.in-Private.is) (c.call_private.ensures p heads)

pub returns-in-Shared-clause-ok : goal.returns-in-Shared-clause-ok
returns-in-Shared-clause-ok c =
    let heads = heads_of c.args.project.now.functions in
    let p = project_of c.args.project.now in
    subst (λ (x : Callee). Calls heads c.args.passed (called p (callee_of x) c.args.args.now) c.args.task.now c.call_shared.result c.call_shared.new.task) (sym c.in-Shared.is) (c.call_shared.ensures p heads)
