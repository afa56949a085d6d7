use Rattle.std.proofs.Common.{Some, ap, ◌∙◌}
use Rattle.ci_names.specs.declared.fault.BindKind.TheVariants as kinds
use Rattle.ci_names.specs.Fault.{noted}
use Rattle.ci_names.specs.Kinds.{kind_of}
use Rattle.ci_names.specs.Expressions.{broken, differ, expr_faults}
use Rattle.ci_names.specs.Statements.{target, assigned}
use Rattle.ci_names.specs.Binding.{heads_in, bound_expr}
use Rattle.ci_tree.specs.Bound as to
use Rattle.ci_tree.specs.Seen.{expr_of}
use Rattle.ci_scopes.specs.Seen.{scope_of}
use Rattle.std.specs.Prelude.{◌++◌}
use Rattle.ci_bodies.specs.Made.{expr_in}
use Rattle.ci_bodies.proofs.Noted.{two_noted}
use Rattle.ci_bodies.proofs.simple.assign_element.Goals as goal

pub returns-clause-found : goal.returns-clause-found
returns-clause-found c =
    let s = scope_of c.args.scope.now in
    let e = expr_of c.args.a.value.now in
    let to = target c.args.a.at c.args.a.name.now (Some (expr_of c.args.index.now)) in
    two_noted c.args.found.now c.indexed.new.found c.alike.new.found (expr_faults s to) (assigned s c.args.a.equals to e) (expr_faults s e)
    c.in_ok-array.ensures.found
    (c.in_ok-bound.ensures.found ∙ ap (λ k. noted c.indexed.new.found (broken (differ k (kind_of s e)) s c.args.a.equals kinds.KindsDiffer ++ expr_faults s e)) c.in_ok-array.ensures.kind)

pub returns-clause-tree : goal.returns-clause-tree
returns-clause-tree c =
    let s = scope_of c.args.scope.now in
    c.assign_element.ensures (heads_in s.declared)
    ∙ (λ i. to.assign_element c.args.a.at c.in_ok-array.array (expr_in s (c.in_ok-boxed.ensures i)) (c.in_ok-bound.ensures.tree i))
    ∙ (λ i. to.assign_element c.args.a.at (c.in_ok-array.ensures.array i) (c.in_ok-array.ensures.index i) (bound_expr s (expr_of c.args.a.value.now)))
