use Rattle.std.proofs.Common.{◌∙◌, sym, ap}
use Rattle.ci_tree.specs.Bound as to
use Rattle.ci_names.specs.Binding.{heads_in}
use Rattle.ci_scopes.specs.Seen.{scope_of}
use Rattle.ci_bodies.proofs.simple.give_back.Goals as goal

pub returns-in-None-clause-tree : goal.returns-in-None-clause-tree
returns-in-None-clause-tree c =
    let heads = heads_in (scope_of c.args.scope.now).declared in
    rw c.in-None.is (λ rest. ap (λ x. to.then x rest) (sym (c.give_back.ensures heads ∙ ap (to.return c.args.at) (c.number.ensures heads))))

pub returns-in_ok-bound-in-Some-clause-tree : goal.returns-in_ok-bound-in-Some-clause-tree
returns-in_ok-bound-in-Some-clause-tree c =
    let heads = heads_in (scope_of c.args.scope.now).declared in
    rw c.in-Some.is (λ rest. ap (λ x. to.then x rest) (sym (c.give_back-in-Some.ensures heads ∙ ap (to.return c.args.at) c.in_ok-bound-in-Some.ensures.tree)))
