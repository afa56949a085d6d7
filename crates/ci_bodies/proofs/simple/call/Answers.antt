use Rattle.std.proofs.Common.{rules, ◌≡◌, sym, ap}
use Rattle.ci_tree.specs.Bound as to
use Rattle.ci_tree.specs.Seen.{exprs_of}
use Rattle.ci_names.specs.Binding.{heads_in, bound_call}
use Rattle.ci_scopes.specs.Seen.{scope_of}
use Rattle.ci_bodies.specs.Made.{stmt_in}
use Rattle.ci_bodies.proofs.simple.call.Goals as goal

pub returns-clause-tree : goal.returns-clause-tree
returns-clause-tree c =
    let s = scope_of c.args.scope.now in
    let made = c.call.ensures (heads_in s.declared) in
    let call = c.in_ok-call.ensures (heads_in s.declared) in
    let is : stmt_in s c.call.result ≡ to.call_of c.args.at (bound_call s c.args.name.now (exprs_of c.args.args.now)) = search (rules, made, call) in
    λ rest. ap (λ x. to.then x rest) (sym is)
