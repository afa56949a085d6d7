use Rattle.std.proofs.Common.{◌∙◌, ap, is_some}
use Rattle.std.specs.List.{list_any}
use Rattle.ci_scopes.specs.Locals.{is_local}
use Rattle.ci_scopes.specs.Seen.{scope_of}
use Rattle.ci_scopes.proofs.Firsts.{position-any}
use Rattle.ci_scopes.proofs.scope.Scope.has_local.Goals as goal

pub returns : goal.returns
unfolding scope_of
returns c =
    c.is_some.ensures ∙ ap is_some c.number.ensures ∙ position-any (is_local c.bytes.result.now) c.args.self.now.locals
    ∙ ap (λ name. list_any (is_local name) c.args.self.now.locals) c.bytes.ensures
