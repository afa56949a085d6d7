use Rattle.std.proofs.Common.{drop, ap, ◌∙◌}
use Rattle.std.proofs.lemmas.List.{take_rest, drop-map}
use Rattle.ci_names.specs.Scopes.{Local}
use Rattle.ci_scopes.specs.Seen.{scope_of}
use Rattle.ci_binder.proofs.functions.kinds_behind.Goals as goal

pub returns-in-Ok : goal.returns-in-Ok
returns-in-Ok c =
    c.in-Ok.ensures
    ∙ take_rest c.kinds-kinds.result.now c.args.count
    ∙ ap (drop c.args.count) c.kinds-kinds.ensures
    ∙ drop-map (λ (l : Local). l.kind) c.args.count (scope_of c.args.scope.now).locals
