use Rattle.std.proofs.Common.{◌∙◌, ap, map}
use Rattle.ci_names.specs.Scopes.{Local}
use Rattle.ci_scopes.proofs.Held.{kinds_of}
use Rattle.ci_scopes.proofs.locals.Locals.kinds.Goals as goal

pub returns : goal.returns
returns c =
    c.as_slice.ensures.value ∙ kinds_of c.self.inside.names.items c.self.inside.kinds.items c.self.invariant.paired ∙ ap (map (λ (l : Local). l.kind)) c.self.view_is
