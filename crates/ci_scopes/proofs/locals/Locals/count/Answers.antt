use Rattle.std.proofs.Common.{◌∙◌, ap, length, sym, List}
use Rattle.ci_names.specs.Scopes.{Local}
use Rattle.ci_scopes.proofs.Held.{length_locals}
use Rattle.ci_scopes.proofs.locals.Locals.count.Goals as goal

pub returns : goal.returns
returns c =
    c.len.ensures ∙ c.self.inside.kinds.ok.0 ∙ sym (length_locals c.self.inside.names.items c.self.inside.kinds.items c.self.invariant.paired)
    ∙ ap (λ (ls : List Local). length ls) c.self.view_is
