use Rattle.std.proofs.Common.{sym, ap, ◌∙◌, length}
use Rattle.ci_tasktab.proofs.Living.{length_is}
use Rattle.ci_store.specs.Stored.{Stored}
use Rattle.ci_store.proofs.store.Store.started.Goals as goal

pub returns-clause-value : goal.returns-clause-value
returns-clause-value c =
    let p = c.self.inside.parts in
    c.count.ensures.value ∙ sym (length_is p.lines p.tasks) ∙ ap (λ (s : Stored). length s.shared.roster.tasks) c.self.view_is
