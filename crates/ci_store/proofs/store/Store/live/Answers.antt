use Rattle.std.proofs.Common.{sym, ap, ◌∙◌}
use Rattle.ci_store.proofs.Whole.{live_tasks_is}
use Rattle.ci_store.specs.Stored.{Stored, live_tasks}
use Rattle.ci_store.proofs.store.Store.live.Goals as goal

pub returns-clause-value : goal.returns-clause-value
returns-clause-value c =
    let p = c.self.inside.parts in
    c.live.ensures.value ∙ sym (live_tasks_is p.lines p.tasks) ∙ ap (λ (s : Stored). live_tasks 1 s.shared.roster.tasks) c.self.view_is
