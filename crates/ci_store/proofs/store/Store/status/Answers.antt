use Rattle.std.proofs.Common.{sym, ap, ◌∙◌, length, arith}
use Rattle.std.specs.Prelude.{option_map}
use Rattle.ci_shared.specs.Roster.{standing_at, status_of}
use Rattle.ci_tasktab.proofs.Living.{length_is}
use Rattle.ci_store.proofs.Whole.{status_is}
use Rattle.ci_store.specs.Stored.{Stored}
use Rattle.ci_store.proofs.store.Store.status.Goals as goal

pub status-requires-clause-most : goal.status-requires-clause-most
status-requires-clause-most c =
    let p = c.self.inside.parts in
    omega (arith, c.requires.most, length_is p.lines p.tasks, ap (λ (s : Stored). length s.shared.roster.tasks) c.self.view_is)

pub returns : goal.returns
returns c =
    let p = c.self.inside.parts in
    sym (ap (λ (s : Stored). option_map status_of (standing_at s.shared.roster c.args.task)) c.self.view_is) ∙ status_is p.lines p.tasks c.args.task ∙ c.status.ensures
