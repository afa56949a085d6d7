use Rattle.std.proofs.Common.{sym, ap, ◌∙◌, length, arith}
use Rattle.ci_tasktab.proofs.Living.{length_is}
use Rattle.ci_store.proofs.Whole.{mark_is}
use Rattle.ci_store.specs.Stored.{Stored, mark_at}
use Rattle.ci_store.proofs.store.Store.is_suspended.Goals as goal

pub is_suspended-requires-clause-most : goal.is_suspended-requires-clause-most
is_suspended-requires-clause-most c =
    let p = c.self.inside.parts in
    omega (arith, c.requires.most, length_is p.lines p.tasks, ap (λ (s : Stored). length s.shared.roster.tasks) c.self.view_is)

pub returns : goal.returns
returns c =
    let p = c.self.inside.parts in
    sym (ap (λ (s : Stored). mark_at s.shared.roster.tasks c.args.task) c.self.view_is) ∙ mark_is p.lines p.tasks c.args.task ∙ c.is_suspended.ensures
