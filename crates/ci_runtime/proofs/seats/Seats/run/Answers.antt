use Rattle.std.proofs.Common.{◌≡◌, ◌∙◌, Some, ap, sym, subst, List}
use Rattle.ci_task.specs.declared.machine.Pause.{Pause}
use Rattle.ci_runtime.specs.Seats.{Seat, RanAt}
use Rattle.ci_runtime.proofs.Placing.{ran_some, no_machine}
use Rattle.ci_world.specs.Lists.{at_task}
use Rattle.ci_runtime.proofs.seats.Seats.run.Goals as goal
use Rattle.ci_runtime.proofs.seats.Seats.run.Goals.{in-Some, in-None}

pub returns : goal.returns
returns c =
    let there = subst (λ (l : List Seat). at_task l c.args.task ≡ Some (Some c.requires.there.0)) (sym c.self.view_is) c.requires.there.1 in
    subst (λ (l : List Seat). RanAt c.args.code.now c.args.task c.args.ticks c.match-index_mut.result l c.match-index_mut.self-inside.seats.items) c.self.view_is
    (elim c.match-index_mut.branch [
      | in-Some w ↦ subst (λ (r : Pause). RanAt c.args.code.now c.args.task c.args.ticks r c.self.inside.seats.items c.match-index_mut.self-inside.seats.items) (sym w.result-is)
          (ran_some _ _ _ _ _ _ _ _ _ c.requires.one (sym c.index_mut.ensures.value ∙ w.in-Some.is) (ap (λ i. i.seats.items) w.self-inside-is) w.run.ensures)
      | in-None w ↦ no_machine _ _ _ c.requires.one c.requires.there.0 there (sym c.index_mut.ensures.value ∙ w.in-None.is)
    ])
