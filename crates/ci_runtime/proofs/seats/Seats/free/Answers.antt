use Rattle.std.proofs.Common.{◌-◌, ap, arith, refl, length, subst, List, set}
use Rattle.ci_runtime.specs.Seats.{Seat, FreedAt}
use Rattle.ci_runtime.proofs.Placing.{freed_one, freed_out}
use Rattle.ci_runtime.proofs.seats.Seats.free.Goals as goal
use Rattle.ci_runtime.proofs.seats.Seats.free.Goals.{else-task-gt0-via-then-task-gt0+else-task-len, else-task-gt0-via-else-task-gt0}

pub returns-in-Some : goal.returns-in-Some
returns-in-Some c =
    subst (λ (l : List Seat). FreedAt c.args.task l (set c.self.inside.seats.items (c.args.task - 1) c.take.new.self)) c.self.view_is
    (freed_one _ _ _ c.take.new.self c.take.new.self (omega arith) (omega (arith, ap (λ l. length l) c.self.view_is)) c.take.ensures.after refl)

pub returns-in_default : goal.returns-in_default
returns-in_default c =
    subst (λ (l : List Seat). FreedAt c.args.task l (set c.self.inside.seats.items (c.args.task - 1) c.take.new.self)) c.self.view_is
    (freed_one _ _ _ c.take.new.self c.take.new.self (omega arith) (omega (arith, ap (λ l. length l) c.self.view_is)) c.take.ensures.after refl)

pub returns-else-task-gt0 : goal.returns-else-task-gt0
returns-else-task-gt0 c =
    freed_out _ _ (λ one le. elim c.else-task-gt0.branch [
      | else-task-gt0-via-then-task-gt0+else-task-len w ↦ omega (arith, w.if-task-len.false, w.len.ensures, one, le, ap (λ l. length l) c.self.view_is)
      | else-task-gt0-via-else-task-gt0 w ↦ omega (arith, w.if-task-gt0.false, one, le, ap (λ l. length l) c.self.view_is)
    ])
