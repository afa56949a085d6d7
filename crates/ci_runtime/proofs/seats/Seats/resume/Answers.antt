use Rattle.std.proofs.Common.{◌∙◌, ap, sym, arith, length, subst, List}
use Rattle.ci_runtime.specs.Seats.{Seat, ResumedAt}
use Rattle.ci_runtime.proofs.Placing.{resumed_some, resumed_none, resumed_out}
use Rattle.ci_runtime.proofs.seats.Seats.resume.Goals as goal
use Rattle.ci_runtime.proofs.seats.Seats.resume.Goals.{in-Some, in_default, else-task-gt0-via-then-task-gt0+else-task-len, else-task-gt0-via-else-task-gt0}

pub returns-after-index_mut : goal.returns-after-index_mut
returns-after-index_mut c =
    subst (λ (l : List Seat). ResumedAt c.args.task c.args.answer.now l c.match-index_mut.self-inside.seats.items) c.self.view_is
    (elim c.match-index_mut.branch [
      | in-Some w ↦ resumed_some _ _ _ _ _ _ _ (omega arith) (omega (arith, ap (λ l. length l) c.self.view_is)) (sym c.index_mut.ensures.value ∙ w.in-Some.is) w.resume.ensures (ap (λ i. i.seats.items) w.self-inside-is)
      | in_default w ↦ resumed_none _ _ _ _ _ _ (omega arith) (omega (arith, ap (λ l. length l) c.self.view_is)) (sym c.index_mut.ensures.value ∙ w.in_default.is) w.in_default.is (ap (λ i. i.seats.items) w.self-inside-is)
    ])

pub returns-else-task-gt0 : goal.returns-else-task-gt0
returns-else-task-gt0 c =
    resumed_out _ _ _ (λ one le. elim c.else-task-gt0.branch [
      | else-task-gt0-via-then-task-gt0+else-task-len w ↦ omega (arith, w.if-task-len.false, w.len.ensures, one, le, ap (λ l. length l) c.self.view_is)
      | else-task-gt0-via-else-task-gt0 w ↦ omega (arith, w.if-task-gt0.false, one, le, ap (λ l. length l) c.self.view_is)
    ])
