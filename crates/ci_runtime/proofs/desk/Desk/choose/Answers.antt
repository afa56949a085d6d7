use Rattle.std.proofs.Common.{◌≡◌, ap, arith, subst}
use Rattle.std.proofs.lemmas.Bool.{leb-true, leb-false}
use Rattle.ci_base.specs.declared.event.Event.{Event}
use Rattle.std.specs.Prelude.{List, option_map, slice_get}
use Rattle.ci_runtime.specs.Desks.{state}
use Rattle.ci_runtime.proofs.Rounding.{choose_all}
use Rattle.ci_runtime.proofs.desk.Desk.choose.Goals as goal

pub returns : goal.returns
returns c =
    choose_all _ _ _ _ c.self.inside.board _ _ _ _ c.self.invariant (ap state c.self.view_is) (subst (λ (l : List Event). c.mark_at-front.result ≡ option_map (λ (e : Event). e.soon) (slice_get l c.self.inside.board.next)) c.events.ensures.value c.mark_at-front.ensures) c.next_task-ready.ensures
    (λ e. let x = leb-true _ 100 e in omega (arith, x, c.from.ensures)) (λ e. let x = leb-false _ 100 e in omega (arith, x, c.from.ensures)) c.choose_rule.ensures
