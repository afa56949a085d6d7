use Rattle.std.proofs.Common.{◌≡◌, Some, List, length, slice_get, ap, arith, subst}
use Rattle.ci_base.specs.declared.event.Event.{Event}
use Rattle.ci_runtime.specs.Desks.{state}
use Rattle.ci_runtime.proofs.Entering.{event_begins, event_early, front_due, front_there, next_early, rest_now, room_left, work_grows}
use Rattle.ci_runtime.proofs.Keeping.{keeps_event}
use Rattle.ci_runtime.proofs.Rounding.{took_from}
use Rattle.ci_shared.specs.Laws.{gained}
use Rattle.ci_runtime.proofs.desk.Desk.take_event.Goals as goal

pub front-event-requires : goal.front-event-requires
front-event-requires c = let t = front_there _ _ _ _ c.self.inside.board c.self.invariant (ap state c.self.view_is) c.requires.due in omega (arith, t.0, ap (λ (l : List Event). length l) c.events.ensures.value)

pub take-requires-clause-early : goal.take-requires-clause-early
take-requires-clause-early c =
    let t = front_there _ _ _ _ c.self.inside.board c.self.invariant (ap state c.self.view_is) c.requires.due in
    event_early _ _ _ c.self.inside.board c.self.invariant (gained c.front-event.result.now.what) t.0 (omega arith)

pub take-requires-clause-room : goal.take-requires-clause-room
take-requires-clause-room c = room_left _ _ _ c.self.inside.board c.self.invariant (rest_now _ _ _ c.self.inside.board c.self.invariant _ (ap state c.self.view_is) c.requires.rest)

pub take-requires-clause-begins : goal.take-requires-clause-begins
take-requires-clause-begins c = event_begins _ _ _ c.self.inside.board c.self.invariant c.front-event.result.now

pub take-requires-clause-work : goal.take-requires-clause-work
take-requires-clause-work c = let r = rest_now _ _ _ c.self.inside.board c.self.invariant _ (ap state c.self.view_is) c.requires.rest in omega (arith, r)

pub take-requires-clause-next : goal.take-requires-clause-next
take-requires-clause-next c =
    let t = front_there _ _ _ _ c.self.inside.board c.self.invariant (ap state c.self.view_is) c.requires.due in
    next_early _ _ _ c.self.inside.board c.self.invariant t.0

pub invariant_of-self : goal.invariant_of-self
invariant_of-self c =
    let r = rest_now _ _ _ c.self.inside.board c.self.invariant _ (ap state c.self.view_is) c.requires.rest in
    keeps_event _ _ _ c.self.inside.board c.self.invariant c.front-event.result.now c.take.new.board (omega arith) c.take.ensures (omega (arith, r))

pub returns-clause-took : goal.returns-clause-took
returns-clause-took c =
    let at : slice_get c.self.inside.script c.self.inside.board.next ≡ Some c.front-event.result.now = subst (λ (l : List Event). slice_get l c.self.inside.board.next ≡ Some c.front-event.result.now) c.events.ensures.value c.front-event.ensures in
    let f = front_due _ _ _ _ c.self.inside.board c.front-event.result.now c.self.invariant (ap state c.self.view_is) c.requires.due at in
    took_from _ _ _ _ c.self.inside.board c.take.new.board c.front-event.result.now _ c.self.invariant (ap state c.self.view_is) f.0 f.1 c.take.ensures

pub returns-clause-grows : goal.returns-clause-grows
returns-clause-grows c =
    let r = rest_now _ _ _ c.self.inside.board c.self.invariant _ (ap state c.self.view_is) c.requires.rest in
    let keeps = keeps_event _ _ _ c.self.inside.board c.self.invariant c.front-event.result.now c.take.new.board (omega arith) c.take.ensures (omega (arith, r)) in
    work_grows _ _ _ _ c.self.inside.board c.take.new.board c.self.invariant (ap state c.self.view_is) keeps (omega (arith, c.take.ensures.work_is))
