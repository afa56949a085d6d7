use Rattle.std.proofs.Common.{◌≤◌, ◌+◌, ◌-◌, ℕ, refl, ap, ◌∙◌, arith, min}
use Rattle.ci_runtime.specs.Desks.{origin_of, state}
use Rattle.ci_runtime.specs.declared.board.Board.{Board}
use Rattle.ci_runtime.proofs.Entering.{tasks_stay, ask_begins, ask_counted, ask_formed, ask_there, room_left, work_grows}
use Rattle.ci_runtime.proofs.Keeping.{keeps_ask, keeps_out, layout_is}
use Rattle.ci_runtime.proofs.Turning.{bound_of, does_ask, does_out, formed_in, grant_bound, grant_is, more_ask, ran_asks, ran_out, situation}
use Rattle.ci_runtime.proofs.desk.Desk.go_on.Goals as goal

pub overflow_sub-rest : goal.overflow_sub-rest
overflow_sub-rest c =
    let st = situation _ _ _ _ c.self.inside.board _ _ c.self.invariant (ap state c.self.view_is) c.requires in
    omega (arith, st.rest, c.from.ensures)

pub ticks_of-before-requires-clause-least : goal.ticks_of-before-requires-clause-least
ticks_of-before-requires-clause-least c =
    let st = situation _ _ _ _ c.self.inside.board _ _ c.self.invariant (ap state c.self.view_is) c.requires in
    st.least

pub ticks_of-before-requires-clause-most : goal.ticks_of-before-requires-clause-most
ticks_of-before-requires-clause-most c =
    let st = situation _ _ _ _ c.self.inside.board _ _ c.self.invariant (ap state c.self.view_is) c.requires in
    st.most

pub run-requires-clause-one : goal.run-requires-clause-one
run-requires-clause-one c =
    let st = situation _ _ _ _ c.self.inside.board _ _ c.self.invariant (ap state c.self.view_is) c.requires in
    st.least

pub run-requires-clause-there : goal.run-requires-clause-there
run-requires-clause-there c =
    let st = situation _ _ _ _ c.self.inside.board _ _ c.self.invariant (ap state c.self.view_is) c.requires in
    (st.machine, st.there, (_, st.before, st.along))

pub overflow_add-before : goal.overflow_add-before
overflow_add-before c =
    let st = situation _ _ _ _ c.self.inside.board _ _ c.self.invariant (ap state c.self.view_is) c.requires in
    let g_is = grant_is _ _ _ _ _ _ _ c.min-granted.ensures c.from-2.ensures c.from.ensures refl in
    let g = grant_bound _ _ _ _ g_is st.rest st.some in
    let r = ran_out _ _ _ c.self.inside.board _ _ st _ _ _ _ _ c.ticks_of-before.ensures c.run.ensures c.in-OutOfTicks.is in
    omega (arith, g.1, r.0, bound_of _ _ _ _ c.self.invariant _ _ c.in-OutOfTicks.ticks _ st c.ticks_of-before.ensures)

pub invariant_of-self : goal.invariant_of-self
invariant_of-self c =
    let st = situation _ _ _ _ c.self.inside.board _ _ c.self.invariant (ap state c.self.view_is) c.requires in
    let g_is = grant_is _ _ _ _ _ _ _ c.min-granted.ensures c.from-2.ensures c.from.ensures refl in
    let g = grant_bound _ _ _ _ g_is st.rest st.some in
    let r = ran_out _ _ _ c.self.inside.board _ _ st _ _ _ _ _ c.ticks_of-before.ensures c.run.ensures c.in-OutOfTicks.is in
    let b' : Board = record { notes = c.set_ticks.new.self; seats = c.run.new.self; store = c.self.inside.board.store; next = c.self.inside.board.next; last = c.self.inside.board.last; work = c.self.inside.board.work + c.from-in-OutOfTicks.result; instructions = c.self.inside.board.instructions } in
    let keeps = keeps_out _ _ _ _ c.self.invariant _ _ _ _ r.1.machine st.ready c.ticks_of-before.ensures r.1.changed r.1.there r.1.along b' c.set_ticks.ensures refl refl refl refl (ap (λ (x : ℕ). c.self.inside.board.work + x) c.from-in-OutOfTicks.ensures) refl (omega (arith, g.1, r.0)) in
    keeps

pub returns-in-OutOfTicks-clause-does : goal.returns-in-OutOfTicks-clause-does
returns-in-OutOfTicks-clause-does c =
    let st = situation _ _ _ _ c.self.inside.board _ _ c.self.invariant (ap state c.self.view_is) c.requires in
    let g_is = grant_is _ _ _ _ _ _ _ c.min-granted.ensures c.from-2.ensures c.from.ensures refl in
    let g = grant_bound _ _ _ _ g_is st.rest st.some in
    let r = ran_out _ _ _ c.self.inside.board _ _ st _ _ _ _ _ c.ticks_of-before.ensures c.run.ensures c.in-OutOfTicks.is in
    let b' : Board = record { notes = c.set_ticks.new.self; seats = c.run.new.self; store = c.self.inside.board.store; next = c.self.inside.board.next; last = c.self.inside.board.last; work = c.self.inside.board.work + c.from-in-OutOfTicks.result; instructions = c.self.inside.board.instructions } in
    does_out _ _ _ _ c.self.invariant _ _ c.in-OutOfTicks.ticks _ st c.ticks_of-before.ensures _ (ap state c.self.view_is) _ b' c.set_ticks.ensures refl r.1 (r.0 ∙ g_is)

pub returns-in-OutOfTicks-clause-grows : goal.returns-in-OutOfTicks-clause-grows
returns-in-OutOfTicks-clause-grows c =
    let st = situation _ _ _ _ c.self.inside.board _ _ c.self.invariant (ap state c.self.view_is) c.requires in
    let g_is = grant_is _ _ _ _ _ _ _ c.min-granted.ensures c.from-2.ensures c.from.ensures refl in
    let g = grant_bound _ _ _ _ g_is st.rest st.some in
    let r = ran_out _ _ _ c.self.inside.board _ _ st _ _ _ _ _ c.ticks_of-before.ensures c.run.ensures c.in-OutOfTicks.is in
    let b' : Board = record { notes = c.set_ticks.new.self; seats = c.run.new.self; store = c.self.inside.board.store; next = c.self.inside.board.next; last = c.self.inside.board.last; work = c.self.inside.board.work + c.from-in-OutOfTicks.result; instructions = c.self.inside.board.instructions } in
    let keeps = keeps_out _ _ _ _ c.self.invariant _ _ _ _ r.1.machine st.ready c.ticks_of-before.ensures r.1.changed r.1.there r.1.along b' c.set_ticks.ensures refl refl refl refl (ap (λ (x : ℕ). c.self.inside.board.work + x) c.from-in-OutOfTicks.ensures) refl (omega (arith, g.1, r.0)) in
    work_grows _ _ _ _ c.self.inside.board b' c.self.invariant (ap state c.self.view_is) keeps (omega (arith, g.2, r.0, c.from-in-OutOfTicks.ensures))

pub invariant_of-self-in-Asks : goal.invariant_of-self-in-Asks
invariant_of-self-in-Asks c =
    let st = situation _ _ _ _ c.self.inside.board _ _ c.self.invariant (ap state c.self.view_is) c.requires in
    let g_is = grant_is _ _ _ _ _ _ _ c.min-granted.ensures c.from-2.ensures c.from.ensures refl in
    let g = grant_bound _ _ _ _ g_is st.rest st.some in
    let r = ran_asks _ _ _ c.self.inside.board _ _ st _ _ _ _ _ _ c.ticks_of-before.ensures c.run.ensures c.in-Asks.is in
    let keeps = keeps_ask _ _ _ _ c.self.invariant _ _ _ _ _ _ st.ready (formed_in (origin_of c.self.inside.program.now c.self.inside.script) c.self.inside.code.now (layout_is _ _ c.self.invariant.has_code) _ r.1.made) c.ticks_of-before.ensures r.1 c.enter-answered.ensures.entered (omega (arith, g.1, r.0)) in
    keeps

pub returns-in-Asks-clause-does : goal.returns-in-Asks-clause-does
returns-in-Asks-clause-does c =
    let st = situation _ _ _ _ c.self.inside.board _ _ c.self.invariant (ap state c.self.view_is) c.requires in
    let g_is = grant_is _ _ _ _ _ _ _ c.min-granted.ensures c.from-2.ensures c.from.ensures refl in
    let g = grant_bound _ _ _ _ g_is st.rest st.some in
    let r = ran_asks _ _ _ c.self.inside.board _ _ st _ _ _ _ _ _ c.ticks_of-before.ensures c.run.ensures c.in-Asks.is in
    let keeps = keeps_ask _ _ _ _ c.self.invariant _ _ _ _ _ _ st.ready (formed_in (origin_of c.self.inside.program.now c.self.inside.script) c.self.inside.code.now (layout_is _ _ c.self.invariant.has_code) _ r.1.made) c.ticks_of-before.ensures r.1 c.enter-answered.ensures.entered (omega (arith, g.1, r.0)) in
    let within : c.in-Asks.ticks ≤ min c.args.left (c.self.inside.limits.budget - c.self.inside.board.work - 100) = omega (arith, r.0, g_is) in
    let rest_is = ap (λ (x : ℕ). x - c.enter-answered.new.board.work) c.from-in-Asks.ensures in
    does_ask _ _ _ _ c.self.invariant _ _ _ _ st c.ticks_of-before.ensures _ _ _ r.1 c.enter-answered.ensures.entered keeps _ _ _ _ c.enter-answered.ensures.answered c.is_suspended-suspended.ensures rest_is c.still_left.ensures _ (ap state c.self.view_is) within

pub returns-in-Asks-clause-more : goal.returns-in-Asks-clause-more
returns-in-Asks-clause-more c =
    let st = situation _ _ _ _ c.self.inside.board _ _ c.self.invariant (ap state c.self.view_is) c.requires in
    let g_is = grant_is _ _ _ _ _ _ _ c.min-granted.ensures c.from-2.ensures c.from.ensures refl in
    let g = grant_bound _ _ _ _ g_is st.rest st.some in
    let r = ran_asks _ _ _ c.self.inside.board _ _ st _ _ _ _ _ _ c.ticks_of-before.ensures c.run.ensures c.in-Asks.is in
    let keeps = keeps_ask _ _ _ _ c.self.invariant _ _ _ _ _ _ st.ready (formed_in (origin_of c.self.inside.program.now c.self.inside.script) c.self.inside.code.now (layout_is _ _ c.self.invariant.has_code) _ r.1.made) c.ticks_of-before.ensures r.1 c.enter-answered.ensures.entered (omega (arith, g.1, r.0)) in
    let within : c.in-Asks.ticks ≤ min c.args.left (c.self.inside.limits.budget - c.self.inside.board.work - 100) = omega (arith, r.0, g_is) in
    let rest_is = ap (λ (x : ℕ). x - c.enter-answered.new.board.work) c.from-in-Asks.ensures in
    more_ask _ _ _ _ c.self.invariant _ _ _ _ st c.ticks_of-before.ensures _ _ _ r.1 c.enter-answered.ensures.entered keeps _ _ _ _ c.enter-answered.ensures.answered c.is_suspended-suspended.ensures rest_is c.still_left.ensures

pub returns-in-Asks-clause-grows : goal.returns-in-Asks-clause-grows
returns-in-Asks-clause-grows c =
    let st = situation _ _ _ _ c.self.inside.board _ _ c.self.invariant (ap state c.self.view_is) c.requires in
    let g_is = grant_is _ _ _ _ _ _ _ c.min-granted.ensures c.from-2.ensures c.from.ensures refl in
    let g = grant_bound _ _ _ _ g_is st.rest st.some in
    let r = ran_asks _ _ _ c.self.inside.board _ _ st _ _ _ _ _ _ c.ticks_of-before.ensures c.run.ensures c.in-Asks.is in
    let keeps = keeps_ask _ _ _ _ c.self.invariant _ _ _ _ _ _ st.ready (formed_in (origin_of c.self.inside.program.now c.self.inside.script) c.self.inside.code.now (layout_is _ _ c.self.invariant.has_code) _ r.1.made) c.ticks_of-before.ensures r.1 c.enter-answered.ensures.entered (omega (arith, g.1, r.0)) in
    work_grows _ _ _ _ c.self.inside.board c.enter-answered.new.board c.self.invariant (ap state c.self.view_is) keeps (omega (arith, c.enter-answered.ensures.entered.work_is))

pub enter-answered-requires-clause-ready : goal.enter-answered-requires-clause-ready
enter-answered-requires-clause-ready c =
    let st = situation _ _ _ _ c.self.inside.board _ _ c.self.invariant (ap state c.self.view_is) c.requires in
    st.ready

pub enter-answered-requires-clause-formed : goal.enter-answered-requires-clause-formed
enter-answered-requires-clause-formed c =
    let st = situation _ _ _ _ c.self.inside.board _ _ c.self.invariant (ap state c.self.view_is) c.requires in
    let r = ran_asks _ _ _ c.self.inside.board _ _ st _ _ _ _ _ _ c.ticks_of-before.ensures c.run.ensures c.in-Asks.is in
    ask_formed _ _ _ c.self.inside.board c.self.invariant _ _ _ _ _ _ st r.1

pub enter-answered-requires-clause-least : goal.enter-answered-requires-clause-least
enter-answered-requires-clause-least c =
    let st = situation _ _ _ _ c.self.inside.board _ _ c.self.invariant (ap state c.self.view_is) c.requires in
    st.least

pub enter-answered-requires-clause-most : goal.enter-answered-requires-clause-most
enter-answered-requires-clause-most c =
    let st = situation _ _ _ _ c.self.inside.board _ _ c.self.invariant (ap state c.self.view_is) c.requires in
    st.most

pub enter-answered-requires-clause-room : goal.enter-answered-requires-clause-room
enter-answered-requires-clause-room c =
    let st = situation _ _ _ _ c.self.inside.board _ _ c.self.invariant (ap state c.self.view_is) c.requires in
    room_left _ _ _ c.self.inside.board c.self.invariant st.rest

pub enter-answered-requires-clause-begins : goal.enter-answered-requires-clause-begins
enter-answered-requires-clause-begins c =
    let st = situation _ _ _ _ c.self.inside.board _ _ c.self.invariant (ap state c.self.view_is) c.requires in
    let r = ran_asks _ _ _ c.self.inside.board _ _ st _ _ _ _ _ _ c.ticks_of-before.ensures c.run.ensures c.in-Asks.is in
    ask_begins _ _ _ c.self.inside.board c.self.invariant _ _ _ _ _ _ st r.1

pub enter-answered-requires-clause-there : goal.enter-answered-requires-clause-there
enter-answered-requires-clause-there c =
    let st = situation _ _ _ _ c.self.inside.board _ _ c.self.invariant (ap state c.self.view_is) c.requires in
    let r = ran_asks _ _ _ c.self.inside.board _ _ st _ _ _ _ _ _ c.ticks_of-before.ensures c.run.ensures c.in-Asks.is in
    ask_there _ _ _ c.self.inside.board c.self.invariant _ _ _ _ _ _ st r.1

pub enter-answered-requires-clause-work : goal.enter-answered-requires-clause-work
enter-answered-requires-clause-work c =
    let st = situation _ _ _ _ c.self.inside.board _ _ c.self.invariant (ap state c.self.view_is) c.requires in
    let g_is = grant_is _ _ _ _ _ _ _ c.min-granted.ensures c.from-2.ensures c.from.ensures refl in
    let g = grant_bound _ _ _ _ g_is st.rest st.some in
    let r = ran_asks _ _ _ c.self.inside.board _ _ st _ _ _ _ _ _ c.ticks_of-before.ensures c.run.ensures c.in-Asks.is in
    omega (arith, g.1, r.0, st.rest, c.from.ensures)

pub enter-answered-requires-clause-instructions : goal.enter-answered-requires-clause-instructions
enter-answered-requires-clause-instructions c =
    ask_counted _ _ _ c.self.inside.board c.self.invariant

pub overflow_add-used : goal.overflow_add-used
overflow_add-used c =
    let st = situation _ _ _ _ c.self.inside.board _ _ c.self.invariant (ap state c.self.view_is) c.requires in
    let g_is = grant_is _ _ _ _ _ _ _ c.min-granted.ensures c.from-2.ensures c.from.ensures refl in
    let g = grant_bound _ _ _ _ g_is st.rest st.some in
    let r = ran_asks _ _ _ c.self.inside.board _ _ st _ _ _ _ _ _ c.ticks_of-before.ensures c.run.ensures c.in-Asks.is in
    omega (arith, g.1, r.0, bound_of _ _ _ _ c.self.invariant _ _ c.in-Asks.ticks _ st c.ticks_of-before.ensures)

pub is_suspended-suspended-requires-clause-least : goal.is_suspended-suspended-requires-clause-least
is_suspended-suspended-requires-clause-least c =
    let st = situation _ _ _ _ c.self.inside.board _ _ c.self.invariant (ap state c.self.view_is) c.requires in
    st.least

pub is_suspended-suspended-requires-clause-most : goal.is_suspended-suspended-requires-clause-most
is_suspended-suspended-requires-clause-most c =
    let st = situation _ _ _ _ c.self.inside.board _ _ c.self.invariant (ap state c.self.view_is) c.requires in
    let g_is = grant_is _ _ _ _ _ _ _ c.min-granted.ensures c.from-2.ensures c.from.ensures refl in
    let g = grant_bound _ _ _ _ g_is st.rest st.some in
    let r = ran_asks _ _ _ c.self.inside.board _ _ st _ _ _ _ _ _ c.ticks_of-before.ensures c.run.ensures c.in-Asks.is in
    let keeps = keeps_ask _ _ _ _ c.self.invariant _ _ _ _ _ _ st.ready (formed_in (origin_of c.self.inside.program.now c.self.inside.script) c.self.inside.code.now (layout_is _ _ c.self.invariant.has_code) _ r.1.made) c.ticks_of-before.ensures r.1 c.enter-answered.ensures.entered (omega (arith, g.1, r.0)) in
    tasks_stay _ _ _ _ _ _ _ c.self.invariant keeps st c.enter-answered.ensures.entered

pub overflow_sub-rest-in-Asks : goal.overflow_sub-rest-in-Asks
overflow_sub-rest-in-Asks c =
    let st = situation _ _ _ _ c.self.inside.board _ _ c.self.invariant (ap state c.self.view_is) c.requires in
    let g_is = grant_is _ _ _ _ _ _ _ c.min-granted.ensures c.from-2.ensures c.from.ensures refl in
    let g = grant_bound _ _ _ _ g_is st.rest st.some in
    let r = ran_asks _ _ _ c.self.inside.board _ _ st _ _ _ _ _ _ c.ticks_of-before.ensures c.run.ensures c.in-Asks.is in
    let keeps = keeps_ask _ _ _ _ c.self.invariant _ _ _ _ _ _ st.ready (formed_in (origin_of c.self.inside.program.now c.self.inside.script) c.self.inside.code.now (layout_is _ _ c.self.invariant.has_code) _ r.1.made) c.ticks_of-before.ensures r.1 c.enter-answered.ensures.entered (omega (arith, g.1, r.0)) in
    omega (arith, keeps.within, c.from-in-Asks.ensures)

pub overflow_sub-left : goal.overflow_sub-left
overflow_sub-left c =
    let st = situation _ _ _ _ c.self.inside.board _ _ c.self.invariant (ap state c.self.view_is) c.requires in
    let g_is = grant_is _ _ _ _ _ _ _ c.min-granted.ensures c.from-2.ensures c.from.ensures refl in
    let g = grant_bound _ _ _ _ g_is st.rest st.some in
    let r = ran_asks _ _ _ c.self.inside.board _ _ st _ _ _ _ _ _ c.ticks_of-before.ensures c.run.ensures c.in-Asks.is in
    omega (arith, g.0, r.0)
