use Rattle.std.proofs.Common.{◌≡◌, ◌+◌, ◌-◌, ◌<◌, reverse, sym, ap, min, ◌∙◌, subst, arith}
use Rattle.std.specs.Prelude.{slice_get}
use Rattle.std.proofs.lemmas.Option.{slice_get_within}
use Rattle.ci_task.specs.declared.active.Active.{Active}
use Rattle.ci_task.specs.Spelled.{spelled}
use Rattle.ci_task.specs.Courses.{at_place}
use Rattle.ci_task.specs.Going.{next_place}
use Rattle.ci_task.proofs.Running.{Kept, Loop, kept_first, kept_on, kept_same, kept_tick, leads_tick, holds_can, holds_few, stands_in, weight, weight_on, light, loop_landed, loop_kept, loop_here, loop_within, loop_found, loop_next, loop_lands}
use Rattle.ci_task.proofs.run.go.Goals as goal

pub run-init : goal.run-init
run-init c = (loop_landed c.args.code.now (spelled c.args.code.now c.args.from (reverse c.args.callers.now.items) c.args.stack.now c.args.heard.now) c.args.before c.args.ticks c.args.from (reverse c.args.callers.now.items) c.args.stack.now c.args.heard.now 0 c.args.before c.function_at-function.result.now c.members-steps.result.now (kept_first c.args.code.now c.args.before c.args.ticks c.args.from (reverse c.args.callers.now.items) c.args.stack.now c.args.heard.now c.requires.code c.requires.before c.requires.holds) c.function_at-function.ensures c.members-steps.ensures, c.requires.capacity)

pub overflow_cast-place-in-run : goal.overflow_cast-place-in-run
overflow_cast-place-in-run c =
    let w = loop_within c.args.code.now (spelled c.args.code.now c.args.from (reverse c.args.callers.now.items) c.args.stack.now c.args.heard.now) c.args.before c.args.ticks c.run.landed c.run.place (reverse c.run.callers.items) c.run.stack c.run.heard c.run.used c.run.count c.run.function.now c.run.steps.now c.requires.code c.run.invariant.0 in
    record { fits = omega (arith, w.0, w.1) }

pub instruction_among-what-requires : goal.instruction_among-what-requires
instruction_among-what-requires c = (loop_within c.args.code.now (spelled c.args.code.now c.args.from (reverse c.args.callers.now.items) c.args.stack.now c.args.heard.now) c.args.before c.args.ticks c.run.landed c.run.place (reverse c.run.callers.items) c.run.stack c.run.heard c.run.used c.run.count c.run.function.now c.run.steps.now c.requires.code c.run.invariant.0).2

pub act-requires-clause-can : goal.act-requires-clause-can
act-requires-clause-can c =
    let k = loop_kept c.args.code.now (spelled c.args.code.now c.args.from (reverse c.args.callers.now.items) c.args.stack.now c.args.heard.now) c.args.before c.args.ticks c.run.landed c.at_place-at.result c.run.place (reverse c.run.callers.items) c.run.stack c.run.heard c.run.used c.run.count c.run.function.now c.run.steps.now c.at_place-at.ensures c.run.invariant.0 in
    holds_can c.args.code.now c.instruction_among-what.result.now c.at_place-at.result (reverse c.run.callers.items) c.run.stack c.run.heard c.requires.code c.requires.sound k.holds
    (loop_found c.args.code.now (spelled c.args.code.now c.args.from (reverse c.args.callers.now.items) c.args.stack.now c.args.heard.now) c.args.before c.args.ticks c.run.landed c.at_place-at.result c.run.place (reverse c.run.callers.items) c.run.stack c.run.heard c.run.used c.run.count c.run.function.now c.run.steps.now c.instruction_among-what.result.now c.at_place-at.ensures c.run.invariant.0 c.instruction_among-what.ensures)

pub act-requires-clause-within : goal.act-requires-clause-within
act-requires-clause-within c = omega (arith, ap (λ (a : Active). a.place) c.at_place-at.ensures, (loop_within c.args.code.now (spelled c.args.code.now c.args.from (reverse c.args.callers.now.items) c.args.stack.now c.args.heard.now) c.args.before c.args.ticks c.run.landed c.run.place (reverse c.run.callers.items) c.run.stack c.run.heard c.run.used c.run.count c.run.function.now c.run.steps.now c.requires.code c.run.invariant.0).0)

pub act-requires-clause-place : goal.act-requires-clause-place
act-requires-clause-place c =
    let w = loop_within c.args.code.now (spelled c.args.code.now c.args.from (reverse c.args.callers.now.items) c.args.stack.now c.args.heard.now) c.args.before c.args.ticks c.run.landed c.run.place (reverse c.run.callers.items) c.run.stack c.run.heard c.run.used c.run.count c.run.function.now c.run.steps.now c.requires.code c.run.invariant.0 in
    omega (arith, ap (λ (a : Active). a.place) c.at_place-at.ensures, w.0, w.1)

pub act-requires-clause-few : goal.act-requires-clause-few
act-requires-clause-few c = (holds_few c.args.code.now c.at_place-at.result (reverse c.run.callers.items) c.run.stack c.run.heard (loop_kept c.args.code.now (spelled c.args.code.now c.args.from (reverse c.args.callers.now.items) c.args.stack.now c.args.heard.now) c.args.before c.args.ticks c.run.landed c.at_place-at.result c.run.place (reverse c.run.callers.items) c.run.stack c.run.heard c.run.used c.run.count c.run.function.now c.run.steps.now c.at_place-at.ensures c.run.invariant.0).holds).0

pub run-smaller-in-Next : goal.run-smaller-in-Next
run-smaller-in-Next c =
    let less : weight c.args.code.now (spelled c.args.code.now (at_place (c.run.place + 1) c.run.landed) (reverse c.act.new.callers.items) c.act.new.stack c.act.new.heard) < weight c.args.code.now (spelled c.args.code.now (at_place c.run.place c.run.landed) (reverse c.run.callers.items) c.run.stack c.run.heard) =
    subst (λ (a : Active). weight c.args.code.now (spelled c.args.code.now (next_place a) (reverse c.act.new.callers.items) c.act.new.stack c.act.new.heard) < weight c.args.code.now (spelled c.args.code.now a (reverse c.run.callers.items) c.run.stack c.run.heard)) c.at_place-at.ensures
    (weight_on c.args.code.now c.at_place-at.result (next_place c.at_place-at.result) (reverse c.run.callers.items) (reverse c.act.new.callers.items) c.run.stack c.act.new.stack c.run.heard c.act.new.heard c.instruction_among-what.result.now c.requires.code c.requires.sound (loop_found c.args.code.now (spelled c.args.code.now c.args.from (reverse c.args.callers.now.items) c.args.stack.now c.args.heard.now) c.args.before c.args.ticks c.run.landed c.at_place-at.result c.run.place (reverse c.run.callers.items) c.run.stack c.run.heard c.run.used c.run.count c.run.function.now c.run.steps.now c.instruction_among-what.result.now c.at_place-at.ensures c.run.invariant.0 c.instruction_among-what.ensures) c.in-Next.ensures.leads) in
    omega (arith, less)

pub run-preserved-in-Next : goal.run-preserved-in-Next
run-preserved-in-Next c = (
  loop_next c.args.code.now (spelled c.args.code.now c.args.from (reverse c.args.callers.now.items) c.args.stack.now c.args.heard.now) c.args.before c.args.ticks c.run.landed c.at_place-at.result c.run.place (reverse c.run.callers.items) (reverse c.act.new.callers.items) c.run.stack c.act.new.stack c.run.heard c.act.new.heard c.run.used c.run.count c.run.function.now c.run.steps.now c.instruction_among-what.result.now c.requires.code c.requires.sound c.at_place-at.ensures c.run.invariant.0
      (loop_found c.args.code.now (spelled c.args.code.now c.args.from (reverse c.args.callers.now.items) c.args.stack.now c.args.heard.now) c.args.before c.args.ticks c.run.landed c.at_place-at.result c.run.place (reverse c.run.callers.items) c.run.stack c.run.heard c.run.used c.run.count c.run.function.now c.run.steps.now c.instruction_among-what.result.now c.at_place-at.ensures c.run.invariant.0 c.instruction_among-what.ensures) c.in-Next.ensures.leads,
  c.in-Next.ensures.capacity,
)

pub run-smaller-in-Jump : goal.run-smaller-in-Jump
run-smaller-in-Jump c =
    let less : weight c.args.code.now (spelled c.args.code.now (at_place c.in-Jump.to c.at_place-at.result) (reverse c.act.new.callers.items) c.act.new.stack c.act.new.heard) < weight c.args.code.now (spelled c.args.code.now c.at_place-at.result (reverse c.run.callers.items) c.run.stack c.run.heard) =
    weight_on c.args.code.now c.at_place-at.result (at_place c.in-Jump.to c.at_place-at.result) (reverse c.run.callers.items) (reverse c.act.new.callers.items) c.run.stack c.act.new.stack c.run.heard c.act.new.heard c.instruction_among-what.result.now c.requires.code c.requires.sound (loop_found c.args.code.now (spelled c.args.code.now c.args.from (reverse c.args.callers.now.items) c.args.stack.now c.args.heard.now) c.args.before c.args.ticks c.run.landed c.at_place-at.result c.run.place (reverse c.run.callers.items) c.run.stack c.run.heard c.run.used c.run.count c.run.function.now c.run.steps.now c.instruction_among-what.result.now c.at_place-at.ensures c.run.invariant.0 c.instruction_among-what.ensures) c.in-Jump.ensures.leads in
    let here : weight c.args.code.now (spelled c.args.code.now (at_place c.in-Jump.to c.at_place-landed.result) (reverse c.act.new.callers.items) c.act.new.stack c.act.new.heard) < weight c.args.code.now (spelled c.args.code.now (at_place c.run.place c.run.landed) (reverse c.run.callers.items) c.run.stack c.run.heard) =
    subst (λ (a : Active). weight c.args.code.now (spelled c.args.code.now (at_place c.in-Jump.to a) (reverse c.act.new.callers.items) c.act.new.stack c.act.new.heard) < weight c.args.code.now (spelled c.args.code.now (at_place c.run.place c.run.landed) (reverse c.run.callers.items) c.run.stack c.run.heard)) (sym c.at_place-landed.ensures)
    (subst (λ (a : Active). weight c.args.code.now (spelled c.args.code.now (at_place c.in-Jump.to c.at_place-at.result) (reverse c.act.new.callers.items) c.act.new.stack c.act.new.heard) < weight c.args.code.now (spelled c.args.code.now a (reverse c.run.callers.items) c.run.stack c.run.heard)) c.at_place-at.ensures less) in
    omega (arith, here)

pub run-preserved-in-Jump : goal.run-preserved-in-Jump
run-preserved-in-Jump c =
    let count : (c.run.count + (c.run.place - c.run.landed.place)) + 1 ≡ c.run.count + (c.passed.result + 1) = omega (arith, c.passed.ensures, ap (λ (a : Active). a.place) c.at_place-at.ensures) in (
      subst (λ n. Loop c.args.code.now (spelled c.args.code.now c.args.from (reverse c.args.callers.now.items) c.args.stack.now c.args.heard.now) c.args.before c.args.ticks c.at_place-landed.result c.in-Jump.to (reverse c.act.new.callers.items) c.act.new.stack c.act.new.heard c.run.used n c.run.function.now c.run.steps.now) count
          (subst (λ (a : Active). Loop c.args.code.now (spelled c.args.code.now c.args.from (reverse c.args.callers.now.items) c.args.stack.now c.args.heard.now) c.args.before c.args.ticks a c.in-Jump.to (reverse c.act.new.callers.items) c.act.new.stack c.act.new.heard c.run.used ((c.run.count + (c.run.place - c.run.landed.place)) + 1) c.run.function.now c.run.steps.now) (sym c.at_place-landed.ensures)
          (loop_lands c.args.code.now (spelled c.args.code.now c.args.from (reverse c.args.callers.now.items) c.args.stack.now c.args.heard.now) c.args.before c.args.ticks c.run.landed c.at_place-at.result (at_place c.in-Jump.to c.at_place-at.result) c.run.place (reverse c.run.callers.items) (reverse c.act.new.callers.items) c.run.stack c.act.new.stack c.run.heard c.act.new.heard c.run.used c.run.count c.run.function.now c.run.function.now c.run.steps.now c.run.steps.now c.instruction_among-what.result.now c.requires.code c.requires.sound c.at_place-at.ensures c.run.invariant.0
          (loop_found c.args.code.now (spelled c.args.code.now c.args.from (reverse c.args.callers.now.items) c.args.stack.now c.args.heard.now) c.args.before c.args.ticks c.run.landed c.at_place-at.result c.run.place (reverse c.run.callers.items) c.run.stack c.run.heard c.run.used c.run.count c.run.function.now c.run.steps.now c.instruction_among-what.result.now c.at_place-at.ensures c.run.invariant.0 c.instruction_among-what.ensures) c.in-Jump.ensures.leads
          (loop_here c.args.code.now (spelled c.args.code.now c.args.from (reverse c.args.callers.now.items) c.args.stack.now c.args.heard.now) c.args.before c.args.ticks c.run.landed c.at_place-at.result c.run.place (reverse c.run.callers.items) c.run.stack c.run.heard c.run.used c.run.count c.run.function.now c.run.steps.now c.at_place-at.ensures c.run.invariant.0) c.run.invariant.0.steps_are)),
      c.in-Jump.ensures.capacity,
    )

pub function_at-function-requires-in-To : goal.function_at-function-requires-in-To
function_at-function-requires-in-To c =
    let k = kept_on c.args.code.now (spelled c.args.code.now c.args.from (reverse c.args.callers.now.items) c.args.stack.now c.args.heard.now) c.args.before c.args.ticks c.at_place-at.result c.in-To.to (reverse c.run.callers.items) (reverse c.act.new.callers.items) c.run.stack c.act.new.stack c.run.heard c.act.new.heard c.run.used (c.run.count + (c.run.place - c.run.landed.place)) c.instruction_among-what.result.now c.requires.code c.requires.sound (loop_kept c.args.code.now (spelled c.args.code.now c.args.from (reverse c.args.callers.now.items) c.args.stack.now c.args.heard.now) c.args.before c.args.ticks c.run.landed c.at_place-at.result c.run.place (reverse c.run.callers.items) c.run.stack c.run.heard c.run.used c.run.count c.run.function.now c.run.steps.now c.at_place-at.ensures c.run.invariant.0)
    (loop_found c.args.code.now (spelled c.args.code.now c.args.from (reverse c.args.callers.now.items) c.args.stack.now c.args.heard.now) c.args.before c.args.ticks c.run.landed c.at_place-at.result c.run.place (reverse c.run.callers.items) c.run.stack c.run.heard c.run.used c.run.count c.run.function.now c.run.steps.now c.instruction_among-what.result.now c.at_place-at.ensures c.run.invariant.0 c.instruction_among-what.ensures) c.in-To.ensures.leads in
    let t = stands_in c.args.code.now c.in-To.to (reverse c.act.new.callers.items) c.act.new.stack c.act.new.heard c.requires.code k.holds in
    slice_get_within c.args.code.now.functions c.in-To.to.function t.0 t.1

pub run-smaller-in-To : goal.run-smaller-in-To
run-smaller-in-To c =
    let less : weight c.args.code.now (spelled c.args.code.now c.in-To.to (reverse c.act.new.callers.items) c.act.new.stack c.act.new.heard) < weight c.args.code.now (spelled c.args.code.now c.at_place-at.result (reverse c.run.callers.items) c.run.stack c.run.heard) =
    weight_on c.args.code.now c.at_place-at.result c.in-To.to (reverse c.run.callers.items) (reverse c.act.new.callers.items) c.run.stack c.act.new.stack c.run.heard c.act.new.heard c.instruction_among-what.result.now c.requires.code c.requires.sound (loop_found c.args.code.now (spelled c.args.code.now c.args.from (reverse c.args.callers.now.items) c.args.stack.now c.args.heard.now) c.args.before c.args.ticks c.run.landed c.at_place-at.result c.run.place (reverse c.run.callers.items) c.run.stack c.run.heard c.run.used c.run.count c.run.function.now c.run.steps.now c.instruction_among-what.result.now c.at_place-at.ensures c.run.invariant.0 c.instruction_among-what.ensures) c.in-To.ensures.leads in
    let here : weight c.args.code.now (spelled c.args.code.now (at_place c.in-To.to.place c.in-To.to) (reverse c.act.new.callers.items) c.act.new.stack c.act.new.heard) < weight c.args.code.now (spelled c.args.code.now (at_place c.run.place c.run.landed) (reverse c.run.callers.items) c.run.stack c.run.heard) =
    subst (λ (a : Active). weight c.args.code.now (spelled c.args.code.now c.in-To.to (reverse c.act.new.callers.items) c.act.new.stack c.act.new.heard) < weight c.args.code.now (spelled c.args.code.now a (reverse c.run.callers.items) c.run.stack c.run.heard)) c.at_place-at.ensures less in
    omega (arith, here)

pub run-preserved-in-To : goal.run-preserved-in-To
run-preserved-in-To c =
    let count : (c.run.count + (c.run.place - c.run.landed.place)) + 1 ≡ c.run.count + (c.passed-in-To.result + 1) = omega (arith, c.passed-in-To.ensures, ap (λ (a : Active). a.place) c.at_place-at.ensures) in (
      subst (λ n. Loop c.args.code.now (spelled c.args.code.now c.args.from (reverse c.args.callers.now.items) c.args.stack.now c.args.heard.now) c.args.before c.args.ticks c.in-To.to c.in-To.to.place (reverse c.act.new.callers.items) c.act.new.stack c.act.new.heard c.run.used n c.function_at-function-in-To.result.now c.members-steps-in-To.result.now) count
          (loop_lands c.args.code.now (spelled c.args.code.now c.args.from (reverse c.args.callers.now.items) c.args.stack.now c.args.heard.now) c.args.before c.args.ticks c.run.landed c.at_place-at.result c.in-To.to c.run.place (reverse c.run.callers.items) (reverse c.act.new.callers.items) c.run.stack c.act.new.stack c.run.heard c.act.new.heard c.run.used c.run.count c.run.function.now c.function_at-function-in-To.result.now c.run.steps.now c.members-steps-in-To.result.now c.instruction_among-what.result.now c.requires.code c.requires.sound c.at_place-at.ensures c.run.invariant.0
          (loop_found c.args.code.now (spelled c.args.code.now c.args.from (reverse c.args.callers.now.items) c.args.stack.now c.args.heard.now) c.args.before c.args.ticks c.run.landed c.at_place-at.result c.run.place (reverse c.run.callers.items) c.run.stack c.run.heard c.run.used c.run.count c.run.function.now c.run.steps.now c.instruction_among-what.result.now c.at_place-at.ensures c.run.invariant.0 c.instruction_among-what.ensures) c.in-To.ensures.leads c.function_at-function-in-To.ensures c.members-steps-in-To.ensures),
      c.in-To.ensures.capacity,
    )

pub next-landed-requires : goal.next-landed-requires
next-landed-requires c =
    let w = loop_within c.args.code.now (spelled c.args.code.now c.args.from (reverse c.args.callers.now.items) c.args.stack.now c.args.heard.now) c.args.before c.args.ticks c.run.landed c.run.place (reverse c.run.callers.items) c.run.stack c.run.heard c.run.used c.run.count c.run.function.now c.run.steps.now c.requires.code c.run.invariant.0 in
    omega (arith, ap (λ (a : Active). a.place) c.at_place-at.ensures, w.0, w.1)

pub run-smaller : goal.run-smaller
run-smaller c =
    let leads = c.in-Tick.ensures.leads in
    let kept = kept_same c.args.code.now (spelled c.args.code.now c.args.from (reverse c.args.callers.now.items) c.args.stack.now c.args.heard.now) c.args.before c.args.ticks c.at_place-at.result c.at_place-at.result (reverse c.run.callers.items) (reverse c.act.new.callers.items) c.run.stack c.act.new.stack c.run.heard c.act.new.heard c.run.used (c.run.count + (c.run.place - c.run.landed.place)) (loop_kept c.args.code.now (spelled c.args.code.now c.args.from (reverse c.args.callers.now.items) c.args.stack.now c.args.heard.now) c.args.before c.args.ticks c.run.landed c.at_place-at.result c.run.place (reverse c.run.callers.items) c.run.stack c.run.heard c.run.used c.run.count c.run.function.now c.run.steps.now c.at_place-at.ensures c.run.invariant.0) leads.0.1 leads.1 in
    let moved = kept_tick c.args.code.now (spelled c.args.code.now c.args.from (reverse c.args.callers.now.items) c.args.stack.now c.args.heard.now) c.args.before c.args.ticks c.at_place-at.result (reverse c.act.new.callers.items) c.act.new.stack c.act.new.heard c.run.used (c.run.count + (c.run.place - c.run.landed.place)) c.requires.code c.requires.sound kept (omega (arith, kept.within, c.if-used-ticks.false)) (leads_tick c.args.code.now c.instruction_among-what.result.now c.at_place-at.result c.at_place-at.result (reverse c.run.callers.items) (reverse c.act.new.callers.items) c.run.stack c.act.new.stack c.run.heard c.act.new.heard (loop_found c.args.code.now (spelled c.args.code.now c.args.from (reverse c.args.callers.now.items) c.args.stack.now c.args.heard.now) c.args.before c.args.ticks c.run.landed c.at_place-at.result c.run.place (reverse c.run.callers.items) c.run.stack c.run.heard c.run.used c.run.count c.run.function.now c.run.steps.now c.instruction_among-what.result.now c.at_place-at.ensures c.run.invariant.0 c.instruction_among-what.ensures) leads) in
    let counted : min (c.run.count + (c.run.place - c.run.landed.place)) 9223372036854775807 + 1 ≡ c.capped-count.result + 1 = omega (arith, c.capped-count.ensures, c.passed-count.ensures, ap (λ (a : Active). a.place) c.at_place-at.ensures) in
    let there : Kept c.args.code.now (spelled c.args.code.now c.args.from (reverse c.args.callers.now.items) c.args.stack.now c.args.heard.now) c.args.before c.args.ticks c.next-landed.result (reverse c.act.new.callers.items) c.act.new.stack c.act.new.heard (c.run.used + 1) (c.capped-count.result + 1) =
    subst (λ n. Kept c.args.code.now (spelled c.args.code.now c.args.from (reverse c.args.callers.now.items) c.args.stack.now c.args.heard.now) c.args.before c.args.ticks c.next-landed.result (reverse c.act.new.callers.items) c.act.new.stack c.act.new.heard (c.run.used + 1) n) counted
    (subst (λ (a : Active). Kept c.args.code.now (spelled c.args.code.now c.args.from (reverse c.args.callers.now.items) c.args.stack.now c.args.heard.now) c.args.before c.args.ticks a (reverse c.act.new.callers.items) c.act.new.stack c.act.new.heard (c.run.used + 1) (min (c.run.count + (c.run.place - c.run.landed.place)) 9223372036854775807 + 1)) (sym c.next-landed.ensures) moved) in
    let place : c.next-landed.result.place ≡ c.run.place + 1 = ap (λ (a : Active). a.place) c.next-landed.ensures ∙ ap (λ (a : Active). a.place + 1) c.at_place-at.ensures in
    let less : weight c.args.code.now (spelled c.args.code.now (at_place (c.run.place + 1) c.next-landed.result) (reverse c.act.new.callers.items) c.act.new.stack c.act.new.heard) < 35184372088832 =
    subst (λ p. weight c.args.code.now (spelled c.args.code.now (at_place p c.next-landed.result) (reverse c.act.new.callers.items) c.act.new.stack c.act.new.heard) < 35184372088832) place
    (light c.args.code.now c.next-landed.result (reverse c.act.new.callers.items) c.act.new.stack c.act.new.heard c.requires.code there.holds) in
    omega (arith, less, there.within)

pub run-preserved : goal.run-preserved
run-preserved c =
    let leads = c.in-Tick.ensures.leads in
    let kept = kept_same c.args.code.now (spelled c.args.code.now c.args.from (reverse c.args.callers.now.items) c.args.stack.now c.args.heard.now) c.args.before c.args.ticks c.at_place-at.result c.at_place-at.result (reverse c.run.callers.items) (reverse c.act.new.callers.items) c.run.stack c.act.new.stack c.run.heard c.act.new.heard c.run.used (c.run.count + (c.run.place - c.run.landed.place)) (loop_kept c.args.code.now (spelled c.args.code.now c.args.from (reverse c.args.callers.now.items) c.args.stack.now c.args.heard.now) c.args.before c.args.ticks c.run.landed c.at_place-at.result c.run.place (reverse c.run.callers.items) c.run.stack c.run.heard c.run.used c.run.count c.run.function.now c.run.steps.now c.at_place-at.ensures c.run.invariant.0) leads.0.1 leads.1 in
    let moved = kept_tick c.args.code.now (spelled c.args.code.now c.args.from (reverse c.args.callers.now.items) c.args.stack.now c.args.heard.now) c.args.before c.args.ticks c.at_place-at.result (reverse c.act.new.callers.items) c.act.new.stack c.act.new.heard c.run.used (c.run.count + (c.run.place - c.run.landed.place)) c.requires.code c.requires.sound kept (omega (arith, kept.within, c.if-used-ticks.false)) (leads_tick c.args.code.now c.instruction_among-what.result.now c.at_place-at.result c.at_place-at.result (reverse c.run.callers.items) (reverse c.act.new.callers.items) c.run.stack c.act.new.stack c.run.heard c.act.new.heard (loop_found c.args.code.now (spelled c.args.code.now c.args.from (reverse c.args.callers.now.items) c.args.stack.now c.args.heard.now) c.args.before c.args.ticks c.run.landed c.at_place-at.result c.run.place (reverse c.run.callers.items) c.run.stack c.run.heard c.run.used c.run.count c.run.function.now c.run.steps.now c.instruction_among-what.result.now c.at_place-at.ensures c.run.invariant.0 c.instruction_among-what.ensures) leads) in
    let counted : min (c.run.count + (c.run.place - c.run.landed.place)) 9223372036854775807 + 1 ≡ c.capped-count.result + 1 = omega (arith, c.capped-count.ensures, c.passed-count.ensures, ap (λ (a : Active). a.place) c.at_place-at.ensures) in
    let there : Kept c.args.code.now (spelled c.args.code.now c.args.from (reverse c.args.callers.now.items) c.args.stack.now c.args.heard.now) c.args.before c.args.ticks c.next-landed.result (reverse c.act.new.callers.items) c.act.new.stack c.act.new.heard (c.run.used + 1) (c.capped-count.result + 1) =
    subst (λ n. Kept c.args.code.now (spelled c.args.code.now c.args.from (reverse c.args.callers.now.items) c.args.stack.now c.args.heard.now) c.args.before c.args.ticks c.next-landed.result (reverse c.act.new.callers.items) c.act.new.stack c.act.new.heard (c.run.used + 1) n) counted
    (subst (λ (a : Active). Kept c.args.code.now (spelled c.args.code.now c.args.from (reverse c.args.callers.now.items) c.args.stack.now c.args.heard.now) c.args.before c.args.ticks a (reverse c.act.new.callers.items) c.act.new.stack c.act.new.heard (c.run.used + 1) (min (c.run.count + (c.run.place - c.run.landed.place)) 9223372036854775807 + 1)) (sym c.next-landed.ensures) moved) in
    let place : c.next-landed.result.place ≡ c.run.place + 1 = ap (λ (a : Active). a.place) c.next-landed.ensures ∙ ap (λ (a : Active). a.place + 1) c.at_place-at.ensures in (
      subst (λ p. Loop c.args.code.now (spelled c.args.code.now c.args.from (reverse c.args.callers.now.items) c.args.stack.now c.args.heard.now) c.args.before c.args.ticks c.next-landed.result p (reverse c.act.new.callers.items) c.act.new.stack c.act.new.heard (c.run.used + 1) (c.capped-count.result + 1) c.run.function.now c.run.steps.now) place
          (loop_landed c.args.code.now (spelled c.args.code.now c.args.from (reverse c.args.callers.now.items) c.args.stack.now c.args.heard.now) c.args.before c.args.ticks c.next-landed.result (reverse c.act.new.callers.items) c.act.new.stack c.act.new.heard (c.run.used + 1) (c.capped-count.result + 1) c.run.function.now c.run.steps.now there
          (ap (λ (a : Active). slice_get c.args.code.now.functions a.function) c.next-landed.ensures ∙ loop_here c.args.code.now (spelled c.args.code.now c.args.from (reverse c.args.callers.now.items) c.args.stack.now c.args.heard.now) c.args.before c.args.ticks c.run.landed c.at_place-at.result c.run.place (reverse c.run.callers.items) c.run.stack c.run.heard c.run.used c.run.count c.run.function.now c.run.steps.now c.at_place-at.ensures c.run.invariant.0) c.run.invariant.0.steps_are),
      c.in-Tick.ensures.capacity,
    )
