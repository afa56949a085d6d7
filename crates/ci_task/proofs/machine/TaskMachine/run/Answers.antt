use Rattle.std.proofs.Common.{◌≡◌, inl, inr, length, reverse, Some, None, refl, sym, ap, ◌∙◌, subst, arith}
use Rattle.std.proofs.lemmas.Option.{slice_get_within}
use Rattle.ci_base.specs.declared.request.Request.{Request}
use Rattle.ci_base.specs.Steps.{asks}
use Rattle.ci_code.specs.declared.raw.RawFunction.{RawFunction}
use Rattle.ci_task.specs.declared.went.Went.{Went}
use Rattle.ci_task.specs.Spelled.{spelled}
use Rattle.ci_task.specs.Running.{Stops}
use Rattle.ci_task.specs.Moved.{Asking}
use Rattle.ci_task.proofs.Running.{stands_in, same_function, found_at}
use Rattle.ci_task.proofs.Asking.{is_made}
use Rattle.ci_task.proofs.Moving.{held_here, out_of_ticks_here, asks_here, asking_of, told_here}
use Rattle.ci_task.proofs.machine.TaskMachine.run.Goals as goal

pub go-stop-requires-clause-holds : goal.go-stop-requires-clause-holds
go-stop-requires-clause-holds c = held_here c.args.code.now c.parts-parts.result.now c.requires.0 c.requires.1 (record { at = c.self.inside.at; callers = reverse c.self.inside.callers.items; values = c.self.inside.stack; heard = c.self.inside.heard; count = c.self.inside.count; told = c.self.inside.told }) c.args.self.now c.parts-parts.ensures.value c.self.view_is c.requires.2

pub function_at-function-requires : goal.function_at-function-requires
function_at-function-requires c =
    let t = stands_in c.parts-parts.result.now c.go-stop.result.at (reverse c.go-stop.new.callers.items) c.go-stop.new.stack c.go-stop.new.heard c.parts-parts.ensures.kept c.go-stop.ensures.holds in
    slice_get_within c.parts-parts.result.now.functions c.go-stop.result.at.function t.0 t.1

pub instruction_of-what-requires : goal.instruction_of-what-requires
instruction_of-what-requires c =
    let t = stands_in c.parts-parts.result.now c.go-stop.result.at (reverse c.go-stop.new.callers.items) c.go-stop.new.stack c.go-stop.new.heard c.parts-parts.ensures.kept c.go-stop.ensures.holds in
    omega (arith, ap (λ (f : RawFunction). length f.steps) (same_function c.function_at-function.result.now t.0 (sym c.function_at-function.ensures ∙ t.1)), t.2)

pub request-requires-clause-asks : goal.request-requires-clause-asks
request-requires-clause-asks c =
    let stops = subst (λ (w : Went). Stops c.parts-parts.result.now w (spelled c.parts-parts.result.now c.go-stop.result.at (reverse c.go-stop.new.callers.items) c.go-stop.new.stack c.go-stop.new.heard) c.go-stop.result.used c.args.ticks) c.in-Asks.is c.go-stop.ensures.stops in
    let asking = asking_of c.parts-parts.result.now c.go-stop.result.at (reverse c.go-stop.new.callers.items) c.go-stop.new.stack c.go-stop.new.heard c.instruction_of-what.result c.go-stop.ensures.holds.stacked stops (found_at c.parts-parts.result.now c.go-stop.result.at (reverse c.go-stop.new.callers.items) c.go-stop.new.stack c.go-stop.new.heard c.function_at-function.result.now c.instruction_of-what.result c.function_at-function.ensures c.instruction_of-what.ensures) in
    (stops.request, asking, is_made c.parts-parts.result.now c.instruction_of-what.result c.go-stop.new.stack stops.request c.parts-parts.ensures.sound asking)

pub returns-in-Tick : goal.returns-in-Tick
returns-in-Tick c = λ trail before h.
    let stops = subst (λ (w : Went). Stops c.parts-parts.result.now w (spelled c.parts-parts.result.now c.go-stop.result.at (reverse c.go-stop.new.callers.items) c.go-stop.new.stack c.go-stop.new.heard) c.go-stop.result.used c.args.ticks) c.in-Tick.is c.go-stop.ensures.stops in
    out_of_ticks_here c.args.code.now c.parts-parts.result.now trail before c.go-stop.result.used c.args.ticks (record { at = c.self.inside.at; callers = reverse c.self.inside.callers.items; values = c.self.inside.stack; heard = c.self.inside.heard; count = c.self.inside.count; told = c.self.inside.told }) c.args.self.now (record { at = c.go-stop.result.at; callers = reverse c.go-stop.new.callers.items; values = c.go-stop.new.stack; heard = c.go-stop.new.heard; count = c.go-stop.result.count; told = None }) c.parts-parts.ensures.value c.self.view_is h c.go-stop.ensures.runs c.go-stop.ensures.holds refl stops

pub returns-in-Ends : goal.returns-in-Ends
returns-in-Ends c = λ trail before h.
    let stops = subst (λ (w : Went). Stops c.parts-parts.result.now w (spelled c.parts-parts.result.now c.go-stop.result.at (reverse c.go-stop.new.callers.items) c.go-stop.new.stack c.go-stop.new.heard) c.go-stop.result.used c.args.ticks) c.in-Ends.is c.go-stop.ensures.stops in
    asks_here c.args.code.now c.parts-parts.result.now trail before c.go-stop.result.used c.args.ticks (record { at = c.self.inside.at; callers = reverse c.self.inside.callers.items; values = c.self.inside.stack; heard = c.self.inside.heard; count = c.self.inside.count; told = c.self.inside.told }) c.args.self.now (record { at = c.go-stop.result.at; callers = reverse c.go-stop.new.callers.items; values = c.go-stop.new.stack; heard = c.go-stop.new.heard; count = c.go-stop.result.count; told = Some c.behind_of.result }) _ c.parts-parts.ensures.value c.self.view_is h c.go-stop.ensures.runs c.go-stop.ensures.holds c.go-stop.ensures.used
    (told_here c.parts-parts.result.now (spelled c.parts-parts.result.now c.go-stop.result.at (reverse c.go-stop.new.callers.items) c.go-stop.new.stack c.go-stop.new.heard) c.instruction_of-what.result c.behind_of.result (found_at c.parts-parts.result.now c.go-stop.result.at (reverse c.go-stop.new.callers.items) c.go-stop.new.stack c.go-stop.new.heard c.function_at-function.result.now c.instruction_of-what.result c.function_at-function.ensures c.instruction_of-what.ensures) c.behind_of.ensures)
    (inr (c.in-Ends.code, stops)) stops tt

pub returns-in-Asks : goal.returns-in-Asks
returns-in-Asks c = λ trail before h.
    let stops = subst (λ (w : Went). Stops c.parts-parts.result.now w (spelled c.parts-parts.result.now c.go-stop.result.at (reverse c.go-stop.new.callers.items) c.go-stop.new.stack c.go-stop.new.heard) c.go-stop.result.used c.args.ticks) c.in-Asks.is c.go-stop.ensures.stops in
    let asking = asking_of c.parts-parts.result.now c.go-stop.result.at (reverse c.go-stop.new.callers.items) c.go-stop.new.stack c.go-stop.new.heard c.instruction_of-what.result c.go-stop.ensures.holds.stacked stops (found_at c.parts-parts.result.now c.go-stop.result.at (reverse c.go-stop.new.callers.items) c.go-stop.new.stack c.go-stop.new.heard c.function_at-function.result.now c.instruction_of-what.result c.function_at-function.ensures c.instruction_of-what.ensures) in
    let same : c.request.result ≡ stops.request = c.request.ensures stops.request asking in
    asks_here c.args.code.now c.parts-parts.result.now trail before c.go-stop.result.used c.args.ticks (record { at = c.self.inside.at; callers = reverse c.self.inside.callers.items; values = c.self.inside.stack; heard = c.self.inside.heard; count = c.self.inside.count; told = c.self.inside.told }) c.args.self.now (record { at = c.go-stop.result.at; callers = reverse c.go-stop.new.callers.items; values = c.go-stop.new.stack; heard = c.go-stop.new.heard; count = c.go-stop.result.count; told = Some c.behind_of-in-Asks.result }) c.request.result c.parts-parts.ensures.value c.self.view_is h c.go-stop.ensures.runs c.go-stop.ensures.holds c.go-stop.ensures.used
    (told_here c.parts-parts.result.now (spelled c.parts-parts.result.now c.go-stop.result.at (reverse c.go-stop.new.callers.items) c.go-stop.new.stack c.go-stop.new.heard) c.instruction_of-what.result c.behind_of-in-Asks.result (found_at c.parts-parts.result.now c.go-stop.result.at (reverse c.go-stop.new.callers.items) c.go-stop.new.stack c.go-stop.new.heard c.function_at-function.result.now c.instruction_of-what.result c.function_at-function.ensures c.instruction_of-what.ensures) c.behind_of-in-Asks.ensures)
    (inl stops) (stops.asks_it ∙ ap (λ (q : Request). asks q) (sym same)) (is_made c.parts-parts.result.now c.instruction_of-what.result c.go-stop.new.stack c.request.result c.parts-parts.ensures.sound (subst (λ (q : Request). Asking c.parts-parts.result.now c.instruction_of-what.result c.go-stop.new.stack q) (sym same) asking))
