use Rattle.std.proofs.Common.{◌≡◌, ◌+◌, ◌-◌, ◌≤◌, List, [], ◌∷◌, ◌++◌, length, drop, reverse, map, refl, sym, ap, ◌∙◌, subst, arith}
use Rattle.std.proofs.lemmas.List.{reverse-append}
use Rattle.std.proofs.lemmas.Option.{slice_get_within}
use Rattle.ci_base.specs.Values.{first_of_kind}
use Rattle.ci_code.specs.declared.raw.RawFunction.{RawFunction}
use Rattle.ci_base.specs.declared.bounds.TheConstants.{MOST_ROOM}
use Rattle.ci_base.specs.declared.value.Kind.{Kind}
use Rattle.ci_code.specs.Moves.{parameters_of}
use Rattle.ci_task.specs.declared.active.Active.{Active}
use Rattle.ci_task.proofs.Calling.{call_there, call_fits, call_ends, call_done, args_there, parameters_few, same_function}
use Rattle.ci_task.proofs.calls.call.Goals as goal

pub function_at-function-requires : goal.function_at-function-requires
function_at-function-requires c =
    let t = call_there c.args.code.now c.args.number c.args.at (reverse c.args.callers.now.items) c.args.stack.now c.args.heard.now c.requires.can in
    slice_get_within c.args.code.now.functions c.args.number t.function t.found

pub returns-then-rooms-gt-MOST_ROOM-clause-leads : goal.returns-then-rooms-gt-MOST_ROOM-clause-leads
returns-then-rooms-gt-MOST_ROOM-clause-leads c =
    let t = call_there c.args.code.now c.args.number c.args.at (reverse c.args.callers.now.items) c.args.stack.now c.args.heard.now c.requires.can in
    let same = same_function c.function_at-function.result.now t.function (sym c.function_at-function.ensures ∙ t.found) in
    call_ends c.args.code.now c.args.number c.args.at (reverse c.args.callers.now.items) c.args.stack.now c.args.heard.now c.requires.can t (omega (arith, c.if-rooms-gt-MOST_ROOM.true, ap (λ (g : RawFunction). g.room) same))

pub parameters-taken-requires : goal.parameters-taken-requires
parameters-taken-requires c =
    let t = call_there c.args.code.now c.args.number c.args.at (reverse c.args.callers.now.items) c.args.stack.now c.args.heard.now c.requires.can in
    omega (arith, slice_get_within c.args.code.now.functions c.args.number t.function t.found, c.requires.code.one_each)

pub overflow_sub-base : goal.overflow_sub-base
overflow_sub-base c =
    let t = call_there c.args.code.now c.args.number c.args.at (reverse c.args.callers.now.items) c.args.stack.now c.args.heard.now c.requires.can in
    omega (arith, c.count.ensures.value, c.parameters-taken.ensures, args_there c.args.code.now c.args.number c.args.at (reverse c.args.callers.now.items) c.args.stack.now c.args.heard.now t)

pub kinds_from-requires : goal.kinds_from-requires
kinds_from-requires c =
    omega (arith, c.parameters-taken.ensures, ap (λ (l : List Kind). length l) c.members.ensures, parameters_few c.args.code.now c.args.number c.function_at-function.result.now c.requires.code c.function_at-function.ensures)

pub push_firsts-requires : goal.push_firsts-requires
push_firsts-requires c =
    let t = call_there c.args.code.now c.args.number c.args.at (reverse c.args.callers.now.items) c.args.stack.now c.args.heard.now c.requires.can in
    let same = same_function c.function_at-function.result.now t.function (sym c.function_at-function.ensures ∙ t.found) in
    let wide : t.function.room + c.args.at.rooms ≤ MOST_ROOM = subst (λ (g : RawFunction). g.room + c.args.at.rooms ≤ MOST_ROOM) same (omega (arith, c.if-rooms-gt-MOST_ROOM.false)) in
    let kinds : c.kinds_from.result.now ≡ drop (length (parameters_of c.args.code.now c.args.number)) t.function.locals =
    c.kinds_from.ensures ∙ ap (λ (l : List Kind). drop c.parameters-taken.result l) c.members.ensures ∙ ap (λ n. drop n c.function_at-function.result.now.locals) c.parameters-taken.ensures ∙ ap (λ (g : RawFunction). drop (length (parameters_of c.args.code.now c.args.number)) g.locals) same in
    omega (arith, ap (λ (l : List Kind). length l) kinds, call_fits c.args.code.now c.args.number c.args.at (reverse c.args.callers.now.items) c.args.stack.now c.args.heard.now c.requires.code c.requires.sound c.requires.can t wide)

pub returns-clause-leads : goal.returns-clause-leads
returns-clause-leads c =
    call_done c.args.code.now c.args.number c.args.at (reverse c.args.callers.now.items) (reverse c.push.new.self.items) c.args.stack.now c.push_firsts.new.stack c.args.heard.now c.function_at-function.result.now c.parameters-taken.result (c.count.result - c.parameters-taken.result) (c.args.at.rooms + c.function_at-function.result.now.room)
    c.requires.code c.requires.sound c.requires.can c.function_at-function.ensures (omega (arith, c.if-rooms-gt-MOST_ROOM.false)) c.parameters-taken.ensures (ap (λ n. n - c.parameters-taken.result) c.count.ensures.value) refl
    (ap (λ (l : List Active). reverse l) c.in-Ok.ensures.items ∙ reverse-append c.args.callers.now.items (c.next.result ∷ []) ∙ ap (λ (a : Active). a ∷ reverse c.args.callers.now.items) c.next.ensures)
    (c.push_firsts.ensures ∙ ap (λ (l : List Kind). c.args.stack.now ++ map first_of_kind l) (c.kinds_from.ensures ∙ ap (λ (l : List Kind). drop c.parameters-taken.result l) c.members.ensures))
