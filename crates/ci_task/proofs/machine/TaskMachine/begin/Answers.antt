use Rattle.std.proofs.Common.{◌≡◌, ℕ, List, [], ◌++◌, length, map, drop, reverse, None, ap, ◌∙◌, arith}
use Rattle.ci_base.specs.declared.value.Value.{Value}
use Rattle.ci_base.specs.declared.value.Kind.{Kind}
use Rattle.ci_base.specs.Values.{first_of_kind}
use Rattle.ci_code.specs.declared.raw.RawFunction.{RawFunction}
use Rattle.ci_task.specs.declared.active.Active.{Active}
use Rattle.ci_task.specs.Moved.{Standing}
use Rattle.std.specs.Prelude.{pos, false}
use Rattle.std.proofs.lemmas.List.{length-drop}
use Rattle.ci_task.proofs.Moving.{begin_room, begins_here, fit_here, same_entered}
use Rattle.ci_task.proofs.machine.TaskMachine.begin.Goals as goal

pub kinds_from-requires : goal.kinds_from-requires
kinds_from-requires c =
    let fit = fit_here c.args.code.now c.parts-parts.result.now c.args.function c.args.args.now c.parts-parts.ensures.value c.requires in
    let one = same_entered c.parts-parts.result.now c.args.function c.args.args.now c.function_at-entered.result.now fit c.function_at-entered.ensures in
    let room = begin_room c.parts-parts.result.now c.args.function c.args.args.now c.parts-parts.ensures.kept c.parts-parts.ensures.sound fit in
    omega (arith, room.1, ap (λ (l : List Kind). length l) c.members.ensures, ap (λ (g : RawFunction). length g.locals) one, ap (λ (l : List Value). length l) c.values-given.ensures.value)

pub push_firsts-requires : goal.push_firsts-requires
push_firsts-requires c =
    let fit = fit_here c.args.code.now c.parts-parts.result.now c.args.function c.args.args.now c.parts-parts.ensures.value c.requires in
    let one = same_entered c.parts-parts.result.now c.args.function c.args.args.now c.function_at-entered.result.now fit c.function_at-entered.ensures in
    let room = begin_room c.parts-parts.result.now c.args.function c.args.args.now c.parts-parts.ensures.kept c.parts-parts.ensures.sound fit in
    let given : c.push_all.new.stack ≡ c.args.args.now = c.push_all.ensures ∙ ap (λ (l : List Value). l ++ c.values-given.result.now) c.cut.ensures ∙ c.values-given.ensures.value in
    omega (arith, room.0, room.1, ap (λ (l : List Value). length l) given, ap (λ (l : List Kind). length l) c.kinds_from.ensures, length-drop (length c.values-given.result.now) c.members.result.now, ap (λ (l : List Kind). length l) c.members.ensures, ap (λ (g : RawFunction). length g.locals) one, ap (λ (l : List Value). length l) c.values-given.ensures.value)

pub returns : goal.returns
returns c =
    let given : c.push_all.new.stack ≡ c.args.args.now = c.push_all.ensures ∙ ap (λ (l : List Value). l ++ c.values-given.result.now) c.cut.ensures ∙ c.values-given.ensures.value in
    let kinds : c.kinds_from.result.now ≡ drop (length c.args.args.now) c.function_at-entered.result.now.locals = c.kinds_from.ensures ∙ ap (λ (l : List Kind). drop (length c.values-given.result.now) l) c.members.ensures ∙ ap (λ (l : List Value). drop (length l) c.function_at-entered.result.now.locals) c.values-given.ensures.value in
    begins_here c.args.code.now c.parts-parts.result.now c.args.function c.args.args.now c.push_firsts.new.stack c.function_at-entered.result.now _ c.parts-parts.ensures.value c.parts-parts.ensures.kept c.parts-parts.ensures.sound c.requires c.function_at-entered.ensures
    (c.push_firsts.ensures ∙ ap (λ (l : List Value). l ++ map first_of_kind c.kinds_from.result.now) given ∙ ap (λ (l : List Kind). c.args.args.now ++ map first_of_kind l) kinds)
    (ap (λ (l : List Active). standing c.args.function c.function_at-entered.result.now.room l c.push_firsts.new.stack c.empty-self-inside.result) (ap (λ (l : List Active). reverse l) c.clear.ensures.items)
    ∙ ap (λ (l : List ℕ). standing c.args.function c.function_at-entered.result.now.room [] c.push_firsts.new.stack l) c.empty-self-inside.ensures)
  where
    standing : ℕ → ℕ → List Active → List Value → List ℕ → Standing
    standing f rooms callers values text = record { at = record { function = f; place = 0; base = 0; rooms = rooms }; callers = callers; values = values; heard = record { error = 0; sort = pos 0; text = text; goes_on = false }; count = 0; told = None }
