use Rattle.std.proofs.Common.{◌≡◌, ℕ, List, [], ◌∷◌, ◌++◌, Some, refl, sym, ap, ◌∙◌, arith}
use Rattle.std.proofs.lemmas.List.{append-nil}
use Rattle.std.proofs.lemmas.Option.{slice_get_within}
use Rattle.ci_base.specs.declared.value.Value.TheVariants.{Str}
use Rattle.ci_code.specs.declared.instruction.Instruction.TheVariants as does
use Rattle.ci_task.proofs.Acts.{can_push, does_push, text_there}
use Rattle.ci_task.proofs.rare.push_text.Goals as goal

pub text_at-text-requires : goal.text_at-text-requires
text_at-text-requires c =
    let t = text_there c.args.code.now c.args.number c.args.at c.args.stack.now c.requires.0 c.requires.1 c.requires.3 in
    slice_get_within c.args.code.now.texts c.args.number t.0 t.1

pub replace_by_text-requires-clause-room : goal.replace_by_text-requires-clause-room
replace_by_text-requires-clause-room c =
    let t = text_there c.args.code.now c.args.number c.args.at c.args.stack.now c.requires.0 c.requires.1 c.requires.3 in
    omega (arith, can_push c.args.code.now (does.PushStr c.args.number) c.args.at c.args.stack.now c.requires.0 c.requires.1 (Str t.0) t.2 c.requires.2 c.requires.3)

pub returns : goal.returns
returns c = λ callers heard s room.
    let t = text_there c.args.code.now c.args.number c.args.at c.args.stack.now callers heard room in
    let same : c.text_at-text.result.now ≡ t.0 = some_same c.text_at-text.result.now t.0 (sym c.text_at-text.ensures ∙ t.1) in
    does_push c.args.code.now (does.PushStr c.args.number) c.args.at c.args.stack.now c.replace_by_text.new.self callers heard (Str t.0) t.2 s
    (c.replace_by_text.ensures c.args.stack.now [] (sym (append-nil c.args.stack.now)) refl ∙ ap (λ (x : List ℕ). c.args.stack.now ++ Str x ∷ []) (c.bytes.ensures.value ∙ same))
  where
    some_same : (x y : List ℕ) → Some x ≡ Some y → x ≡ y
    some_same x y h = cc h
