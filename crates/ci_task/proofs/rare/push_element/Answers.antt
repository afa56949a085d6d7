use Rattle.std.proofs.Common.{ℕ, List, [], ◌∷◌, ◌++◌, refl, sym, ap, ◌∙◌, arith}
use Rattle.std.proofs.lemmas.List.{append-nil}
use Rattle.ci_base.specs.declared.value.Value.TheVariants.{Str}
use Rattle.ci_code.specs.declared.instruction.Instruction.TheVariants as does
use Rattle.ci_task.proofs.Acts.{can_push, does_push}
use Rattle.ci_task.proofs.rare.push_element.Goals as goal

pub replace_by_text-requires-clause-room : goal.replace_by_text-requires-clause-room
replace_by_text-requires-clause-room c = omega (arith, can_push c.args.code.now does.TakeText c.args.at c.args.stack.now c.requires.0 c.args.heard.now (Str c.args.heard.now.text) refl c.requires.1 c.requires.2)

pub returns : goal.returns
returns c = λ callers s room.
    does_push c.args.code.now does.TakeText c.args.at c.args.stack.now c.replace_by_text.new.self callers c.args.heard.now (Str c.args.heard.now.text) refl s
    (c.replace_by_text.ensures c.args.stack.now [] (sym (append-nil c.args.stack.now)) refl ∙ ap (λ (x : List ℕ). c.args.stack.now ++ Str x ∷ []) c.bytes.ensures.value)
