use Rattle.std.proofs.Common.{◌<◌, ℤ, [], ◌∷◌, ◌++◌, refl, sym, ap, rules, ◌∙◌, arith}
use Rattle.std.specs.Int.Signed.{mag}
use Rattle.std.proofs.lemmas.List.{append-nil}
use Rattle.ci_base.specs.declared.value.Value.TheVariants.{Int}
use Rattle.ci_code.specs.declared.instruction.Instruction.TheVariants as does
use Rattle.ci_stack.proofs.Placing.{trip}
use Rattle.ci_task.proofs.Acts.{can_push, does_push}
use Rattle.ci_task.proofs.rare.push_sort.Goals as goal

pub replace_by_number-requires-clause-room : goal.replace_by_number-requires-clause-room
replace_by_number-requires-clause-room c = omega (arith, can_push c.args.code.now does.TakeSort c.args.at c.args.stack.now c.requires.0 c.args.heard.now (Int c.args.heard.now.sort) refl c.requires.1 c.requires.2)

pub returns : goal.returns
returns c = λ callers s room.
    let small : mag c.args.heard.now.sort < 2147483648 = search rules in
    does_push c.args.code.now does.TakeSort c.args.at c.args.stack.now c.replace_by_number.new.self callers c.args.heard.now (Int c.args.heard.now.sort) refl s
    (c.replace_by_number.ensures c.args.stack.now [] (sym (append-nil c.args.stack.now)) refl ∙ ap (λ (z : ℤ). c.args.stack.now ++ Int z ∷ []) (trip c.args.heard.now.sort small))
