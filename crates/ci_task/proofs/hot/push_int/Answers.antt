use Rattle.std.proofs.Common.{ℤ, [], ◌∷◌, ◌++◌, refl, sym, ap, ◌∙◌, arith}
use Rattle.std.proofs.lemmas.List.{append-nil}
use Rattle.ci_base.specs.declared.value.Value.TheVariants.{Int}
use Rattle.ci_code.specs.declared.instruction.Instruction.TheVariants as does
use Rattle.ci_stack.proofs.Placing.{trip}
use Rattle.ci_task.proofs.Acts.{can_push, does_push}
use Rattle.ci_task.proofs.hot.push_int.Goals as goal

pub replace_by_number-requires-clause-room : goal.replace_by_number-requires-clause-room
replace_by_number-requires-clause-room c = omega (arith, can_push c.args.code.now (does.PushInt c.args.n) c.args.at c.args.stack.now c.requires.0 c.requires.1 (Int c.args.n) refl c.requires.2 c.requires.3)

pub returns : goal.returns
returns c = λ callers heard s room.
    does_push c.args.code.now (does.PushInt c.args.n) c.args.at c.args.stack.now c.replace_by_number.new.self callers heard (Int c.args.n) refl s
    (c.replace_by_number.ensures c.args.stack.now [] (sym (append-nil c.args.stack.now)) refl ∙ ap (λ (z : ℤ). c.args.stack.now ++ Int z ∷ []) (trip c.args.n c.ranges.n.sfits))
