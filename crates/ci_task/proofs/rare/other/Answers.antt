use Rattle.std.proofs.Common.{ℤ, sym, ap, ◌∙◌, subst, rules, ◌<◌}
use Rattle.std.specs.Int.Signed.{mag}
use Rattle.ci_code.specs.declared.instruction.Instruction.{Instruction}
use Rattle.ci_code.specs.declared.instruction.Instruction.TheVariants as does
use Rattle.ci_stack.proofs.Placing.{trip}
use Rattle.ci_task.specs.Going.{Can, Does, next_place}
use Rattle.ci_task.proofs.Leading.{does_heard}
use Rattle.ci_task.proofs.rare.other.Goals as goal

pub push_int-requires : goal.push_int-requires
push_int-requires c =
    let small : mag c.in-PushInt.n < 2147483648 = search rules in
    let can : Can c.args.code.now c.args.what c.args.at c.args.stack.now = (c.requires.can.0, c.args.heard.now, c.requires.can.1, c.requires.can.2) in
    subst (λ (w : Instruction). Can c.args.code.now w c.args.at c.args.stack.now) (c.in-PushInt.is ∙ ap (λ (z : ℤ). does.PushInt z) (sym (trip c.in-PushInt.n small))) can

pub returns-in-PushInt : goal.returns-in-PushInt
returns-in-PushInt c =
    let small : mag c.in-PushInt.n < 2147483648 = search rules in
    does_heard c.args.code.now c.args.what c.args.at c.args.stack.now c.push_int.new.stack c.args.heard.now
    (subst (λ (w : Instruction). Does c.args.code.now w c.args.at c.args.stack.now (next_place c.args.at) c.push_int.new.stack) (ap (λ (z : ℤ). does.PushInt z) (trip c.in-PushInt.n small) ∙ sym c.in-PushInt.is) c.push_int.ensures)
