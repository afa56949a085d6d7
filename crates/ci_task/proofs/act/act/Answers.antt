use Rattle.std.proofs.Common.{ℤ, reverse, refl, sym, subst, rules, ◌<◌}
use Rattle.std.specs.Int.Signed.{mag}
use Rattle.ci_code.specs.declared.instruction.Instruction.TheVariants as does
use Rattle.ci_stack.proofs.Placing.{trip}
use Rattle.ci_task.specs.Courses.{at_place}
use Rattle.ci_task.specs.Going.{Can, Does, next_place}
use Rattle.ci_task.proofs.Acts.{jump_does}
use Rattle.ci_task.proofs.Leading.{can_as, does_leads}
use Rattle.ci_task.proofs.act.act.Goals as goal

pub push_int-requires : goal.push_int-requires
push_int-requires c =
    let small : mag c.in-PushInt.n < 2147483648 = search rules in
    subst (λ (z : ℤ). Can c.args.code.now (does.PushInt z) c.args.at c.args.stack.now) (sym (trip c.in-PushInt.n small))
    (can_as c.args.code.now c.args.what.now (does.PushInt c.in-PushInt.n) c.args.at (reverse c.args.callers.now.items) c.args.stack.now c.args.heard.now c.in-PushInt.is c.requires.can)

pub returns-in-PushInt-clause-leads : goal.returns-in-PushInt-clause-leads
returns-in-PushInt-clause-leads c =
    let small : mag c.in-PushInt.n < 2147483648 = search rules in
    does_leads c.args.code.now c.args.what.now (does.PushInt c.in-PushInt.n) c.args.at (next_place c.args.at) (next_place c.args.at) (reverse c.args.callers.now.items) c.args.stack.now c.push_int.new.stack c.args.heard.now c.in-PushInt.is c.requires.can (subst (λ (z : ℤ). Does c.args.code.now (does.PushInt z) c.args.at c.args.stack.now (next_place c.args.at) c.push_int.new.stack) (trip c.in-PushInt.n small) c.push_int.ensures) refl

pub returns-in-Jump-clause-leads : goal.returns-in-Jump-clause-leads
returns-in-Jump-clause-leads c = does_leads c.args.code.now c.args.what.now (does.Jump c.in-Jump.to) c.args.at (at_place c.in-Jump.to c.args.at) (at_place c.in-Jump.to c.args.at) (reverse c.args.callers.now.items) c.args.stack.now c.args.stack.now c.args.heard.now c.in-Jump.is c.requires.can (jump_does c.args.code.now c.in-Jump.to c.args.at c.args.stack.now) refl
