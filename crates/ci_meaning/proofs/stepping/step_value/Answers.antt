use Rattle.std.proofs.Common.{sym, ap, ◌∙◌}
use Rattle.ci_base.specs.declared.value.Value.{Value}
use Rattle.ci_tree.specs.SeenBound.{heads_of, project_of}
use Rattle.ci_meaning.specs.declared.parts.Want.TheVariants as wants
use Rattle.ci_meaning.proofs.Tops.{used_top}
use Rattle.ci_meaning.proofs.stepping.step_value.Goals as goal

pub returns-in-Some-Operand-clause-ok : goal.returns-in-Some-Operand-clause-ok
returns-in-Some-Operand-clause-ok c =
    let p = project_of c.args.project.now in
    let heads = heads_of c.args.project.now.functions in
    used_top p heads c.args.value.now c.args.task.now c.use_operand.new.task c.use_operand.result c.in-Some-Operand.field-0.now (wants.Operand c.in-Some-Operand.minus) c.in-Some-Operand.ensures c.in-Some-Operand.field-0-is (c.use_operand.ensures p heads)

pub returns-in-Some-Front-clause-ok : goal.returns-in-Some-Front-clause-ok
returns-in-Some-Front-clause-ok c =
    let p = project_of c.args.project.now in
    let heads = heads_of c.args.project.now.functions in
    used_top p heads c.args.value.now c.args.task.now c.use_front.new.task c.use_front.result c.in-Some-Front.field-0.now (wants.Front c.in-Some-Front.rest) c.in-Some-Front.ensures c.in-Some-Front.field-0-is (c.use_front.ensures p heads)

pub returns-in-Some-Right-clause-ok : goal.returns-in-Some-Right-clause-ok
returns-in-Some-Right-clause-ok c =
    let p = project_of c.args.project.now in
    let heads = heads_of c.args.project.now.functions in
    used_top p heads c.args.value.now c.args.task.now c.use_right.new.task c.use_right.result c.in-Some-Right.field-0.now (wants.Right c.copy-left.result c.in-Some-Right.operator c.in-Some-Right.rest) c.in-Some-Right.ensures (c.in-Some-Right.field-0-is ∙ ap (λ (l : Value). wants.Right l c.in-Some-Right.operator c.in-Some-Right.rest) (sym c.copy-left.ensures)) (c.use_right.ensures p heads)

pub returns-in-Some-Queue-clause-ok : goal.returns-in-Some-Queue-clause-ok
returns-in-Some-Queue-clause-ok c =
    let p = project_of c.args.project.now in
    let heads = heads_of c.args.project.now.functions in
    used_top p heads c.args.value.now c.args.task.now c.use_queue.new.task c.use_queue.result c.in-Some-Queue.field-0.now (wants.Queue c.in-Some-Queue.mode c.in-Some-Queue.targets) c.in-Some-Queue.ensures c.in-Some-Queue.field-0-is (c.use_queue.ensures p heads)

pub returns-in-Some-Mode-clause-ok : goal.returns-in-Some-Mode-clause-ok
returns-in-Some-Mode-clause-ok c =
    let p = project_of c.args.project.now in
    let heads = heads_of c.args.project.now.functions in
    used_top p heads c.args.value.now c.args.task.now c.use_mode.new.task c.use_mode.result c.in-Some-Mode.field-0.now (wants.Mode c.copy-queue.result c.in-Some-Mode.targets) c.in-Some-Mode.ensures (c.in-Some-Mode.field-0-is ∙ ap (λ (l : Value). wants.Mode l c.in-Some-Mode.targets) (sym c.copy-queue.ensures)) (c.use_mode.ensures p heads)

pub returns-in-Some-Answer-clause-ok : goal.returns-in-Some-Answer-clause-ok
returns-in-Some-Answer-clause-ok c =
    let p = project_of c.args.project.now in
    let heads = heads_of c.args.project.now.functions in
    used_top p heads c.args.value.now c.args.task.now c.use_answer.new.task c.use_answer.result c.in-Some-Answer.field-0.now (wants.Answer c.in-Some-Answer.targets) c.in-Some-Answer.ensures c.in-Some-Answer.field-0-is (c.use_answer.ensures p heads)

pub returns-in-Some-Kept-clause-ok : goal.returns-in-Some-Kept-clause-ok
returns-in-Some-Kept-clause-ok c =
    let p = project_of c.args.project.now in
    let heads = heads_of c.args.project.now.functions in
    used_top p heads c.args.value.now c.args.task.now c.use_kept.new.task c.use_kept.result c.in-Some-Kept.field-0.now (wants.Kept c.in-Some-Kept.target) c.in-Some-Kept.ensures c.in-Some-Kept.field-0-is (c.use_kept.ensures p heads)
