use Rattle.ci_store.proofs.Ticking.{ticked_lines, ticked_woken, ticking_less, ticking_more}
use Rattle.ci_store.proofs.clock.answer_due.Goals as goal

pub loop-task-smaller : goal.loop-task-smaller
loop-task-smaller c = ticking_less c.args.now c.loop-task.lines c.take_due.new.self c.in-Some.task c.in-Some.place c.take_due.result c.take_due.ensures.once c.take_due.ensures.found c.in-Some.is c.take_due.ensures.rest

pub loop-task-preserved : goal.loop-task-preserved
loop-task-preserved c =
    ticking_more c.args.now c.args.lines.now c.loop-task.lines c.take_due.new.self c.args.woken.now c.loop-task.woken c.add.new.self c.take_due.result c.in-Some.task c.in-Some.place c.late.result
    c.loop-task.invariant c.take_due.ensures.once c.take_due.ensures.found c.in-Some.is c.take_due.ensures.rest c.late.ensures c.add.ensures

pub returns-clause-lines : goal.returns-clause-lines
returns-clause-lines c =
    ticked_lines c.args.now c.args.lines.now c.loop-task.lines c.take_due.new.self c.args.woken.now c.loop-task.woken c.take_due.result c.loop-task.invariant c.take_due.ensures.found c.in_default.is c.take_due.ensures.rest

pub returns-clause-woken : goal.returns-clause-woken
returns-clause-woken c =
    ticked_woken c.args.now c.args.lines.now c.loop-task.lines c.args.woken.now c.loop-task.woken c.take_due.result c.loop-task.invariant c.take_due.ensures.found c.in_default.is
