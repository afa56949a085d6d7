use Rattle.ci_lines.proofs.Turning.{less, turning_more, turned_lines, turned_woken}
use Rattle.ci_lines.proofs.lines.Lines.turn_away.Goals as goal

pub loop-task-smaller : goal.loop-task-smaller
loop-task-smaller c = less c.args.place.now c.loop-task.self c.take_first.new.self c.in-Some.task c.take_first.result c.take_first.ensures.task c.in-Some.is c.take_first.ensures.rest

pub loop-task-preserved : goal.loop-task-preserved
loop-task-preserved c =
    turning_more c.args.place.now c.args.self.now c.loop-task.self c.take_first.new.self c.args.woken.now c.loop-task.woken c.add.new.self c.take_first.result c.in-Some.task
    c.loop-task.invariant c.take_first.ensures.once c.take_first.ensures.task c.in-Some.is c.take_first.ensures.rest c.add.ensures

pub returns-clause-lines : goal.returns-clause-lines
returns-clause-lines c =
    turned_lines c.args.place.now c.args.self.now c.loop-task.self c.take_first.new.self c.args.woken.now c.loop-task.woken c.take_first.result
    c.loop-task.invariant c.take_first.ensures.task c.in_default.is c.take_first.ensures.rest

pub returns-clause-woken : goal.returns-clause-woken
returns-clause-woken c =
    turned_woken c.args.place.now c.args.self.now c.loop-task.self c.args.woken.now c.loop-task.woken c.take_first.result
    c.loop-task.invariant c.take_first.ensures.task c.in_default.is
