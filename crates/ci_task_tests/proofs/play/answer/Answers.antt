use Rattle.ci_task_tests.proofs.Going.{told_stands, answered}
use Rattle.ci_task_tests.proofs.play.answer.Goals as goal

pub returns-in-Some : goal.returns-in-Some
returns-in-Some c =
    answered c.args.code.now c.parts-parts.result.now c.args.request.now c.in-Some.answer c.args.machine.now c.resume.new.self c.parts-parts.ensures.value c.parts-parts.ensures.kept c.parts-parts.ensures.sound c.requires c.in-Some.ensures c.resume.ensures

pub returns-in-None : goal.returns-in-None
returns-in-None c = told_stands c.args.code.now c.args.request.now c.args.machine.now c.requires
