use Rattle.std.proofs.Common.{◌≡◌, ◌+◌, ◌%◌, reverse, None, refl, sym, ap, ◌∙◌, subst}
use Rattle.std.proofs.Math.Nat.{mod-eq_of_lt}
use Rattle.ci_base.specs.Steps.{asks}
use Rattle.ci_code.specs.Machine.{next}
use Rattle.ci_task.specs.Moved.{Standing, machine_of, moved}
use Rattle.ci_task.proofs.Moving.{after_told, place_small, resumes}
use Rattle.ci_task.proofs.machine.TaskMachine.resume.Goals as goal

pub returns-in-Some : goal.returns-in-Some
returns-in-Some c = λ code trail trail' ticks b q is none h told asks_it fit born answers.
    let before : moved code trail ticks (record { at = c.self.inside.at; callers = reverse c.self.inside.callers.items; values = c.self.inside.stack; heard = c.self.inside.heard; count = c.self.inside.count; told = c.self.inside.told }) = subst (λ (x : Standing). moved code trail ticks x) (sym c.self.view_is) h in
    let asks_before : next code (machine_of code (record { at = c.self.inside.at; callers = reverse c.self.inside.callers.items; values = c.self.inside.stack; heard = c.self.inside.heard; count = c.self.inside.count; told = c.self.inside.told })) ≡ asks q = ap (λ (x : Standing). next code (machine_of code x)) c.self.view_is ∙ asks_it in
    let after = after_told code trail ticks (record { at = c.self.inside.at; callers = reverse c.self.inside.callers.items; values = c.self.inside.stack; heard = c.self.inside.heard; count = c.self.inside.count; told = c.self.inside.told }) c.in-Some.behind q c.args.answer.now is none before c.in-Some.is asks_before fit in
    let small = place_small code trail ticks (record { at = c.self.inside.at; callers = reverse c.self.inside.callers.items; values = c.self.inside.stack; heard = c.self.inside.heard; count = c.self.inside.count; told = c.self.inside.told }) is before in
    resumes code trail trail' ticks (record { at = c.self.inside.at; callers = reverse c.self.inside.callers.items; values = c.self.inside.stack; heard = c.self.inside.heard; count = c.self.inside.count; told = c.self.inside.told }) (record { at = record c.self.inside.at { place = (c.self.inside.at.place + 1) % 4294967296 }; callers = reverse c.self.inside.callers.items; values = c.take_answer.new.stack; heard = c.hear.new.heard; count = 0; told = None }) b q c.args.answer.now is none before asks_before fit born answers
    (after.leads (record { at = record c.self.inside.at { place = (c.self.inside.at.place + 1) % 4294967296 }; callers = reverse c.self.inside.callers.items; values = c.take_answer.new.stack; heard = c.hear.new.heard; count = 0; told = None }) (ap (λ n. record c.self.inside.at { place = n }) (mod-eq_of_lt small)) refl (c.take_answer.ensures after.low after.high after.split after.many after.room) c.hear.ensures.error c.hear.ensures.last c.hear.ensures.goes_on)
    refl refl
