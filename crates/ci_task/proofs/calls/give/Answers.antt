use Rattle.std.proofs.Common.{List, [], ◌∷◌, reverse, ap, ◌∙◌}
use Rattle.std.proofs.lemmas.List.{reverse-append}
use Rattle.ci_task.specs.declared.active.Active.{Active}
use Rattle.ci_task.proofs.Calling.{give_done, give_can}
use Rattle.ci_task.proofs.calls.give.Goals as goal

pub hand_over-requires : goal.hand_over-requires
hand_over-requires c = give_can c.args.code.now c.args.at (reverse c.args.callers.now.items) c.args.stack.now c.args.heard.now c.args.function.now c.requires.here c.requires.can

pub returns-in-Some-clause-leads : goal.returns-in-Some-clause-leads
returns-in-Some-clause-leads c =
    give_done c.args.code.now c.args.at c.in-Some.waiting (reverse c.args.callers.now.items) (reverse c.pop.new.self.items) c.args.stack.now c.hand_over.new.stack c.args.heard.now c.args.function.now c.requires.here
    (ap (λ (l : List Active). reverse l) c.in-Some.ensures.items ∙ reverse-append c.pop.new.self.items (c.in-Some.waiting ∷ []))
    c.requires.can c.hand_over.ensures
