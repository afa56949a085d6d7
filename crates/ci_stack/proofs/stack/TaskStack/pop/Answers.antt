use Rattle.std.proofs.Common.{◌≡◌, ◌-◌, ◌∙◌, sym, ap, subst, arith, take, Some}
use Rattle.std.specs.Prelude.{slice_get}
use Rattle.std.proofs.lemmas.List.{take-take}
use Rattle.ci_stack.proofs.Topping.{counted, last_is, without_last_is, of_stack}
use Rattle.ci_stack.proofs.stack.TaskStack.pop.Goals as goal

pub returns-clause-value : goal.returns-clause-value
returns-clause-value c =
    let long = counted c.self.inside.table c.args.self.now c.self.inside.count c.self.view_is (omega (arith, c.self.invariant)) in
    let there = of_stack c.self.inside.table c.args.self.now c.self.inside.count (c.self.inside.count - 1) c.value-value.result c.self.view_is (omega arith) c.value-value.ensures in
    sym (last_is c.args.self.now c.value-value.result (subst (λ i. slice_get c.args.self.now (i - 1) ≡ Some c.value-value.result) (sym long) there))

pub returns-clause-rest : goal.returns-clause-rest
returns-clause-rest c =
    let long = counted c.self.inside.table c.args.self.now c.self.inside.count c.self.view_is (omega (arith, c.self.invariant)) in
    sym (take-take (c.self.inside.count - 1) c.self.inside.count c.self.inside.table (omega arith))
    ∙ ap (take (c.self.inside.count - 1)) c.self.view_is
    ∙ ap (λ i. take (i - 1) c.args.self.now) (sym long)
    ∙ without_last_is c.args.self.now
