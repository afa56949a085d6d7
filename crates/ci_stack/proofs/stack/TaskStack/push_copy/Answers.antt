use Rattle.std.proofs.Common.{◌+◌, ◌∙◌, sym, ap, arith, List, [], take}
use Rattle.std.proofs.lemmas.List.{append-nil}
use Rattle.ci_base.specs.declared.value.Value.{Value}
use Rattle.ci_stack.proofs.Topping.{counted, of_table, replaced}
use Rattle.ci_stack.proofs.stack.TaskStack.push_copy.Goals as goal

pub returns : goal.returns
returns c = λ v h.
    let long = counted c.self.inside.table c.args.self.now c.self.inside.count c.self.view_is (omega (arith, c.self.invariant)) in
    ap (λ (l : List Value). take (c.self.inside.count + 1) l) (c.copy.ensures.copied v (of_table c.self.inside.table c.args.self.now c.self.inside.count c.args.place v c.self.view_is h))
    ∙ replaced c.self.inside.table c.args.self.now c.args.self.now [] c.self.inside.count c.self.inside.count v c.self.view_is (omega (arith, c.self.invariant)) (sym (append-nil c.args.self.now)) (omega (arith, long)) (omega (arith, c.self.invariant, c.requires, long))
