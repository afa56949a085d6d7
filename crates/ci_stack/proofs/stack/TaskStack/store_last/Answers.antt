use Rattle.std.proofs.Common.{◌≡◌, ◌-◌, ◌∙◌, ap, arith, List, [], length, take}
use Rattle.ci_base.specs.declared.value.Value.{Value}
use Rattle.ci_stack.proofs.Topping.{at, counted, of_table, stored, length_last}
use Rattle.ci_stack.proofs.stack.TaskStack.store_last.Goals as goal

pub returns : goal.returns
returns c = λ low v e.
    let long = counted c.self.inside.table c.args.self.now c.self.inside.count c.self.view_is (omega (arith, c.self.invariant)) in
    let below : c.self.inside.count - 1 ≡ length low = omega (arith, long, length_last c.args.self.now low v e) in
    let found = of_table c.self.inside.table c.args.self.now c.self.inside.count (c.self.inside.count - 1) v c.self.view_is (at c.args.self.now low [] v (c.self.inside.count - 1) e below) in
    ap (λ (l : List Value). take (c.self.inside.count - 1) l) (c.copy.ensures.copied v found)
    ∙ stored c.self.inside.table c.args.self.now low c.self.inside.count (c.self.inside.count - 1) c.args.place v c.self.view_is (omega (arith, c.self.invariant)) e below (omega (arith, c.requires, long))
