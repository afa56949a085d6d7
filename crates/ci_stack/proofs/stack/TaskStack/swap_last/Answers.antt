use Rattle.std.proofs.Common.{◌≡◌, ◌+◌, ◌-◌, ◌∷◌, ◌++◌, ◌∙◌, sym, ap, arith, List, [], length, take, set, length-append}
use Rattle.ci_base.specs.declared.value.Value.{Value}
use Rattle.ci_stack.proofs.Topping.{at, counted, of_table, swapped, length_two, two_as_one, same_value}
use Rattle.ci_stack.proofs.stack.TaskStack.swap_last.Goals as goal

pub returns : goal.returns
returns c = λ low u v e.
    let long = counted c.self.inside.table c.args.self.now c.self.inside.count c.self.view_is (omega (arith, c.self.invariant)) in
    let two : c.self.inside.count ≡ length low + 2 = omega (arith, long, length_two c.args.self.now low u v e) in
    let lower_one = of_table c.self.inside.table c.args.self.now c.self.inside.count (c.self.inside.count - 2) u c.self.view_is (at c.args.self.now low (v ∷ []) u (c.self.inside.count - 2) e (omega arith)) in
    let upper_one = of_table c.self.inside.table c.args.self.now c.self.inside.count (c.self.inside.count - 1) v c.self.view_is (at c.args.self.now (low ++ u ∷ []) [] v (c.self.inside.count - 1) (two_as_one c.args.self.now low u v e) (omega (arith, length-append low (u ∷ [])))) in
    let taken : c.value-last.result ≡ v = same_value _ _ (sym c.value-last.ensures ∙ upper_one) in
    ap (λ (l : List Value). take c.self.inside.count l) (c.put.ensures ∙ ap (λ (w : Value). set c.copy.new.self (c.self.inside.count - 2) w) taken)
    ∙ swapped c.self.inside.table c.args.self.now low c.copy.new.self c.self.inside.count u v c.self.view_is (omega (arith, c.self.invariant)) e (c.copy.ensures.copied u lower_one)
