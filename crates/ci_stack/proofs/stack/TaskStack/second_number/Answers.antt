use Rattle.std.proofs.Common.{◌-◌, ◌∷◌, ◌∙◌, sym, arith, []}
use Rattle.ci_base.specs.declared.value.Value.TheVariants.{Int}
use Rattle.ci_stack.proofs.Placing.{trip}
use Rattle.ci_stack.proofs.Topping.{at, counted, same_number, length_two}
use Rattle.ci_stack.proofs.stack.TaskStack.second_number.Goals as goal

pub overflow_sub-second : goal.overflow_sub-second
overflow_sub-second c = omega (arith, counted c.self.inside.table c.args.self.now c.self.inside.count c.self.view_is (omega (arith, c.self.invariant)), length_two c.args.self.now c.requires.0 (Int c.requires.1) c.requires.2 c.requires.3)

pub number_at-requires : goal.number_at-requires
number_at-requires c =
    let long = counted c.self.inside.table c.args.self.now c.self.inside.count c.self.view_is (omega (arith, c.self.invariant)) in
    (c.requires.1, at c.args.self.now c.requires.0 (c.requires.2 ∷ []) (Int c.requires.1) (c.self.inside.count - 2) c.requires.3 (omega (arith, long, length_two c.args.self.now c.requires.0 (Int c.requires.1) c.requires.2 c.requires.3)))

pub returns : goal.returns
returns c = λ low n v e.
    let long = counted c.self.inside.table c.args.self.now c.self.inside.count c.self.view_is (omega (arith, c.self.invariant)) in
    let found = at c.args.self.now low (v ∷ []) (Int n) (c.self.inside.count - 2) e (omega (arith, long, length_two c.args.self.now low (Int n) v e)) in
    trip c.number_at.result c.number_at.type_inv ∙ same_number c.number_at.result n (sym c.number_at.ensures ∙ found)
