use Rattle.std.proofs.Common.{◌-◌, ◌∙◌, sym, arith, []}
use Rattle.ci_base.specs.declared.value.Value.TheVariants.{Int}
use Rattle.ci_stack.proofs.Placing.{trip}
use Rattle.ci_stack.proofs.Topping.{at, counted, same_number, length_last}
use Rattle.ci_stack.proofs.stack.TaskStack.last_number.Goals as goal

pub overflow_sub-last : goal.overflow_sub-last
overflow_sub-last c = omega (arith, counted c.self.inside.table c.args.self.now c.self.inside.count c.self.view_is (omega (arith, c.self.invariant)), length_last c.args.self.now c.requires.0 (Int c.requires.1) c.requires.2)

pub number_at-requires : goal.number_at-requires
number_at-requires c =
    let long = counted c.self.inside.table c.args.self.now c.self.inside.count c.self.view_is (omega (arith, c.self.invariant)) in
    (c.requires.1, at c.args.self.now c.requires.0 [] (Int c.requires.1) (c.self.inside.count - 1) c.requires.2 (omega (arith, long, length_last c.args.self.now c.requires.0 (Int c.requires.1) c.requires.2)))

pub returns : goal.returns
returns c = λ low n e.
    let long = counted c.self.inside.table c.args.self.now c.self.inside.count c.self.view_is (omega (arith, c.self.invariant)) in
    let found = at c.args.self.now low [] (Int n) (c.self.inside.count - 1) e (omega (arith, long, length_last c.args.self.now low (Int n) e)) in
    trip c.number_at.result c.number_at.type_inv ∙ same_number c.number_at.result n (sym c.number_at.ensures ∙ found)
