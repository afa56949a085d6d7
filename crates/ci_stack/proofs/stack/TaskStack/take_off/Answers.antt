use Rattle.std.proofs.Common.{◌-◌, ap, arith, length, length-append}
use Rattle.ci_stack.proofs.Topping.{counted, lower}
use Rattle.ci_stack.proofs.stack.TaskStack.take_off.Goals as goal

pub returns : goal.returns
returns c = λ low high e h.
    let long = counted c.self.inside.table c.args.self.now c.self.inside.count c.self.view_is (omega (arith, c.self.invariant)) in
    lower c.self.inside.table c.args.self.now low high c.self.inside.count (c.self.inside.count - c.args.taken) c.self.view_is (omega (arith, c.self.invariant)) e (omega (arith, long, ap length e, length-append low high, h))
