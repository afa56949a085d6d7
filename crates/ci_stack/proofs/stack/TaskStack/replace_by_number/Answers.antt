use Rattle.std.proofs.Common.{◌≡◌, ◌+◌, ◌-◌, ◌∙◌, ap, arith, ℤ, List, length, take, set, length-append}
use Rattle.ci_base.specs.declared.value.Value.{Value}
use Rattle.ci_base.specs.declared.value.Value.TheVariants.{Int}
use Rattle.ci_stack.proofs.Placing.{trip}
use Rattle.ci_stack.proofs.Topping.{counted, replaced}
use Rattle.ci_stack.proofs.stack.TaskStack.replace_by_number.Goals as goal

pub returns : goal.returns
returns c = λ low high e h.
    let long = counted c.self.inside.table c.args.self.now c.self.inside.count c.self.view_is (omega (arith, c.self.invariant)) in
    let below : c.self.inside.count - c.args.taken ≡ length low = omega (arith, long, ap length e, length-append low high, h) in
    ap (λ (l : List Value). take (c.self.inside.count - c.args.taken + 1) l) (c.put_number.ensures ∙ ap (λ (z : ℤ). set c.self.inside.table (c.self.inside.count - c.args.taken) (Int z)) (trip c.args.n c.ranges.n.sfits))
    ∙ replaced c.self.inside.table c.args.self.now low high c.self.inside.count (c.self.inside.count - c.args.taken) (Int c.args.n) c.self.view_is (omega (arith, c.self.invariant)) e below (omega (arith, c.self.invariant, c.requires, long))
