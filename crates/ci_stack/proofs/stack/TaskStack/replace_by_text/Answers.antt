use Rattle.std.proofs.Common.{◌≡◌, ◌+◌, ◌-◌, ◌∙◌, ap, arith, List, length, take, length-append}
use Rattle.ci_base.specs.declared.value.Value.{Value}
use Rattle.ci_base.specs.declared.value.Value.TheVariants.{Str}
use Rattle.ci_stack.proofs.Topping.{counted, replaced}
use Rattle.ci_stack.proofs.stack.TaskStack.replace_by_text.Goals as goal

pub returns : goal.returns
returns c = λ low high e h.
    let long = counted c.self.inside.table c.args.self.now c.self.inside.count c.self.view_is (omega (arith, c.self.invariant)) in
    let below : c.self.inside.count - c.args.taken ≡ length low = omega (arith, long, ap length e, length-append low high, h) in
    ap (λ (l : List Value). take (c.self.inside.count - c.args.taken + 1) l) c.put_text.ensures
    ∙ replaced c.self.inside.table c.args.self.now low high c.self.inside.count (c.self.inside.count - c.args.taken) (Str c.args.bytes.now) c.self.view_is (omega (arith, c.self.invariant)) e below (omega (arith, c.self.invariant, c.requires, long))
