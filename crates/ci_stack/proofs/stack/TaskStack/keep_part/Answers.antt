use Rattle.std.proofs.Common.{◌≡◌, ◌+◌, ◌-◌, ◌∷◌, ◌∙◌, ap, arith, List, length, take, drop}
use Rattle.ci_base.specs.declared.value.Value.{Value}
use Rattle.ci_base.specs.declared.value.Value.TheVariants.{Str}
use Rattle.ci_stack.proofs.Topping.{at, counted, of_table, replaced, length_under}
use Rattle.ci_stack.proofs.stack.TaskStack.keep_part.Goals as goal

pub overflow_sub-place : goal.overflow_sub-place
overflow_sub-place c = omega (arith, counted c.self.inside.table c.args.self.now c.self.inside.count c.self.view_is (omega (arith, c.self.invariant)), length_under c.args.self.now c.requires.0 c.requires.2 (Str c.requires.1) c.requires.3, c.requires.4)

pub overflow_sub-place-2 : goal.overflow_sub-place-2
overflow_sub-place-2 c = omega (arith, counted c.self.inside.table c.args.self.now c.self.inside.count c.self.view_is (omega (arith, c.self.invariant)), length_under c.args.self.now c.requires.0 c.requires.2 (Str c.requires.1) c.requires.3, c.requires.4)

pub keep_part-requires : goal.keep_part-requires
keep_part-requires c =
    let long = counted c.self.inside.table c.args.self.now c.self.inside.count c.self.view_is (omega (arith, c.self.invariant)) in
    let below : c.self.inside.count - c.args.above - 1 ≡ length c.requires.0 = omega (arith, long, length_under c.args.self.now c.requires.0 c.requires.2 (Str c.requires.1) c.requires.3, c.requires.4) in
    (c.requires.1, of_table c.self.inside.table c.args.self.now c.self.inside.count (c.self.inside.count - c.args.above - 1) (Str c.requires.1) c.self.view_is (at c.args.self.now c.requires.0 c.requires.2 (Str c.requires.1) (c.self.inside.count - c.args.above - 1) c.requires.3 below))

pub invariant_of-self : goal.invariant_of-self
invariant_of-self c =
    let long = counted c.self.inside.table c.args.self.now c.self.inside.count c.self.view_is (omega (arith, c.self.invariant)) in
    (omega (arith, long, c.self.invariant, length_under c.args.self.now c.requires.0 c.requires.2 (Str c.requires.1) c.requires.3), c.keep_part.ensures.length ∙ c.self.invariant.1)

pub returns : goal.returns
returns c = λ low high s e h.
    let long = counted c.self.inside.table c.args.self.now c.self.inside.count c.self.view_is (omega (arith, c.self.invariant)) in
    let under = length_under c.args.self.now low high (Str s) e in
    let below : c.self.inside.count - c.args.above - 1 ≡ length low = omega (arith, long, under, h) in
    let found = of_table c.self.inside.table c.args.self.now c.self.inside.count (c.self.inside.count - c.args.above - 1) (Str s) c.self.view_is (at c.args.self.now low high (Str s) (c.self.inside.count - c.args.above - 1) e below) in
    ap (λ (l : List Value). take (c.self.inside.count - c.args.above - 1 + 1) l) (c.keep_part.ensures.kept s found)
    ∙ replaced c.self.inside.table c.args.self.now low (Str s ∷ high) c.self.inside.count (c.self.inside.count - c.args.above - 1) (Str (take c.args.count (drop c.args.from s))) c.self.view_is (omega (arith, c.self.invariant)) e below (omega (arith, c.self.invariant, long, under))
