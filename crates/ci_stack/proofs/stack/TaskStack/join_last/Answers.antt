use Rattle.std.proofs.Common.{◌≡◌, ◌+◌, ◌-◌, ◌∷◌, ◌++◌, ◌∙◌, ap, arith, List, [], length, take, length-append}
use Rattle.ci_base.specs.declared.value.Value.{Value}
use Rattle.ci_base.specs.declared.value.Value.TheVariants.{Str}
use Rattle.ci_stack.proofs.Topping.{at, counted, of_table, replaced, length_two, two_as_one}
use Rattle.ci_stack.proofs.stack.TaskStack.join_last.Goals as goal

pub overflow_sub-place : goal.overflow_sub-place
overflow_sub-place c = omega (arith, counted c.self.inside.table c.args.self.now c.self.inside.count c.self.view_is (omega (arith, c.self.invariant)), length_two c.args.self.now c.requires.0 (Str c.requires.1) (Str c.requires.2) c.requires.3)

pub join_next-requires : goal.join_next-requires
join_next-requires c =
    let long = counted c.self.inside.table c.args.self.now c.self.inside.count c.self.view_is (omega (arith, c.self.invariant)) in
    let two = length_two c.args.self.now c.requires.0 (Str c.requires.1) (Str c.requires.2) c.requires.3 in (
      c.requires.1,
      c.requires.2,
      of_table c.self.inside.table c.args.self.now c.self.inside.count (c.self.inside.count - 2) (Str c.requires.1) c.self.view_is (at c.args.self.now c.requires.0 (Str c.requires.2 ∷ []) (Str c.requires.1) (c.self.inside.count - 2) c.requires.3 (omega (arith, long, two))),
      of_table c.self.inside.table c.args.self.now c.self.inside.count (c.self.inside.count - 2 + 1) (Str c.requires.2) c.self.view_is (at c.args.self.now (c.requires.0 ++ Str c.requires.1 ∷ []) [] (Str c.requires.2) (c.self.inside.count - 2 + 1) (two_as_one c.args.self.now c.requires.0 (Str c.requires.1) (Str c.requires.2) c.requires.3) (omega (arith, long, two, length-append c.requires.0 (Str c.requires.1 ∷ [])))),
      c.requires.4,
    )

pub invariant_of-self : goal.invariant_of-self
invariant_of-self c =
    let long = counted c.self.inside.table c.args.self.now c.self.inside.count c.self.view_is (omega (arith, c.self.invariant)) in
    (omega (arith, long, c.self.invariant, length_two c.args.self.now c.requires.0 (Str c.requires.1) (Str c.requires.2) c.requires.3), c.join_next.ensures.length ∙ c.self.invariant.1)

pub returns : goal.returns
returns c = λ low a b e.
    let long = counted c.self.inside.table c.args.self.now c.self.inside.count c.self.view_is (omega (arith, c.self.invariant)) in
    let two = length_two c.args.self.now low (Str a) (Str b) e in
    let below : c.self.inside.count - 2 ≡ length low = omega (arith, long, two) in
    let lower_one = of_table c.self.inside.table c.args.self.now c.self.inside.count (c.self.inside.count - 2) (Str a) c.self.view_is (at c.args.self.now low (Str b ∷ []) (Str a) (c.self.inside.count - 2) e below) in
    let upper_one = of_table c.self.inside.table c.args.self.now c.self.inside.count (c.self.inside.count - 2 + 1) (Str b) c.self.view_is (at c.args.self.now (low ++ Str a ∷ []) [] (Str b) (c.self.inside.count - 2 + 1) (two_as_one c.args.self.now low (Str a) (Str b) e) (omega (arith, long, two, length-append low (Str a ∷ [])))) in
    ap (λ (l : List Value). take (c.self.inside.count - 2 + 1) l) (c.join_next.ensures.joined a b lower_one upper_one)
    ∙ replaced c.self.inside.table c.args.self.now low (Str a ∷ Str b ∷ []) c.self.inside.count (c.self.inside.count - 2) (Str (a ++ b)) c.self.view_is (omega (arith, c.self.invariant)) e below (omega (arith, c.self.invariant, long, two))
