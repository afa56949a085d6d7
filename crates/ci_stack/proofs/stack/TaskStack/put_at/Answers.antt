use Rattle.std.proofs.Common.{◌∙◌, ap, arith, List, take, set}
use Rattle.std.proofs.Math.Seq.{take-set-lt}
use Rattle.ci_base.specs.declared.value.Value.{Value}
use Rattle.ci_stack.proofs.Topping.{counted}
use Rattle.ci_stack.proofs.stack.TaskStack.put_at.Goals as goal

pub returns : goal.returns
returns c =
    let long = counted c.self.inside.table c.args.self.now c.self.inside.count c.self.view_is (omega (arith, c.self.invariant)) in
    ap (take c.self.inside.count) c.put.ensures
    ∙ take-set-lt c.self.inside.count c.self.inside.table c.args.place c.args.value (omega (arith, long, c.requires))
    ∙ ap (λ (l : List Value). set l c.args.place c.args.value) c.self.view_is
