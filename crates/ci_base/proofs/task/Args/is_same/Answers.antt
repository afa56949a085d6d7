use Rattle.std.proofs.Common.{rules}
use Rattle.ci_base.proofs.Lists.{same_lists}
use Rattle.ci_base.proofs.task.Args.is_same.Goals as goal

pub returns : goal.returns
returns c =
    rw (← c.values.ensures.value, ← c.values-2.ensures.value)
    (same_lists _ _ c.eq.result c.eq.ensures (λ a b s e. search rules))
