use Rattle.std.proofs.Common.{rules}
use Rattle.ci_base.proofs.Lists.{same_lists}
use Rattle.ci_base.proofs.list.LooseList.is_same.Goals as goal

pub returns : goal.returns
returns c =
    rw (← c.members.ensures, ← c.members-2.ensures)
    (same_lists _ _ c.eq.result c.eq.ensures (λ a b s e. search rules))
