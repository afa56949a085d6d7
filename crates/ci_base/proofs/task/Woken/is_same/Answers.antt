use Rattle.std.proofs.Common.{◌≡◌, rules, arith}
use Rattle.ci_base.proofs.Lists.{same_next}
use Rattle.ci_base.proofs.task.Woken.is_same.Goals as goal

pub loop-i-preserved : goal.loop-i-preserved
loop-i-preserved c =
    let same : c.index-ours-i.result ≡ c.index-theirs-i.result = search rules in
    same_next _ _ c.loop-i.i _ _ (omega arith) (omega arith) c.loop-i.invariant c.index-ours-i.is c.index-theirs-i.is same
