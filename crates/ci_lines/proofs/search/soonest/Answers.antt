use Rattle.std.proofs.Common.{◌-◌, arith}
use Rattle.ci_lines.proofs.Searching.{soonest_all, soonest_more}
use Rattle.ci_lines.proofs.search.soonest.Goals as goal

pub loop-at-preserved : goal.loop-at-preserved
loop-at-preserved c = record {
  within = omega (arith, c.loop-at.invariant.within);
  best = soonest_more c.args.waiting.now.items c.args.now c.loop-at.at (c.loop-at.at - 1) c.sooner_of-best.result (omega arith) c.loop-at.invariant.within c.sooner_of-best.ensures;
}

pub returns : goal.returns
returns c = soonest_all c.args.waiting.now.items c.args.now c.loop-at.at c.loop-at.best (omega arith) c.loop-at.invariant.best
