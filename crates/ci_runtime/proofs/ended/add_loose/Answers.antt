use Rattle.std.proofs.Common.{◌∙◌, ◌+◌, ◌++◌, List, ap, drop, sym, refl, arith}
use Rattle.ci_base.specs.declared.list.Loose.{Loose}
use Rattle.ci_world.specs.Work.{loose_from}
use Rattle.ci_runtime.proofs.Closing.{loose_end, loose_more}
use Rattle.ci_runtime.proofs.ended.add_loose.Goals as goal

pub loop-index-preserved : goal.loop-index-preserved
loop-index-preserved c =
    let i = c.loop-index.invariant in
    let a = c.add_one.ensures in
    record {
      kept = ap (λ (l : List Loose). l ++ loose_from (c.loop-index.index + 1 + 1) (drop (c.loop-index.index + 1) c.args.ticks.now)) a.items ∙ loose_more _ _ _ _ _ c.loop-index-test.true refl ∙ i.kept;
      few = omega (arith, a.long, i.few);
      room = a.room ∙ i.room;
    }

pub returns : goal.returns
returns c = sym (loose_end c.loop-index.loose.items c.args.ticks.now c.loop-index.index (c.loop-index.index + 1) (omega (arith, c.loop-index-test.false))) ∙ c.loop-index.invariant.kept
