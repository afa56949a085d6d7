use Rattle.std.proofs.Common.{arith}
use Rattle.ci_words.proofs.Steps.{role_step, count_step, count_kept}
use Rattle.ci_words.proofs.role.count_before.Goals as goal
use Rattle.ci_words.proofs.role.count_before.Goals.{then-is_same, else-is_same}

pub loop-at-preserved : goal.loop-at-preserved
loop-at-preserved c = record {
  role = role_step c.args.command c.args.words.now c.loop-at.at _ _ _ c.loop-at.invariant.role c.word_at.ensures c.role_after-current.ensures;
  counted = elim c.if-is_same.branch [
    | then-is_same w ↦ count_step c.args.command c.args.words.now c.args.role c.loop-at.at _ _ _ c.loop-at.invariant.role c.loop-at.invariant.counted w.if-is_same.ensures w.count-is
    | else-is_same w ↦ count_kept c.args.command c.args.words.now c.args.role c.loop-at.at _ _ _ c.loop-at.invariant.role c.loop-at.invariant.counted w.if-is_same.ensures w.count-is
  ];
  below = elim c.if-is_same.branch [ then-is_same w ↦ omega arith | else-is_same w ↦ omega arith ];
}
