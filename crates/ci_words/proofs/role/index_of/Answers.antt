use Rattle.ci_words.proofs.Steps.{role_step, index_step, index_kept}
use Rattle.ci_words.proofs.role.index_of.Goals as goal
use Rattle.ci_words.proofs.role.index_of.Goals.{then-is_same, else-is_same}

pub loop-at-preserved : goal.loop-at-preserved
loop-at-preserved c = record {
  role = role_step c.args.command c.args.words.now c.loop-at.at _ _ _ c.loop-at.invariant.role c.word_at.ensures c.role_after-current.ensures;
  placed = elim c.if-is_same.branch [
    | then-is_same w ↦ index_step c.args.command c.args.words.now c.args.role c.loop-at.at _ _ c.loop-at.invariant.role w.if-is_same.ensures w.index-is
    | else-is_same w ↦ index_kept c.args.command c.args.words.now c.args.role c.loop-at.at _ _ _ c.loop-at.invariant.role c.loop-at.invariant.placed w.if-is_same.ensures w.index-is
  ];
}
