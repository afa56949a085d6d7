use Rattle.std.proofs.Common.{◌∙◌}
use Rattle.ci_words.specs.declared.role.Role.TheVariants as roles
use Rattle.ci_words.proofs.Steps.{role_step, indexes_step, indexes_kept}
use Rattle.ci_words.proofs.Free.{room_for_file}
use Rattle.ci_words.proofs.order.indexes_of_plain.Goals as goal
use Rattle.ci_words.proofs.order.indexes_of_plain.Goals.{then-is_same, else-is_same}

pub add-requires : goal.add-requires
add-requires c =
    room_for_file c.args.command c.args.words.now c.loop-at.at c.loop-at.files c.loop-at.role c.requires.files c.requires.free c.loop-at-test.true c.loop-at.invariant.role c.loop-at.invariant.placed c.if-is_same.ensures

pub loop-at-preserved : goal.loop-at-preserved
loop-at-preserved c = record {
  role = role_step c.args.command c.args.words.now c.loop-at.at _ _ _ c.loop-at.invariant.role c.word_at.ensures c.role_after-role.ensures;
  placed = elim c.if-is_same.branch [
    | then-is_same w ↦ indexes_step c.args.command c.args.words.now roles.Plain c.loop-at.at c.loop-at.files c.if-is_same.files _ c.loop-at.invariant.role c.loop-at.invariant.placed w.if-is_same.ensures (w.files-is ∙ w.add.ensures)
    | else-is_same w ↦ indexes_kept c.args.command c.args.words.now roles.Plain c.loop-at.at c.loop-at.files c.if-is_same.files _ c.loop-at.invariant.role c.loop-at.invariant.placed w.if-is_same.ensures w.files-is
  ];
}
