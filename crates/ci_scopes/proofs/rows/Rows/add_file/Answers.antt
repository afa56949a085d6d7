use Rattle.std.proofs.Common.{subst, arith, take}
use Rattle.ci_tree.specs.Seen.{items_of}
use Rattle.ci_scopes.specs.Rows.{IsRows}
use Rattle.ci_scopes.specs.Stands.{with_items}
use Rattle.ci_scopes.proofs.Files.{with_items-more, short_at}
use Rattle.ci_scopes.proofs.rows.Rows.add_file.Goals as goal

pub add-requires-clause-short : goal.add-requires-clause-short
add-requires-clause-short c = short_at c.args.items.now c.loop-item.item-index c.item-item.result (omega arith) c.item-item.is c.requires.short

pub loop-item-preserved : goal.loop-item-preserved
loop-item-preserved c = record {
  stands = λ d h. subst (IsRows c.add.new.self) (with_items-more c.args.file d c.args.items.now c.loop-item.item-index c.item-item.result (omega arith) c.item-item.is)
      (c.in_ok-add.ensures.stands (with_items c.args.file d (items_of (take c.loop-item.item-index c.args.items.now))) (c.loop-item.invariant.stands d h));
  cells = omega (arith, c.in_ok-add.ensures.cells, c.loop-item.invariant.cells);
  arrays = omega (arith, c.in_ok-add.ensures.arrays, c.loop-item.invariant.arrays);
}
