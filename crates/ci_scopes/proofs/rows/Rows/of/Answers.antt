use Rattle.std.proofs.Common.{◌≡◌, ◌∙◌, ap, subst, arith, map, ◌≤◌, length, take}
use Rattle.std.proofs.Math.Seq.{take-length}
use Rattle.ci_base.specs.declared.bounds.TheConstants.{MOST_TOKENS}
use Rattle.std.specs.Prelude.{List, All}
use Rattle.ci_tree.specs.declared.tree.Item.{Item}
use Rattle.ci_tree.specs.Files.{IsFileTree}
use Rattle.ci_tree.specs.Seen.{items_of}
use Rattle.ci_names.specs.Declarations.{declared_in}
use Rattle.ci_scopes.specs.Rows.{IsRows}
use Rattle.ci_scopes.proofs.Files.{declared_in-more, few_items, kept_more}
use Rattle.ci_tree.proofs.Written.{short_tree}
use Rattle.ci_scopes.proofs.rows.Rows.of.Goals as goal

pub add_file-requires-clause-short : goal.add_file-requires-clause-short
add_file-requires-clause-short c = short_tree _ c.items.ensures.kept

pub add_file-requires-clause-room : goal.add_file-requires-clause-room
add_file-requires-clause-room c =
    let few : length c.items.result.now ≤ MOST_TOKENS = few_items c.items.result.now c.items.ensures.kept in
    (omega (arith, few, c.loop-file.invariant.cells), omega (arith, few, c.loop-file.invariant.arrays))

pub loop-file-preserved : goal.loop-file-preserved
loop-file-preserved c =
    let few : length c.items.result.now ≤ MOST_TOKENS = few_items c.items.result.now c.items.ensures.kept in
    record {
      stands = subst (IsRows c.add_file.new.self)
          (declared_in-more c.args.trees.now c.loop-file.file c.index-trees-file.result c.items.result.now c.loop-file-test.true (c.items.ensures.value ∙ c.index-trees-file.is))
          (c.in_ok-add_file.ensures.stands (declared_in (map items_of (take c.loop-file.file c.args.trees.now))) c.loop-file.invariant.stands);
      cells = omega (arith, few, c.in_ok-add_file.ensures.cells, c.loop-file.invariant.cells);
      arrays = omega (arith, few, c.in_ok-add_file.ensures.arrays, c.loop-file.invariant.arrays);
      kept = kept_more c.args.trees.now c.loop-file.file c.index-trees-file.result c.items.result.now c.loop-file-test.true c.index-trees-file.is c.items.ensures.value c.items.ensures.kept c.loop-file.invariant.kept;
    }

pub returns : goal.returns
returns c =
    let e : c.loop-file.file ≡ length c.args.trees.now = omega arith in
    let all = ap (λ n. take n c.args.trees.now) e ∙ take-length c.args.trees.now in
    record {
      rows = subst (λ trees. IsRows c.loop-file.rows (declared_in (map items_of trees))) all c.loop-file.invariant.stands;
      kept = subst (λ (trees : List (List Item)). All IsFileTree (map items_of trees)) all c.loop-file.invariant.kept;
    }
