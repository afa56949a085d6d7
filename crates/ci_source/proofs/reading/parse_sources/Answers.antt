use Rattle.std.proofs.Common.{map, arith}
use Rattle.std.proofs.lemmas.List.{length-map, map-append}
use Rattle.std.proofs.lemmas.Result.{err_from_is_err_and}
use Rattle.ci_source.proofs.Sourcing.{tree-tokens, lexical-first}
use Rattle.ci_source.proofs.Zipped.{zipped_all, zipped_count, zipped_more}
use Rattle.ci_source.specs.Sources.{Parses}
use Rattle.ci_tree.specs.Seen.{items_of}
use Rattle.ci_source.proofs.reading.parse_sources.Goals as goal

pub returns-in_err-list-clause-err : goal.returns-in_err-list-clause-err
returns-in_err-list-clause-err c =
    let p = err_from_is_err_and c.from_residual.result c.from_residual.ensures.1 in
    rw (p.1, p.2)
    (lexical-first _ c.loop-file.file c.index-sources-file.result _ c.loop-file-test.true c.index-sources-file.is (tree-tokens _ (zipped_all Parses _ _ c.loop-file.invariant))
    (rw c.bytes.ensures at c.in_err-list.ensures.err))

pub add-requires : goal.add-requires
add-requires c =
    omega (arith, zipped_count Parses c.args.sources.now c.loop-file.file (map items_of c.loop-file.trees) c.loop-file-test.true c.loop-file.invariant, length-map c.loop-file.trees items_of, c.loop-file-test.true, c.requires.few)

pub grammar_or_later_fault-requires-clause-before : goal.grammar_or_later_fault-requires-clause-before
grammar_or_later_fault-requires-clause-before c = zipped_all Parses _ _ c.loop-file.invariant

pub loop-file-preserved : goal.loop-file-preserved
loop-file-preserved c =
    rw (c.in-Ok-add.ensures.ok, map-append)
    (zipped_more Parses _ c.loop-file.file c.index-sources-file.result _ _ c.loop-file-test.true c.index-sources-file.is c.loop-file.invariant
    (rw c.bytes-in-loop-file.ensures at c.in-Ok.ensures.ok))
