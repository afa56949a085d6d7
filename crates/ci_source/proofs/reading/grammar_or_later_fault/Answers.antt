use Rattle.std.proofs.Common.{[]}
use Rattle.std.specs.Prelude.{All}
use Rattle.std.proofs.lemmas.List.{take_all}
use Rattle.std.proofs.lemmas.List.Elements.{All-more}
use Rattle.ci_source.proofs.Sourcing.{tree-tokens, read-tokens, lexical-first, grammar-first}
use Rattle.ci_source.specs.Compiling.{HasTokens}
use Rattle.ci_source.proofs.reading.grammar_or_later_fault.Goals as goal

pub loop-later-init : goal.loop-later-init
loop-later-init c = All-more HasTokens c.args.sources.now c.args.file [] c.requires.number (tree-tokens _ c.requires.before) c.requires.own

pub returns-in-Err : goal.returns-in-Err
returns-in-Err c =
    lexical-first _ c.loop-later.later c.index-sources-later.result _ c.loop-later-test.true c.index-sources-later.is c.loop-later.invariant (rw c.bytes.ensures at c.in-Err.ensures.err)

pub loop-later-preserved : goal.loop-later-preserved
loop-later-preserved c =
    All-more HasTokens c.args.sources.now c.loop-later.later [] c.loop-later-test.true c.loop-later.invariant
    (read-tokens c.args.sources.now c.loop-later.later c.index-sources-later.result c.bytes.result.now c.in_default.field-0 c.loop-later-test.true c.index-sources-later.is c.bytes.ensures c.in_default.ensures.ok)

pub returns : goal.returns
returns c =
    let lexed : All HasTokens c.args.sources.now = rw (take_all c.loop-later.later c.args.sources.now c.loop-later-test.false) at c.loop-later.invariant in
    grammar-first c.args.sources.now c.args.file c.args.fault c.requires.number lexed c.requires.before c.requires.told
