use Rattle.std.proofs.lemmas.List.Elements.{All-take}
use Rattle.ci_source.proofs.Sourcing.{tree-tokens, read-within, lexical-first, names-file, names-first}
use Rattle.ci_source.proofs.Zipped.{zipped_all}
use Rattle.ci_source.specs.Compiling.{HasTokens}
use Rattle.ci_source.specs.Sources.{Parses}
use Rattle.ci_source.proofs.reading.names_fault.Goals as goal

pub bounds-sources-file : goal.bounds-sources-file
bounds-sources-file c = names-file _ c.requires.bound.0 c.in-Fault.file c.in-Fault.token c.in-Fault.kind c.requires.bound.1 (rw c.in-Fault.is at c.requires.bound.2)

pub lex_file-requires : goal.lex_file-requires
lex_file-requires c =
    read-within c.args.sources.now c.in-Fault.file c.index-sources-file.result c.bytes-source.result.now c.requires.within
    (names-file _ c.requires.bound.0 c.in-Fault.file c.in-Fault.token c.in-Fault.kind c.requires.bound.1 (rw c.in-Fault.is at c.requires.bound.2))
    c.index-sources-file.is c.bytes-source.ensures

pub named_fault-requires : goal.named_fault-requires
named_fault-requires c =
    read-within c.args.sources.now c.in-Fault.file c.index-sources-file.result c.bytes-source.result.now c.requires.within
    (names-file _ c.requires.bound.0 c.in-Fault.file c.in-Fault.token c.in-Fault.kind c.requires.bound.1 (rw c.in-Fault.is at c.requires.bound.2))
    c.index-sources-file.is c.bytes-source.ensures

pub returns-in-Ok : goal.returns-in-Ok
returns-in-Ok c =
    rw (c.named_fault.ensures, c.tokens.ensures.value)
    (names-first _ c.requires.bound.0 c.index-sources-file.result _ _ c.in-Fault.file c.in-Fault.token c.in-Fault.kind c.requires.bound.1 (rw c.in-Fault.is at c.requires.bound.2) c.index-sources-file.is c.bytes-source.ensures
    c.in-Ok.ensures.ok)

pub returns-in-Err : goal.returns-in-Err
returns-in-Err c =
    lexical-first c.args.sources.now c.in-Fault.file c.index-sources-file.result _
    (names-file _ c.requires.bound.0 c.in-Fault.file c.in-Fault.token c.in-Fault.kind c.requires.bound.1 (rw c.in-Fault.is at c.requires.bound.2))
    c.index-sources-file.is
    (All-take HasTokens c.in-Fault.file c.args.sources.now (tree-tokens _ (zipped_all Parses _ _ c.requires.bound.1)))
    (rw c.bytes-source.ensures at c.in-Err.ensures.err)
