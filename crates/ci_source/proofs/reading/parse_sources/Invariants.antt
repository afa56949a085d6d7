use Rattle.std.specs.Prelude.{take, map}
use Rattle.ci_tree.specs.Seen.{items_of}
use Rattle.ci_source.specs.Compiling.{parse_to}
use Rattle.ci_source.proofs.reading.parse_sources.Given as goal

abbrev pub invariant-loop-file : goal.invariant-loop-file
invariant-loop-file l = parse_to (take l.file l.sources) (map items_of l.trees)
