use Rattle.std.specs.Prelude.{All, take}
use Rattle.ci_source.specs.Compiling.{HasTokens}
use Rattle.ci_source.proofs.reading.grammar_or_later_fault.Given as goal

abbrev pub invariant-loop-later : goal.invariant-loop-later
invariant-loop-later l = All HasTokens (take l.later l.sources)
