use Rattle.std.proofs.Common.{◌≡◌, min, take}
use Rattle.ci_words.specs.Number.{value_of}
use Rattle.ci_words.proofs.number.value_of.Given as goal

abbrev pub invariant-loop-byte : goal.invariant-loop-byte
invariant-loop-byte l = l.value ≡ min (value_of (take l.byte-index l.word)) 200000000
