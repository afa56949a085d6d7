use Rattle.std.proofs.Common.{◌≡◌, map, take}
use Rattle.ci_base.specs.Letters.{capital}
use Rattle.ci_lexer.proofs.word.reserved.Given as goal

abbrev pub invariant-loop-b : goal.invariant-loop-b
invariant-loop-b l = l.capitals.items ≡ map capital (take l.b-index l.word)
