use Rattle.std.proofs.Common.{◌≡◌, true, take}
use Rattle.std.specs.List.{list_all}
use Rattle.ci_base.specs.Letters.{is_name_byte}
use Rattle.ci_literals.proofs.letters.is_word.Given as goal

abbrev pub invariant-loop-b : goal.invariant-loop-b
invariant-loop-b l = list_all is_name_byte (take l.b-index l.bytes) ≡ true
