use Rattle.std.proofs.Common.{◌≡◌, true, take}
use Rattle.std.specs.List.{list_all}
use Rattle.ci_literals.specs.Digits.{is_digit_of}
use Rattle.ci_literals.proofs.digits.is_numeral.Given as goal

abbrev pub invariant-loop-digit : goal.invariant-loop-digit
invariant-loop-digit l = list_all (is_digit_of l.base) (take l.digit-index l.digits) ≡ true
