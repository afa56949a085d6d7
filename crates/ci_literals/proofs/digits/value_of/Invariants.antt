use Rattle.std.proofs.Common.{◌≡◌, ◌^◌, ◌<◌, ◌≤◌, take}
use Rattle.std.specs.Str.Parse.{digits_value}
use Rattle.ci_literals.proofs.digits.value_of.Given as goal

-- up to the limit the value is that of the digits so far; above it theirs is above it too
abbrev pub invariant-loop-digit : goal.invariant-loop-digit
invariant-loop-digit l = record {
  small : l.value < 2 ^ 40;
  same : l.value ≤ l.limit → l.value ≡ digits_value l.base (take l.digit-index l.digits);
  above : l.limit < l.value → l.limit < digits_value l.base (take l.digit-index l.digits);
}
