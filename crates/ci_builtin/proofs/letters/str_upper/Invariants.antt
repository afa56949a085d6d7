use Rattle.std.proofs.Common.{◌≡◌, length, map, take}
use Rattle.std.specs.Char.{to_ascii_uppercase}
use Rattle.ci_builtin.proofs.letters.str_upper.Given as goal

abbrev pub invariant-loop-b : goal.invariant-loop-b
invariant-loop-b l = record {
  count : length l.changed.items ≡ l.b-index;
  is : l.changed.items ≡ map to_ascii_uppercase (take l.b-index l.bytes);
}
