use Rattle.std.proofs.Common.{◌≡◌, take, length}
use Rattle.std.specs.List.{repeat}
use Rattle.ci_builtin.proofs.joining.repeated.Given as goal

abbrev pub invariant-loop-offset : goal.invariant-loop-offset
invariant-loop-offset l = record {
  count : length l.kept.items ≡ l.offset;
  is : l.kept.items ≡ take l.offset (repeat l.count l.piece);
}
