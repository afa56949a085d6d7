use Rattle.std.proofs.Common.{◌≡◌, ◌+◌, ◌*◌, ◌≤◌, ◌++◌, length, take}
use Rattle.ci_base.specs.Caret.{caret}
use Rattle.ci_base.proofs.caret.put_caret.Given as goal

abbrev pub invariant-loop-byte : goal.invariant-loop-byte
invariant-loop-byte l = record {
  value : l.to ≡ l.initial.to ++ caret (take l.byte-index l.text);
  short : length l.to ≤ length l.initial.to + 5 * l.byte-index;
}
