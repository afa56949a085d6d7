use Rattle.std.proofs.Common.{◌≡◌, ◌≤◌, ◌+◌, ◌++◌, drop, vec_len, vec_capacity}
use Rattle.ci_world.specs.Work.{loose_from, loose_of}
use Rattle.ci_runtime.proofs.ended.add_loose.Given as goal

abbrev pub invariant-loop-index : goal.invariant-loop-index
invariant-loop-index l = record {
  kept : l.loose.items ++ loose_from (l.index + 1) (drop l.index l.ticks) ≡ loose_of l.ticks;
  few : vec_len l.loose ≤ l.index;
  room : vec_capacity l.loose ≡ vec_capacity l.fn.loose;
}
