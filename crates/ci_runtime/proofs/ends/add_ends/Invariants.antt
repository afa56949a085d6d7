use Rattle.std.proofs.Common.{◌≡◌, ◌++◌, drop, length, map}
use Rattle.ci_runtime.specs.EndStates.{task_end}
use Rattle.ci_runtime.proofs.ends.add_ends.Given as goal

abbrev pub invariant-loop-index : goal.invariant-loop-index
invariant-loop-index l = record {
  kept : l.ends ++ map (task_end l.store.basis l.store.shared) (drop l.index l.store.shared.roster.tasks) ≡ map (task_end l.store.basis l.store.shared) l.store.shared.roster.tasks;
  long : length l.ends ≡ l.index;
}
