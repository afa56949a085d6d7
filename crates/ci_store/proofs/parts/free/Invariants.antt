use Rattle.std.proofs.Common.{◌≡◌, drop}
use Rattle.ci_store.specs.Done.{AllLive, freed}
use Rattle.ci_store.proofs.parts.free.Given as goal

abbrev pub invariant-loop-i : goal.invariant-loop-i
invariant-loop-i l = record {
  live : AllLive (drop l.i l.woken) l.tasks;
  rest : freed (drop l.i l.woken) l.tasks ≡ freed l.woken l.initial.tasks;
}
