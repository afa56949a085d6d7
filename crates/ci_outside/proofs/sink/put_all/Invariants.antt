use Rattle.std.proofs.Common.{◌≡◌, ℕ, ◌≤◌, List, ◌++◌, length}
use Rattle.std.specs.Io.KnownBytes.{Appends}
use Rattle.ci_outside.proofs.sink.put_all.Given as goal

abbrev pub invariant-loop-rest : goal.invariant-loop-rest
invariant-loop-rest g l = record {
  later : g.K.Sink.faults l.initial.out ≤ g.K.Sink.faults l.out;
  so_far : (front : List ℕ) × (l.text ≡ front ++ l.rest) × Appends (g.K.Sink.bytes l.initial.out) (g.K.Sink.bytes l.out) front;
}

abbrev pub decreases-loop-rest : goal.decreases-loop-rest
decreases-loop-rest g l = length l.rest
