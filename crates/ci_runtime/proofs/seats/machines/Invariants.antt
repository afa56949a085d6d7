use Rattle.std.proofs.Common.{◌≡◌, ◌≤◌, vec_len, vec_capacity}
use Rattle.ci_base.specs.declared.bounds.TheConstants.{MOST_LIVE_TASKS}
use Rattle.ci_runtime.proofs.seats.machines.Given as goal

abbrev pub invariant-loop : goal.invariant-loop
invariant-loop l = record { some : vec_len l.spare ≡ l.counter; room : MOST_LIVE_TASKS ≤ vec_capacity l.spare }
