use Rattle.std.proofs.Common.{◌≡◌, ◌≤◌, ◌+◌, ◌-◌, ℤ, List}
use Rattle.std.specs.Vec.{vec_capacity, vec_len}
use Rattle.ci_stack.specs.Places.{values}
use Rattle.ci_stack.proofs.table.reach.Given as goal

abbrev pub invariant-reach : goal.invariant-reach
invariant-reach l = ((words : List ℤ) → values words l.texts.items ≡ values words l.fn.texts.items) × (vec_capacity l.fn.texts ≤ vec_capacity l.texts)

abbrev pub decreases-reach : goal.decreases-reach
decreases-reach l = l.place + 1 - vec_len l.texts
