use Rattle.std.proofs.Common.{◌≤◌, ◌+◌, length, drop}
use Rattle.ci_lines.specs.Found.{IsAt}
use Rattle.ci_lines.proofs.Searching.{soonest_of}
use Rattle.ci_lines.proofs.search.soonest.Given as goal

-- the best of those behind
abbrev pub ghost-sooner_of : goal.ghost-sooner_of
ghost-sooner_of a = soonest_of a.now (drop (a.at + 1) a.waiting.now.items)

abbrev pub invariant-loop-at : goal.invariant-loop-at
invariant-loop-at l = record {
  within : l.at ≤ length l.waiting.items;
  best : IsAt l.waiting.items (soonest_of l.now (drop l.at l.waiting.items)) l.best;
}

abbrev pub decreases-loop-at : goal.decreases-loop-at
decreases-loop-at l = l.at
