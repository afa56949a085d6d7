use Rattle.std.proofs.Common.{◌≡◌, drop}
use Rattle.ci_shared.specs.Roster.{first_in}
use Rattle.ci_lines.proofs.search.at_place.Given as goal

-- nobody passed so far waits there
abbrev pub invariant-loop-i : goal.invariant-loop-i
invariant-loop-i l = first_in l.place l.waiting.items ≡ first_in l.place (drop l.i l.waiting.items)
