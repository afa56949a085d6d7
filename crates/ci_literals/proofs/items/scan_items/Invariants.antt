use Rattle.std.proofs.Common.{◌≡◌, ◌++◌, List, ℕ, length}
use Rattle.ci_base.specs.Texts.{AreItems}
use Rattle.ci_literals.proofs.items.scan_items.Given as goal

-- the items so far, and what is left
abbrev pub invariant-items : goal.invariant-items
invariant-items l = record { items : List ℕ; are : AreItems items l.value.items; split : l.fn.body ≡ items ++ l.left }

abbrev pub decreases-items : goal.decreases-items
decreases-items l = length l.left
