-- The width of one member of a chain, and of one clause of SELECT.
use Rattle.std.specs.Prelude.{ℕ, ◌+◌, max}
use Rattle.ci_tree.specs.Bound.{Link, operand_link, hashes_link, Clause}
use Rattle.ci_tree.specs.Rooms.{width, labels_width, block_width}

abbrev pub link_width : Link → ℕ
link_width (operand_link operator right) = 1 + width right
link_width (hashes_link count) = 0

abbrev pub clause_width : Clause → ℕ
clause_width c = max (labels_width c.labels) (block_width c.body)
