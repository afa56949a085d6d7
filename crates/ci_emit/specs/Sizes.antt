-- The size of one member of a chain, and of one clause of SELECT; which parameters may be left out.
use Rattle.std.specs.Prelude.{ℕ, ◌+◌, Bool, is_some}
use Rattle.ci_translation.specs.Drafts.{expr_size, labels_size, block_size}
use Rattle.ci_tree.specs.declared.bound.Param.{Param}
use Rattle.ci_tree.specs.Bound.{Link, operand_link, hashes_link, Clause}

abbrev pub link_size : Link → ℕ
link_size (operand_link operator right) = expr_size right + 1
link_size (hashes_link count) = 1

abbrev pub clause_size : Clause → ℕ
clause_size c = labels_size c.labels + 2 + block_size c.body + 1

-- a value stands for the parameter's argument where that is left out
abbrev pub has_first : Param → Bool
has_first p = is_some p.first
