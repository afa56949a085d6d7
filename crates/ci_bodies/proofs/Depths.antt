-- How deep a part behind ELSE is.
use Rattle.std.proofs.Common.{ℕ, List, Option, Some, None}
use denote.Param.Weighed.{most}
use Rattle.ci_tree.proofs.tree.Stmt.TheLaws.{the_size}
use Rattle.ci_tree.specs.declared.tree.Stmt as code

abbrev pub other_depth : Option (List code.Stmt) → ℕ
other_depth None = 0
other_depth (Some body) = most the_size body
