use Rattle.std.proofs.Common.{◌≤◌, ◌*◌, map, take}
use Rattle.std.specs.Prelude.{All}
use Rattle.ci_base.specs.declared.bounds.TheConstants.{MOST_CELLS, MOST_TOKENS}
use Rattle.ci_tree.specs.Files.{IsFileTree}
use Rattle.ci_tree.specs.Seen.{items_of}
use Rattle.ci_names.specs.Declarations.{declared_in}
use Rattle.ci_scopes.specs.Rows.{IsRows}
use Rattle.ci_scopes.proofs.rows.Rows.of.Given as goal

-- the files that were read stand in the tables
abbrev pub invariant-loop-file : goal.invariant-loop-file
invariant-loop-file l = record {
  stands : IsRows l.rows (declared_in (map items_of (take l.file l.trees)));
  cells : l.rows.variables.cells ≤ MOST_CELLS * MOST_TOKENS * l.file;
  arrays : l.rows.variables.arrays ≤ MOST_TOKENS * l.file;
  kept : All IsFileTree (map items_of (take l.file l.trees));
}
