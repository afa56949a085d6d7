use Rattle.std.proofs.Common.{◌≤◌, ◌+◌, ◌*◌, take}
use Rattle.ci_base.specs.declared.bounds.TheConstants.{MOST_CELLS}
use Rattle.ci_tree.specs.Seen.{items_of}
use Rattle.ci_names.specs.Declarations.{Declared}
use Rattle.ci_scopes.specs.Rows.{IsRows}
use Rattle.ci_scopes.specs.Stands.{with_items}
use Rattle.ci_scopes.proofs.rows.Rows.add_file.Given as goal

-- the items that were read stand in the tables
abbrev pub invariant-loop-item : goal.invariant-loop-item
invariant-loop-item l = record {
  stands : (d : Declared) → IsRows l.initial.self d → IsRows l.self (with_items l.file d (items_of (take l.item-index l.items)));
  cells : l.self.variables.cells ≤ l.initial.self.variables.cells + MOST_CELLS * l.item-index;
  arrays : l.self.variables.arrays ≤ l.initial.self.variables.arrays + l.item-index;
}
