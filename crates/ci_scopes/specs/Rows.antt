-- What the items of files stand for, read one by one.
use Rattle.std.specs.Prelude.{ℕ, ◌+◌, ◌*◌, ◌<◌, ◌^◌}
use Rattle.ci_base.specs.declared.bounds.TheConstants.{MOST_CELLS}
use Rattle.ci_names.specs.Declarations.{Declared}
use Rattle.ci_scopes.specs.declared.rows.Rows.{Rows}
use Rattle.ci_scopes.specs.Stands.{IsFunctions, IsVariables}

-- the tables are those of what is declared
abbrev pub IsRows : Rows → Declared → Type 0
IsRows rows d = IsFunctions rows.functions d.functions × IsVariables rows.variables d.variables

-- the numbers of cells and arrays have room for so many more variables
abbrev pub HasRoom : ℕ → Rows → Type 0
HasRoom n rows = (rows.variables.cells + MOST_CELLS * n < 2 ^ 64) × (rows.variables.arrays + n < 2 ^ 64)
