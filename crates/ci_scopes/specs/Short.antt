-- Declarations whose texts are short enough to be values.
use Rattle.std.specs.Prelude.{All}
use Rattle.ci_tree.specs.Written.{IsShortFirst, IsShortParam}
use Rattle.ci_names.specs.Declarations.{Function, Variable}

-- those of the parameters of a function
abbrev pub IsShortFunction : Function → Type 0
IsShortFunction f = All IsShortParam f.params

-- that of a variable
abbrev pub IsShortVariable : Variable → Type 0
IsShortVariable v = IsShortFirst v.first
