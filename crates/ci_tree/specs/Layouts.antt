-- What the shared state knows of a bound project: each function's name, what it takes, and the values for what may be left
-- out; each cell; and the GLOBAL scalars by name. It knows no body, and no array.
use Rattle.std.specs.Prelude.{map}
use Rattle.std.specs.List.{filter_map}
use Rattle.ci_base.specs.declared.layout.Head.{Head}
use Rattle.ci_base.specs.declared.layout.CellHead.{CellHead}
use Rattle.ci_base.specs.declared.layout.Global as code
use Rattle.ci_base.specs.declared.layout.Layout.{Layout}
use Rattle.ci_tree.specs.Bound.{Param, Function, Cell, Global, Project}
use Rattle.ci_tree.specs.Sound.{param_kinds}

-- what a task can be started from
abbrev pub head_of : Function → Head
head_of f = record { name = f.name; public = f.public; kinds = param_kinds f; defaults = filter_map (λ (p : Param). p.first) f.params }

abbrev pub cell_head_of : Cell → CellHead
cell_head_of c = record { kind = c.kind; first = c.first }

abbrev pub global_head_of : Global → code.Global
global_head_of g = record { name = g.name; cell = g.cell }

-- what the shared state knows of the project
abbrev pub layout_of : Project → Layout
layout_of p = record { functions = map head_of p.functions; cells = map cell_head_of p.cells; globals = map global_head_of p.globals }
