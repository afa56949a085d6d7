-- The project of functions and variables.
use Rattle.std.specs.Prelude.{List, [], flat_map}
use Rattle.ci_tree.specs.Bound.{Function, Project}
use Rattle.ci_names.specs.Declarations.{Variable, each_behind}
use Rattle.ci_names.specs.Binding.{bound_cells, bound_array, bound_global}

-- it has these functions, and the cells, arrays and GLOBAL scalars of these variables
abbrev pub project_with : List Function → List Variable → Project
project_with functions variables = record {
  functions = functions;
  cells = flat_map bound_cells variables;
  arrays = each_behind bound_array [] variables;
  globals = each_behind bound_global [] variables;
}
