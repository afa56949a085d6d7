-- What the tables stand for.
use Rattle.std.specs.Prelude.{◌≡◌, ℕ, ◌++◌, Bool, ◌&&◌, ◌==◌, List, [], ◌∷◌, map, Some, None, position}
use Rattle.std.specs.Str.{str_eq_ignore_ascii_case}
use Rattle.ci_tree.specs.Tree.{Item}
use Rattle.ci_names.specs.Given as given
use Rattle.ci_names.specs.Declarations as declarations
use Rattle.ci_names.specs.Declarations.{Function, Variable, Declared, functions_in, variables_in, each_behind, is_public, is_of_file, cells_of, arrays_of}
use Rattle.ci_names.specs.Scopes.{variable_behind, Meaning}
use Rattle.ci_scopes.specs.declared.functions.Functions.{Functions}
use Rattle.ci_scopes.specs.declared.given.GivenAt.{GivenAt}
use Rattle.ci_scopes.specs.declared.variables.Variables.{Variables}
use Rattle.ci_scopes.specs.Listed.{function_at, variable_at}
use Rattle.ci_scopes.specs.GivenRows.{given_row}
use Rattle.ci_scopes.specs.Values.{heading_of, meaning_of}
use Rattle.ci_scopes.specs.Table.{number_of}

-- what variables mean
abbrev pub meanings_of : List Variable → List Meaning
meanings_of vs = each_behind (λ before v. variable_behind before v ∷ []) [] vs

-- the variable has this name and is seen everywhere
abbrev pub is_global : List ℕ → Variable → Bool
is_global name v = v.global && str_eq_ignore_ascii_case v.name name

-- the function has this name and stands in this file, and is PRIVATE
abbrev pub is_own_private : ℕ → List ℕ → Function → Bool
is_own_private file name f = f.private && is_of_file file name f

-- the variable has this name and stands in this file
abbrev pub is_own_variable : ℕ → List ℕ → Variable → Bool
is_own_variable file name v = v.file == file && str_eq_ignore_ascii_case v.name name

-- the tables are those of these functions
pub record IsFunctions (table : Functions) (fs : List Function) : Type 0 where
  pub rows : map function_at table.rows.items ≡ fs
  pub headings : map heading_of table.headings.items ≡ map declarations.heading_of fs
  pub publics : (name : List ℕ) → number_of table.publics None name ≡ position (is_public name) fs
  pub own : (file : ℕ) (name : List ℕ) → number_of table.own (Some file) name ≡ position (is_of_file file name) fs
  pub privates : (file : ℕ) (name : List ℕ) → number_of table.privates (Some file) name ≡ position (is_own_private file name) fs

-- the tables are those of these variables
pub record IsVariables (table : Variables) (vs : List Variable) : Type 0 where
  pub rows : map variable_at table.rows.items ≡ vs
  pub meanings : map meaning_of table.meanings.items ≡ meanings_of vs
  pub globals : (name : List ℕ) → number_of table.globals None name ≡ position (is_global name) vs
  pub own : (file : ℕ) (name : List ℕ) → number_of table.own (Some file) name ≡ position (is_own_variable file name) vs
  pub cells : table.cells ≡ cells_of vs
  pub arrays : table.arrays ≡ arrays_of vs

-- what is declared, and then the items of a file
abbrev pub with_items : ℕ → Declared → List Item → Declared
with_items file d items = record { functions = d.functions ++ functions_in file items; variables = d.variables ++ variables_in file items }

-- the tables are those of what is declared and given
pub record AreTables (functions : Functions) (variables : Variables) (rows : List GivenAt) (d : Declared) : Type 0 where
  pub functions_are : IsFunctions functions d.functions
  pub variables_are : IsVariables variables d.variables
  pub given_are : map given_row rows ≡ given.private_functions ++ given.shared_functions
