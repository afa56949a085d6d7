-- What the files declare, and which declaration a name means.
use Rattle.std.specs.Prelude.{ℕ, ◌+◌, ℤ, pos, negsuc, Bool, true, false, not, ◌&&◌, nat_le, ◌==◌, if◌then◌else◌, List, [], ◌∷◌, ◌++◌, length, map, Option, Some, None, option_map, option_and_then, position, slice_get, sum_by, count_by}
use Rattle.std.specs.List.{list_any}
use Rattle.std.specs.Option.{option_or}
use Rattle.std.specs.Str.{str_eq_ignore_ascii_case}
use Rattle.ci_base.specs.declared.bounds.TheConstants.{MOST_CELLS}
use Rattle.ci_base.specs.declared.value.Kind.{Kind}
use Rattle.ci_base.specs.declared.value.Kind.TheVariants.{Int, Str}
use Rattle.ci_base.specs.declared.value.Value.{Value}
use Rattle.ci_base.specs.declared.value.Value.TheVariants as values
use Rattle.ci_tree.specs.declared.tree.TypeName.{TypeName}
use Rattle.ci_tree.specs.declared.tree.TypeName.TheVariants as type_name
use Rattle.ci_tree.specs.declared.tree.TypeAt.{TypeAt}
use Rattle.ci_tree.specs.declared.tree.Length.{Length}
use Rattle.ci_tree.specs.declared.tree.Const.{Const}
use Rattle.ci_tree.specs.declared.tree.Const.TheVariants as const
use Rattle.ci_tree.specs.declared.tree.Param.{Param}
use Rattle.ci_tree.specs.Tree.{Block, Item, function, variable}
use Rattle.ci_tree.specs.Bound as to
use Rattle.ci_names.specs.Given.{Taken, by_value, with_default, Heading, Called, given_named}

-- a declaration of a function, with the number of its file and its name's token
pub record Function : Type 0 where
  pub file : ℕ
  pub at : ℕ
  pub name : List ℕ
  pub private : Bool
  pub gives : Option TypeAt
  pub params : List Param
  pub body : Block

-- a declaration of a variable
pub record Variable : Type 0 where
  pub file : ℕ
  pub at : ℕ
  pub name : List ℕ
  pub global : Bool
  pub kind : TypeAt
  pub length : Option Length
  pub first : Option Const

-- all that is declared; a function's number is its place in the list
pub record Declared : Type 0 where
  pub functions : List Function
  pub variables : List Variable

abbrev pub functions_in : ℕ → List Item → List Function
functions_in file [] = []
functions_in file ((function at name private gives params body) ∷ items) =
    record { file = file; at = at; name = name; private = private; gives = gives; params = params; body = body } ∷ functions_in file items
functions_in file ((variable at name global kind length first) ∷ items) = functions_in file items

abbrev pub variables_in : ℕ → List Item → List Variable
variables_in file [] = []
variables_in file ((function at name private gives params body) ∷ items) = variables_in file items
variables_in file ((variable at name global kind length first) ∷ items) =
    record { file = file; at = at; name = name; global = global; kind = kind; length = length; first = first } ∷ variables_in file items

-- what files declare that are numbered from this one on
abbrev pub functions_from : ℕ → List (List Item) → List Function
functions_from file [] = []
functions_from file (items ∷ files) = functions_in file items ++ functions_from (file + 1) files

abbrev pub variables_from : ℕ → List (List Item) → List Variable
variables_from file [] = []
variables_from file (items ∷ files) = variables_in file items ++ variables_from (file + 1) files

-- what the files declare, in the order of files and places
abbrev pub declared_in : List (List Item) → Declared
declared_in files = record { functions = functions_from 0 files; variables = variables_from 0 files }

-- what is given at each member of a list, with those before it
abbrev pub each_behind : {A B : Type 0} → (List A → A → List B) → List A → List A → List B
each_behind at before [] = []
each_behind at before (member ∷ members) = at before member ++ each_behind at (before ++ member ∷ []) members

-- Types and first values

-- the kind of a type; one that is out of scope counts as INT
abbrev pub kind_of_type : TypeName → Kind
kind_of_type type_name.Int = Int
kind_of_type type_name.String = Str
kind_of_type type_name.Real = Int
kind_of_type type_name.Object = Int
kind_of_type type_name.Quality = Int
kind_of_type type_name.Timestamp = Int

-- the type is REAL, OBJECT, QUALITY or TIMESTAMP
abbrev pub is_out_of_scope : TypeName → Bool
is_out_of_scope type_name.Int = false
is_out_of_scope type_name.String = false
is_out_of_scope type_name.Real = true
is_out_of_scope type_name.Object = true
is_out_of_scope type_name.Quality = true
is_out_of_scope type_name.Timestamp = true

abbrev pub const_value : Const → Value
const_value (const.Number at n) = values.Int n
const_value (const.Literal at text) = values.Str text

-- what a variable of the kind holds where nothing else is said
abbrev pub value_of_kind : Kind → Value
value_of_kind Int = values.Int (pos 0)
value_of_kind Str = values.Str []

-- Functions

-- what a parameter takes
abbrev pub taken : Kind → Option Const → Taken
taken kind None = by_value kind
taken kind (Some first) = with_default kind (const_value first)

abbrev pub given_kind : Option TypeAt → Option Kind
given_kind gives = option_map (λ (t : TypeAt). kind_of_type t.name) gives

-- what a declared function takes and gives
abbrev pub heading_of : Function → Heading
heading_of f = record { takes = map (λ (p : Param). taken (kind_of_type p.kind.name) p.first) f.params; gives = given_kind f.gives }

-- the function of this number
abbrev pub called_function : List Function → ℕ → Option Called
called_function functions n = option_map (λ (f : Function). record { callee = to.function n; heading = heading_of f }) (slice_get functions n)

-- the function has this name and stands in this file
abbrev pub is_of_file : ℕ → List ℕ → Function → Bool
is_of_file file name f = f.file == file && str_eq_ignore_ascii_case f.name name

-- the function has this name and is seen everywhere
abbrev pub is_public : List ℕ → Function → Bool
is_public name f = not f.private && str_eq_ignore_ascii_case f.name name

-- The number of the function that a name means in a file. Of several the first is meant: of this file, where it has a
-- PRIVATE one, and else of those that are seen everywhere.
abbrev pub function_number : List Function → ℕ → List ℕ → Option ℕ
function_number functions file name =
    if list_any (λ f. is_of_file file name f && f.private) functions then position (is_of_file file name) functions else position (is_public name) functions

-- what a called name means in a file: a declared function, or else one that every project has
abbrev pub function_named : Declared → ℕ → List ℕ → Option Called
function_named d file name = option_or (option_and_then (called_function d.functions) (function_number d.functions file name)) (given_named name)

-- Variables

-- the number of cells of an array of this length; one whose length is refused has none
abbrev pub array_size : ℤ → ℕ
array_size (pos n) = if nat_le n MOST_CELLS then n else 0
array_size (negsuc n) = 0

abbrev pub size_said : Option Length → ℕ
size_said None = 1
size_said (Some l) = array_size l.value

abbrev pub is_array_said : Option Length → Bool
is_array_said None = false
is_array_said (Some l) = true

-- the number of cells that a variable takes
abbrev pub size_of : Variable → ℕ
size_of v = size_said v.length

abbrev pub is_array : Variable → Bool
is_array v = is_array_said v.length

abbrev pub kind_of_variable : Variable → Kind
kind_of_variable v = kind_of_type v.kind.name

-- the number of cells, and of arrays, that variables take
abbrev pub cells_of : List Variable → ℕ
cells_of vs = sum_by size_of vs

abbrev pub arrays_of : List Variable → ℕ
arrays_of vs = count_by is_array vs

-- The number of the variable that a name means in a file. Of several the first is meant: of this file, and where it has
-- none, of the GLOBAL ones.
abbrev pub variable_number : List Variable → ℕ → List ℕ → Option ℕ
variable_number variables file name =
    option_or
    (position (λ (v : Variable). v.file == file && str_eq_ignore_ascii_case v.name name) variables)
    (position (λ (v : Variable). v.global && str_eq_ignore_ascii_case v.name name) variables)
