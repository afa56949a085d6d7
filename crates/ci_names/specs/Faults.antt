-- All faults of the names and kinds of a project.
use Rattle.std.specs.Prelude.{ℕ, ◌+◌, Bool, not, ◌&&◌, ◌||◌, nat_le, nat_lt, ◌==◌, List, [], ◌++◌, length, map, Option, Some, None, is_some, slice_get}
use Rattle.std.specs.List.{list_any}
use Rattle.std.specs.Str.{str_eq_ignore_ascii_case}
use Rattle.ci_base.specs.declared.bounds.TheConstants.{MOST_FUNCTIONS, MOST_PARAMETERS, MOST_CELLS}
use Rattle.ci_base.specs.declared.value.Kind.{Kind}
use Rattle.ci_base.specs.declared.value.Kind.TheVariants.{Int, Str}
use Rattle.ci_tree.specs.declared.tree.Length.{Length}
use Rattle.ci_tree.specs.declared.tree.Const.{Const}
use Rattle.ci_tree.specs.declared.tree.Const.TheVariants as const
use Rattle.ci_tree.specs.declared.tree.Param.{Param}
use Rattle.ci_tree.specs.Tree.{Item}
use Rattle.ci_names.specs.declared.fault.BindKind.TheVariants as kinds
use Rattle.ci_names.specs.declared.fault.Limit.TheVariants as limits
use Rattle.ci_names.specs.Fault.{Fault, sorted}
use Rattle.ci_names.specs.Given.{given_named}
use Rattle.ci_names.specs.Declarations.{Function, Variable, Declared, declared_in, each_behind, kind_of_type, array_size, cells_of, size_of, kind_of_variable}
use Rattle.ci_names.specs.Scopes.{Scope, scope_of, param_local}
use Rattle.ci_names.specs.Expressions.{broken, differs}
use Rattle.ci_names.specs.Statements.{maybe, type_faults, local_name, block_faults}

-- First values

abbrev pub const_kind : Const → Kind
const_kind (const.Number at n) = Int
const_kind (const.Literal at text) = Str

-- the first token
abbrev pub const_at : Const → ℕ
const_at (const.Number at n) = at
const_at (const.Literal at text) = at

-- a first value that is to have this kind
abbrev pub first_value : Scope → Kind → Const → List Fault
first_value s kind first = broken (differs kind (Some (const_kind first))) s (const_at first) kinds.KindsDiffer

-- Parameters

-- the parameter has a default
abbrev pub has_default : Param → Bool
has_default p = is_some p.first

-- a parameter, given those before it, where they hold
abbrev pub param_faults : Scope → List Param → Param → List Fault
param_faults s before p =
    type_faults s p.kind
    ++ local_name (record s { locals = map param_local before }) p.at p.name
    ++ broken (length before == MOST_PARAMETERS) s p.at (kinds.Limit limits.Parameters)
    ++ broken (not (has_default p) && list_any has_default before) s p.at kinds.ArgumentCount
    ++ maybe (first_value s (kind_of_type p.kind.name)) p.first

-- Functions

-- both have one name, and both would be seen: in their file, or everywhere
abbrev pub same_function : Function → Function → Bool
same_function f g = str_eq_ignore_ascii_case f.name g.name && (f.file == g.file || (not f.private && not g.private))

-- a function, given those before it
abbrev pub function_faults : Declared → List Function → Function → List Fault
function_faults d before f =
    let s = scope_of d f in
    broken (list_any (same_function f) before || is_some (given_named f.name)) s f.at kinds.DeclaredTwice
    ++ broken (length before == MOST_FUNCTIONS) s f.at (kinds.Limit limits.Functions)
    ++ maybe (type_faults s) f.gives
    ++ each_behind (param_faults s) [] f.params
    ++ block_faults s f.body

-- Variables

-- both have one name, and both would be seen: in their file, or everywhere
abbrev pub same_variable : Variable → Variable → Bool
same_variable v w = str_eq_ignore_ascii_case v.name w.name && (v.file == w.file || (v.global && w.global))

-- with this variable the cells pass their limit
abbrev pub passes_cells : List Variable → Variable → Bool
passes_cells before v = nat_le (cells_of before) MOST_CELLS && nat_lt MOST_CELLS (cells_of before + size_of v)

-- the length of an array
abbrev pub length_faults : Scope → Length → List Fault
length_faults s l = broken (array_size l.value == 0) s l.at (kinds.Limit limits.Array)

-- outside all functions
abbrev pub file_scope : Declared → ℕ → Scope
file_scope d file = record { declared = d; file = file; gives = None; locals = [] }

-- a variable, given those before it
abbrev pub variable_faults : Declared → List Variable → Variable → List Fault
variable_faults d before v =
    let s = file_scope d v.file in
    broken (list_any (same_variable v) before) s v.at kinds.DeclaredTwice
    ++ broken (passes_cells before v) s v.at (kinds.Limit limits.Cells)
    ++ type_faults s v.kind
    ++ maybe (length_faults s) v.length
    ++ maybe (first_value s (kind_of_variable v)) v.first

-- All files

abbrev pub declared_faults : Declared → List Fault
declared_faults d = each_behind (function_faults d) [] d.functions ++ each_behind (variable_faults d) [] d.variables

-- all faults of the files, in order
abbrev pub faults : List (List Item) → List Fault
faults files = sorted (declared_faults (declared_in files))

-- the first fault, where there is one
abbrev pub first_fault : List (List Item) → Option Fault
first_fault files = slice_get (faults files) 0
