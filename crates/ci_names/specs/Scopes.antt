-- What a name means as a variable, at each place of a function.
use Rattle.std.specs.Prelude.{ℕ, ◌+◌, if◌then◌else◌, List, [], ◌∷◌, ◌++◌, map, take, Option, Some, None, option_map, option_and_then, unwrap_or, slice_get}
use Rattle.std.specs.Option.{option_or}
use Rattle.std.specs.Str.{str_eq_ignore_ascii_case}
use Rattle.ci_base.specs.declared.value.Kind.{Kind}
use Rattle.ci_tree.specs.declared.tree.Param.{Param}
use Rattle.ci_tree.specs.Tree as from
use Rattle.ci_tree.specs.Tree.{Stmt, Other, Clauses, Block}
use Rattle.ci_tree.specs.Bound.{Scalar, local, cell}
use Rattle.ci_names.specs.Declarations.{Function, Variable, Declared, kind_of_type, given_kind, function_named, cells_of, arrays_of, is_array, kind_of_variable, variable_number}
use Rattle.ci_names.specs.Given.{Called}

-- a local of a function; its number is its place in the list of all locals
pub record Local : Type 0 where
  pub name : List ℕ
  pub kind : Kind

-- where a part of a function stands: its file, the kind that the function gives, and the locals that hold there
pub record Scope : Type 0 where
  pub declared : Declared
  pub file : ℕ
  pub gives : Option Kind
  pub locals : List Local

abbrev pub param_local : Param → Local
param_local p = record { name = p.name; kind = kind_of_type p.kind.name }

-- where the body of a function begins
abbrev pub scope_of : Declared → Function → Scope
scope_of d f = record { declared = d; file = f.file; gives = given_kind f.gives; locals = map param_local f.params }

-- where more locals hold
abbrev pub with_locals : Scope → List Local → Scope
with_locals s locals = record s { locals = s.locals ++ locals }

-- The locals that a statement declares, also those in its bodies: a local holds from the end of its declaration to the
-- END of the function, whatever body it stands in.
abbrev pub declared_local : Kind → from.Local → Local
declared_local kind l = record { name = l.name; kind = kind }

abbrev mutual
  pub locals_in : Stmt → List Local
  locals_in (from.declare at kind locals) = map (declared_local (kind_of_type kind.name)) locals
  locals_in (from.assign at name index equals value) = []
  locals_in (from.call_of at name args) = []
  locals_in (from.choose at test body last) = locals_in_block body ++ locals_in_other last
  locals_in (from.while at test body) = locals_in_block body
  locals_in (from.for at name_at name first last body) = locals_in_block body
  locals_in (from.select at subject clauses last) = locals_in_clauses clauses ++ locals_in_other last
  locals_in (from.return at value) = []

  pub locals_in_other : Other → List Local
  locals_in_other from.no_other = []
  locals_in_other (from.other body) = locals_in_block body

  pub locals_in_clauses : Clauses → List Local
  locals_in_clauses from.no_clause = []
  locals_in_clauses (from.clause at labels body rest) = locals_in_block body ++ locals_in_clauses rest

  pub locals_in_block : Block → List Local
  locals_in_block from.done = []
  locals_in_block (from.then first rest) = locals_in first ++ locals_in_block rest

-- what a name means as a variable
pub data Meaning : Type 0 where
  scalar : (of : Scalar) (kind : Kind) → Meaning
  array : (a : ℕ) (kind : Kind) → Meaning
  -- only a function of this name is seen
  only_function : Meaning
  nothing : Meaning

-- the first of these locals that has the name, where so many locals stand before them
abbrev pub local_named : ℕ → List Local → List ℕ → Option Meaning
local_named i [] name = None
local_named i (l ∷ ls) name = if str_eq_ignore_ascii_case l.name name then Some (scalar (local i) l.kind) else local_named (i + 1) ls name

-- a variable of a file that stands behind these
abbrev pub variable_behind : List Variable → Variable → Meaning
variable_behind before v = if is_array v then array (arrays_of before) (kind_of_variable v) else scalar (cell (cells_of before)) (kind_of_variable v)

-- the variable of this number
abbrev pub variable_at : List Variable → ℕ → Option Meaning
variable_at variables n = option_map (variable_behind (take n variables)) (slice_get variables n)

-- the variable that a name means in a file, outside all functions
abbrev pub variable_named : Declared → ℕ → List ℕ → Option Meaning
variable_named d file name = option_and_then (variable_at d.variables) (variable_number d.variables file name)

-- a name that means no variable
abbrev pub no_variable : Option Called → Meaning
no_variable (Some called) = only_function
no_variable None = nothing

-- what a name means as a variable: a local, or else a variable of the file, or else a GLOBAL one
abbrev pub meaning : Scope → List ℕ → Meaning
meaning s name =
    unwrap_or
    (option_or (local_named 0 s.locals name) (variable_named s.declared s.file name))
    (no_variable (function_named s.declared s.file name))

-- what a name means that is called
abbrev pub callee : Scope → List ℕ → Option Called
callee s name = function_named s.declared s.file name
