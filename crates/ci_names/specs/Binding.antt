-- The bound project of files: their trees, with each name replaced by what it means.
--
-- A name that means nothing, and all else in which a fault lies, is replaced by something that has no meaning of its own:
-- files with a fault have no bound project.
use Rattle.std.specs.Prelude.{◌≡◌, ℕ, pos, not, ◌&&◌, if◌then◌else◌, List, [], ◌∷◌, length, map, flat_map, replicate, Option, Some, None, option_map, unwrap_or}
use Rattle.ci_base.specs.declared.value.Kind.{Kind}
use Rattle.ci_base.specs.declared.function.SharedName.TheVariants as requests
use Rattle.ci_tree.specs.declared.tree.Param.{Param}
use Rattle.ci_tree.specs.Tree as from
use Rattle.ci_tree.specs.Bound as to
use Rattle.ci_tree.specs.Bound.{Scalar, Callee, Call, Project}
use Rattle.ci_tree.specs.LeftOut.{Heads, call_given}
use Rattle.ci_names.specs.Given.{Called}
use Rattle.ci_names.specs.Declarations.{Function, Variable, Declared, declared_in, each_behind, kind_of_type, const_value, value_of_kind, given_kind, size_of, cells_of, is_array, kind_of_variable}
use Rattle.ci_names.specs.Scopes.{Scope, Local, scope_of, with_locals, declared_local, locals_in, locals_in_block, locals_in_clauses, Meaning, scalar, array, meaning, callee}
use Rattle.ci_names.specs.Faults.{faults}

-- the scalar that a name means
abbrev pub scalar_of : Meaning → Scalar
scalar_of (scalar of kind) = of
scalar_of _ = to.local 0

-- the array that a name means
abbrev pub array_of : Meaning → ℕ
array_of (array a kind) = a
array_of _ = 0

-- the function that a name means
abbrev pub callee_of : Option Called → Callee
callee_of (Some called) = called.callee
callee_of None = to.function 0

abbrev pub bound_param : Param → to.Param
bound_param p = record { kind = kind_of_type p.kind.name; first = option_map const_value p.first }

-- what each declared function takes
abbrev pub heads_in : Declared → Heads
heads_in d = map (λ (f : Function). map bound_param f.params) d.functions

-- a call with these arguments in the source; those that QueRead sets are scalars
abbrev pub called_with : Heads → Callee → to.Exprs → Call
called_with heads (to.shared requests.QueRead) (to.more queue (to.more (to.scalar sort) (to.more (to.scalar text) (to.more mode to.no_expr)))) =
    to.que_read queue sort text mode
called_with heads callee args = call_given heads callee args

abbrev mutual
  pub bound_expr : Scope → from.Expr → to.Expr
  bound_expr s (from.expr start at what) = bound_what s what

  pub bound_what : Scope → from.What → to.Expr
  bound_what s (from.number value) = to.number value
  bound_what s (from.literal text) = to.literal text
  bound_what s (from.name name) = to.scalar (scalar_of (meaning s name))
  bound_what s (from.element name index) = to.element (array_of (meaning s name)) (bound_expr s index)
  bound_what s (from.call name args) = to.called (called_with (heads_in s.declared) (callee_of (callee s name)) (bound_args s args))
  bound_what s (from.unary minus operand) = to.unary minus (bound_expr s operand)
  bound_what s (from.chain first rest) = to.chain (bound_expr s first) (bound_links s rest)

  pub bound_links : Scope → from.Links → to.Links
  bound_links s from.no_link = to.no_link
  bound_links s (from.operand at op right rest) = to.operand op (bound_expr s right) (bound_links s rest)
  bound_links s (from.hashes at count rest) = to.hashes count (bound_links s rest)

  -- the arguments of a call that stand in the source
  pub bound_args : Scope → from.Exprs → to.Exprs
  bound_args s from.no_expr = to.no_expr
  bound_args s (from.more first rest) = to.more (bound_expr s first) (bound_args s rest)

abbrev pub bound_call : Scope → List ℕ → from.Exprs → Call
bound_call s name args = called_with (heads_in s.declared) (callee_of (callee s name)) (bound_args s args)

-- Statements

-- the next local is set, where it has a first value
abbrev pub set_before : Scope → ℕ → Option from.Expr → to.Block → to.Block
set_before s at None rest = rest
set_before s at (Some value) rest = to.then (to.assign at (to.local (length s.locals)) (bound_expr s value)) rest

abbrev pub locals_before : Scope → Kind → List from.Local → to.Block → to.Block
locals_before s kind [] rest = rest
locals_before s kind (l ∷ ls) rest = set_before s l.at l.value (locals_before (with_locals s (declared_local kind l ∷ [])) kind ls rest)

abbrev pub bound_assign : Scope → ℕ → Meaning → Option from.Expr → from.Expr → to.Stmt
bound_assign s at variable None value = to.assign at (scalar_of variable) (bound_expr s value)
bound_assign s at variable (Some index) value = to.assign_element at (array_of variable) (bound_expr s index) (bound_expr s value)

abbrev pub bound_label : Scope → from.Label → to.Label
bound_label s (from.one value) = to.one (bound_expr s value)
bound_label s (from.range low high) = to.range (bound_expr s low) (bound_expr s high)
bound_label s (from.compared at relation value) = to.compared relation (bound_expr s value)

-- RETURN without a value gives 0
abbrev pub returned : Scope → Option from.Expr → to.Expr
returned s None = to.number (pos 0)
returned s (Some value) = bound_expr s value

abbrev mutual
  -- a statement before others
  pub bound_before : Scope → from.Stmt → to.Block → to.Block
  bound_before s (from.declare at kind locals) rest = locals_before s (kind_of_type kind.name) locals rest
  bound_before s (from.assign at name index equals value) rest = to.then (bound_assign s at (meaning s name) index value) rest
  bound_before s (from.call_of at name args) rest = to.then (to.call_of at (bound_call s name args)) rest
  bound_before s (from.choose at test body last) rest =
      to.then (to.choose at (bound_expr s test) (bound_block s body) (bound_other (with_locals s (locals_in_block body)) last)) rest
  bound_before s (from.while at test body) rest = to.then (to.while at (bound_expr s test) (bound_block s body)) rest
  bound_before s (from.for at name_at name first last body) rest =
      to.then (to.for at (scalar_of (meaning s name)) (bound_expr s first) (bound_expr s last) (bound_block s body)) rest
  bound_before s (from.select at subject clauses last) rest =
      to.then (to.select at (bound_expr s subject) (bound_clauses s clauses) (bound_last (with_locals s (locals_in_clauses clauses)) last)) rest
  bound_before s (from.return at value) rest = to.then (to.return at (returned s value)) rest

  pub bound_other : Scope → from.Other → to.Other
  bound_other s from.no_other = to.no_other
  bound_other s (from.other body) = to.other (bound_block s body)

  -- the ELSE part of SELECT
  pub bound_last : Scope → from.Other → to.Block
  bound_last s from.no_other = to.done
  bound_last s (from.other body) = bound_block s body

  pub bound_clauses : Scope → from.Clauses → to.Clauses
  bound_clauses s from.no_clause = to.no_clause
  bound_clauses s (from.clause at labels body rest) =
      to.clause (map (bound_label s) labels) (bound_block s body) (bound_clauses (with_locals s (locals_in_block body)) rest)

  pub bound_block : Scope → from.Block → to.Block
  bound_block s from.done = to.done
  bound_block s (from.then first rest) = bound_before s first (bound_block (with_locals s (locals_in first)) rest)

-- Declarations

abbrev pub bound_function : Declared → Function → to.Function
bound_function d f = record {
  file = f.file;
  name = f.name;
  public = not f.private;
  gives = given_kind f.gives;
  params = map bound_param f.params;
  others = map (λ (l : Local). l.kind) (locals_in_block f.body);
  body = bound_block (scope_of d f) f.body;
}

-- what each cell of a variable holds at first
abbrev pub cell_of : Variable → to.Cell
cell_of v = record { kind = kind_of_variable v; first = unwrap_or (option_map const_value v.first) (value_of_kind (kind_of_variable v)) }

abbrev pub bound_cells : Variable → List to.Cell
bound_cells v = replicate (size_of v) (cell_of v)

-- the array that a variable is, given the variables before it
abbrev pub bound_array : List Variable → Variable → List to.Array
bound_array before v = if is_array v then record { first = cells_of before; kind = kind_of_variable v; length = size_of v } ∷ [] else []

-- the GLOBAL scalar that a variable is
abbrev pub bound_global : List Variable → Variable → List to.Global
bound_global before v = if v.global && not (is_array v) then record { name = v.name; cell = cells_of before } ∷ [] else []

abbrev pub bound_declared : Declared → Project
bound_declared d = record {
  functions = map (bound_function d) d.functions;
  cells = flat_map bound_cells d.variables;
  arrays = each_behind bound_array [] d.variables;
  globals = each_behind bound_global [] d.variables;
}

-- the trees with names replaced
abbrev pub bound : List (List from.Item) → Project
bound files = bound_declared (declared_in files)

-- the files have no fault, and this is their project
abbrev pub binds : List (List from.Item) → Project → Type 0
binds files project = (faults files ≡ []) × (project ≡ bound files)
