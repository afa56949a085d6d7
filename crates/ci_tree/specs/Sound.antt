-- What holds of a bound project whose sources are right: each number names something, all kinds and numbers of arguments
-- are right, and the limits are kept.
use Rattle.std.specs.Prelude.{ℕ, ◌+◌, Bool, true, false, ◌&&◌, nat_le, nat_lt, if◌then◌else◌, List, [], ◌∷◌, ◌++◌, length, map, take, drop, Option, Some, None, is_some, option_map, unwrap_or, slice_get}
use Rattle.std.specs.List.{list_all}
use Rattle.ci_base.specs.declared.bounds.TheConstants.{MOST_FUNCTIONS, MOST_PARAMETERS, MOST_LOCALS, MOST_CELLS}
use Rattle.ci_base.specs.declared.value.Kind.{Kind}
use Rattle.ci_base.specs.declared.value.Kind.TheVariants.{Int, Str}
use Rattle.ci_base.specs.declared.value.Value.{Value}
use Rattle.ci_base.specs.declared.value.Value.TheVariants as values
use Rattle.ci_base.specs.Functions.{private_takes, private_gives, shared_takes}
use Rattle.ci_tree.specs.Bound as to
use Rattle.ci_tree.specs.Bound.{Scalar, Callee, Expr, Call, Links, Exprs, Label, Stmt, Other, Clauses, Block, Param, Function, Cell, Array, Global, Project}
use Rattle.ci_tree.specs.Operators.{same_kind, has_kind, joins, joined, formed}

-- where a part stands: the project, the kinds of the function's locals, and the kind that the function gives
pub record Context : Type 0 where
  pub project : Project
  pub locals : List Kind
  pub gives : Option Kind

-- Kinds

abbrev pub scalar_kind : Context → Scalar → Option Kind
scalar_kind c (to.local i) = slice_get c.locals i
scalar_kind c (to.cell n) = option_map (λ (x : Cell). x.kind) (slice_get c.project.cells n)

abbrev pub array_kind : Context → ℕ → Option Kind
array_kind c a = option_map (λ (x : Array). x.kind) (slice_get c.project.arrays a)

-- what a function takes, and the kind of its value, where it has one
pub record Signature : Type 0 where
  pub takes : List Kind
  pub gives : Option Kind

abbrev pub param_kinds : Function → List Kind
param_kinds f = map (λ (p : Param). p.kind) f.params

abbrev pub function_signature : Function → Signature
function_signature f = record { takes = param_kinds f; gives = f.gives }

abbrev pub signature : Context → Callee → Option Signature
signature c (to.function f) = option_map function_signature (slice_get c.project.functions f)
signature c (to.private p) = Some (record { takes = private_takes p; gives = Some (private_gives p) })
signature c (to.shared q) = Some (record { takes = shared_takes q; gives = Some Int })

abbrev pub takes_of : Option Signature → List Kind
takes_of None = []
takes_of (Some s) = s.takes

abbrev pub gives_of : Option Signature → Option Kind
gives_of None = None
gives_of (Some s) = s.gives

abbrev mutual
  -- the kind of an expression, where it has one
  pub kind_of : Context → Expr → Option Kind
  kind_of c (to.number value) = Some Int
  kind_of c (to.literal text) = Some Str
  kind_of c (to.scalar of) = scalar_kind c of
  kind_of c (to.element a index) = if has_kind Int (kind_of c index) then array_kind c a else None
  kind_of c (to.called what) = if is_call c what then call_kind c what else None
  kind_of c (to.unary minus operand) = if has_kind Int (kind_of c operand) then Some Int else None
  kind_of c (to.chain first rest) = links_kind c (kind_of c first) rest

  -- the kind of a chain whose members so far have this kind
  pub links_kind : Context → Option Kind → Links → Option Kind
  links_kind c left to.no_link = left
  links_kind c left (to.operand op right rest) = links_kind c (joined (joins op) left (kind_of c right)) rest
  links_kind c left (to.hashes count rest) = links_kind c (formed left) rest

  -- the kind of the value of a call, where it has one
  pub call_kind : Context → Call → Option Kind
  call_kind c (to.call callee given args) = gives_of (signature c callee)
  call_kind c (to.que_read queue sort text mode) = Some Int

  -- what is called is there, and the arguments are right
  pub is_call : Context → Call → Bool
  is_call c (to.call callee given args) = is_some (signature c callee) && have_kinds c (takes_of (signature c callee)) args
  is_call c (to.que_read queue sort text mode) =
      has_kind Int (kind_of c queue) && has_kind Int (scalar_kind c sort) && has_kind Str (scalar_kind c text) && has_kind Int (kind_of c mode)

  -- the arguments have these kinds
  pub have_kinds : Context → List Kind → Exprs → Bool
  have_kinds c [] to.no_expr = true
  have_kinds c [] (to.more first rest) = false
  have_kinds c (kind ∷ kinds) to.no_expr = false
  have_kinds c (kind ∷ kinds) (to.more first rest) = has_kind kind (kind_of c first) && have_kinds c kinds rest

-- Statements

-- both have one kind
abbrev pub have_one_kind : Option Kind → Option Kind → Bool
have_one_kind None right = false
have_one_kind (Some kind) right = has_kind kind right

abbrev pub is_label : Context → Option Kind → Label → Bool
is_label c subject (to.one value) = have_one_kind subject (kind_of c value)
is_label c subject (to.range low high) = have_one_kind subject (kind_of c low) && have_one_kind subject (kind_of c high)
is_label c subject (to.compared relation value) = have_one_kind subject (kind_of c value)

abbrev mutual
  -- a statement
  pub is_stmt : Context → Stmt → Bool
  is_stmt c (to.assign at target value) = have_one_kind (scalar_kind c target) (kind_of c value)
  is_stmt c (to.assign_element at a index value) = has_kind Int (kind_of c index) && have_one_kind (array_kind c a) (kind_of c value)
  is_stmt c (to.call_of at what) = is_call c what
  is_stmt c (to.choose at test body last) = has_kind Int (kind_of c test) && is_block c body && is_other c last
  is_stmt c (to.while at test body) = has_kind Int (kind_of c test) && is_block c body
  is_stmt c (to.for at counter first last body) =
      has_kind Int (scalar_kind c counter) && has_kind Int (kind_of c first) && has_kind Int (kind_of c last) && is_block c body
  is_stmt c (to.select at subject clauses last) = is_some (kind_of c subject) && are_clauses c (kind_of c subject) clauses && is_block c last
  -- a function without a type gives 0
  is_stmt c (to.return at value) = has_kind (unwrap_or c.gives Int) (kind_of c value)

  pub is_other : Context → Other → Bool
  is_other c to.no_other = true
  is_other c (to.other body) = is_block c body

  pub are_clauses : Context → Option Kind → Clauses → Bool
  are_clauses c subject to.no_clause = true
  are_clauses c subject (to.clause labels body rest) = list_all (is_label c subject) labels && is_block c body && are_clauses c subject rest

  pub is_block : Context → Block → Bool
  is_block c to.done = true
  is_block c (to.then first rest) = is_stmt c first && is_block c rest

-- Declarations

abbrev pub kind_of_value : Value → Kind
kind_of_value (values.Int n) = Int
kind_of_value (values.Str text) = Str

-- a default, if there is one, has the kind
abbrev pub is_default : Kind → Option Value → Bool
is_default kind None = true
is_default kind (Some first) = same_kind kind (kind_of_value first)

-- behind a parameter with a default stand only parameters with one
abbrev pub are_last : List Param → Bool
are_last [] = true
are_last (p ∷ ps) = (if is_some p.first then list_all (λ (q : Param). is_some q.first) ps else true) && are_last ps

abbrev pub context_of : Project → Function → Context
context_of p f = record { project = p; locals = param_kinds f ++ f.others; gives = f.gives }

abbrev pub is_function : Project → Function → Bool
is_function p f =
    nat_le (length f.params) MOST_PARAMETERS
    && nat_le (length f.params + length f.others) MOST_LOCALS
    && list_all (λ (q : Param). is_default q.kind q.first) f.params
    && are_last f.params
    && is_block (context_of p f) f.body

abbrev pub is_cell : Cell → Bool
is_cell x = same_kind x.kind (kind_of_value x.first)

-- an array lies within the cells, and has cells of its kind
abbrev pub is_array : Project → Array → Bool
is_array p a =
    nat_le 1 a.length
    && nat_le (a.first + a.length) (length p.cells)
    && list_all (λ (x : Cell). same_kind a.kind x.kind) (take a.length (drop a.first p.cells))

abbrev pub is_global : Project → Global → Bool
is_global p g = nat_lt g.cell (length p.cells)

-- the project is right
abbrev pub is_sound : Project → Bool
is_sound p =
    nat_le (length p.functions) MOST_FUNCTIONS
    && nat_le (length p.cells) MOST_CELLS
    && list_all (is_function p) p.functions
    && list_all is_cell p.cells
    && list_all (is_array p) p.arrays
    && list_all (is_global p) p.globals
