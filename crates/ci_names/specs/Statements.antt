-- The faults of statements: a small rule for each node.
use Rattle.std.specs.Prelude.{ℕ, true, ◌==◌, List, [], ◌∷◌, ◌++◌, length, Option, Some, None}
use Rattle.std.specs.List.{list_any}
use Rattle.std.specs.Str.{str_eq_ignore_ascii_case}
use Rattle.ci_base.specs.declared.bounds.TheConstants.{MOST_LOCALS}
use Rattle.ci_base.specs.declared.value.Kind.{Kind}
use Rattle.ci_base.specs.declared.value.Kind.TheVariants.{Int}
use Rattle.ci_tree.specs.declared.tree.TypeAt.{TypeAt}
use Rattle.ci_tree.specs.Tree as from
use Rattle.ci_tree.specs.Tree.{Expr, Label, Stmt, Other, Clauses, Block}
use Rattle.ci_names.specs.declared.fault.BindKind.TheVariants as kinds
use Rattle.ci_names.specs.declared.fault.Limit.TheVariants as limits
use Rattle.ci_names.specs.Fault.{Fault}
use Rattle.ci_names.specs.Declarations.{kind_of_type, is_out_of_scope}
use Rattle.ci_names.specs.Scopes.{Scope, Local, with_locals, declared_local, locals_in, locals_in_block, locals_in_clauses, callee}
use Rattle.ci_names.specs.Kinds.{takes_of, kind_of}
use Rattle.ci_names.specs.Expressions.{broken, differ, start_of, wants_kind, call_faults, expr_faults, args_faults}

-- the type of a declaration
abbrev pub type_faults : Scope → TypeAt → List Fault
type_faults s t = broken (is_out_of_scope t.name) s t.at kinds.TypeOutOfScope

-- the name of a local, where these are declared before
abbrev pub local_name : Scope → ℕ → List ℕ → List Fault
local_name s at name =
    broken (list_any (λ (l : Local). str_eq_ignore_ascii_case l.name name) s.locals) s at kinds.DeclaredTwice
    ++ broken (length s.locals == MOST_LOCALS) s at (kinds.Limit limits.Locals)

-- a part that may be left out
abbrev pub maybe : {A : Type 0} → (A → List Fault) → Option A → List Fault
maybe rule None = []
maybe rule (Some part) = rule part

-- an expression that is to have this kind, with its own faults
abbrev pub part_faults : Scope → Kind → Expr → List Fault
part_faults s kind e = wants_kind s kind e ++ expr_faults s e

-- the locals of a declaration, each where those before it hold
abbrev pub locals_faults : Scope → Kind → List from.Local → List Fault
locals_faults s kind [] = []
locals_faults s kind (l ∷ ls) =
    local_name s l.at l.name ++ maybe (part_faults s kind) l.value ++ locals_faults (with_locals s (declared_local kind l ∷ [])) kind ls

-- what is set, as an expression
abbrev pub target : ℕ → List ℕ → Option Expr → Expr
target at name None = from.expr at at (from.name name)
target at name (Some index) = from.expr at at (from.element name index)

-- a value that is assigned
abbrev pub assigned : Scope → ℕ → Expr → Expr → List Fault
assigned s equals to value = broken (differ (kind_of s to) (kind_of s value)) s equals kinds.KindsDiffer

-- a value that is compared with the subject of SELECT
abbrev pub compared : Scope → Option Kind → Expr → List Fault
compared s subject value = broken (differ subject (kind_of s value)) s (start_of value) kinds.KindsDiffer ++ expr_faults s value

abbrev pub label_faults : Scope → Option Kind → Label → List Fault
label_faults s subject (from.one value) = compared s subject value
label_faults s subject (from.range low high) = compared s subject low ++ compared s subject high
label_faults s subject (from.compared at relation value) = compared s subject value

abbrev pub labels_faults : Scope → Option Kind → List Label → List Fault
labels_faults s subject [] = []
labels_faults s subject (label ∷ labels) = label_faults s subject label ++ labels_faults s subject labels

-- RETURN, and its value, in a function that gives this kind
abbrev pub return_faults : Scope → ℕ → Option Kind → Option Expr → List Fault
return_faults s at None None = []
return_faults s at None (Some value) = broken true s at kinds.ReturnValue ++ expr_faults s value
return_faults s at (Some kind) None = broken true s at kinds.ReturnValue
return_faults s at (Some kind) (Some value) = part_faults s kind value

abbrev mutual
  -- all faults of a statement
  pub stmt_faults : Scope → Stmt → List Fault
  stmt_faults s (from.declare at kind locals) = type_faults s kind ++ locals_faults s (kind_of_type kind.name) locals
  stmt_faults s (from.assign at name index equals value) =
      expr_faults s (target at name index) ++ assigned s equals (target at name index) value ++ expr_faults s value
  stmt_faults s (from.call_of at name args) = call_faults s at name args ++ args_faults s (takes_of (callee s name)) args
  stmt_faults s (from.choose at test body last) =
      part_faults s Int test ++ block_faults s body ++ other_faults (with_locals s (locals_in_block body)) last
  stmt_faults s (from.while at test body) = part_faults s Int test ++ block_faults s body
  stmt_faults s (from.for at name_at name first last body) =
      part_faults s Int (target name_at name None) ++ part_faults s Int first ++ part_faults s Int last ++ block_faults s body
  stmt_faults s (from.select at subject clauses last) =
      expr_faults s subject ++ clauses_faults s (kind_of s subject) clauses ++ other_faults (with_locals s (locals_in_clauses clauses)) last
  stmt_faults s (from.return at value) = return_faults s at s.gives value

  pub other_faults : Scope → Other → List Fault
  other_faults s from.no_other = []
  other_faults s (from.other body) = block_faults s body

  -- each clause where the locals of those before it hold
  pub clauses_faults : Scope → Option Kind → Clauses → List Fault
  clauses_faults s subject from.no_clause = []
  clauses_faults s subject (from.clause at labels body rest) =
      labels_faults s subject labels ++ block_faults s body ++ clauses_faults (with_locals s (locals_in_block body)) subject rest

  -- each statement where the locals of those before it hold
  pub block_faults : Scope → Block → List Fault
  block_faults s from.done = []
  block_faults s (from.then first rest) = stmt_faults s first ++ block_faults (with_locals s (locals_in first)) rest
