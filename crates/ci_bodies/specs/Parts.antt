-- What the walk over the parts of a statement gives: what was made of each, its kind, and the first fault so far.
use Rattle.std.specs.Prelude.{◌≡◌, ℕ, Bool, List, ◌++◌, map, Option}
use Rattle.ci_base.specs.declared.value.Kind.{Kind}
use Rattle.ci_tree.specs.declared.bound.Expr as code_expr
use Rattle.ci_tree.specs.declared.bound.Link as code_link
use Rattle.ci_tree.specs.declared.bound.Label as code_label
use Rattle.ci_tree.specs.declared.bound.Stmt as code_stmt
use Rattle.ci_tree.specs.Tree as from
use Rattle.ci_tree.specs.Bound as to
use Rattle.ci_names.specs.declared.fault.Fault.{Fault}
use Rattle.ci_names.specs.Fault.{noted}
use Rattle.ci_names.specs.Given.{Taken}
use Rattle.ci_names.specs.Scopes.{Scope}
use Rattle.ci_names.specs.Kinds.{kind_of, what_kind, is_taken, are_taken}
use Rattle.ci_names.specs.Expressions.{argument, expr_faults, what_faults}
use Rattle.ci_names.specs.Binding.{bound_expr, bound_what, bound_links, bound_args, bound_label}
use Rattle.ci_bodies.specs.InFront.{stmts_in_front}
use Rattle.ci_bodies.specs.Made.{expr_in, exprs_in, link_in, links_in, label_in, stmt_in}
use Rattle.ci_bodies.specs.Links.{bound_link}

-- these faults were noted
abbrev pub Notes : List Fault → Option Fault → Option Fault → Type 0
Notes faults old new = new ≡ noted old faults

-- Expressions

-- this was made of the expression
abbrev pub IsBoundExpr : Scope → from.Expr → code_expr.Expr → Type 0
IsBoundExpr s e made = expr_in s made ≡ bound_expr s e

-- the expression has this kind, if any
abbrev pub HasKind : Scope → from.Expr → Option Kind → Type 0
HasKind s e kind = kind ≡ kind_of s e

-- the faults of the expression were noted
abbrev pub NotesExpr : Scope → from.Expr → Option Fault → Option Fault → Type 0
NotesExpr s e old new = Notes (expr_faults s e) old new

-- this was made of an expression of this form
abbrev pub IsBoundWhat : Scope → from.What → code_expr.Expr → Type 0
IsBoundWhat s what made = expr_in s made ≡ bound_what s what

-- an expression of this form has this kind, if any
abbrev pub WhatHasKind : Scope → from.What → Option Kind → Type 0
WhatHasKind s what kind = kind ≡ what_kind s what

-- the faults of an expression of this form at this token were noted
abbrev pub NotesWhat : Scope → ℕ → from.What → Option Fault → Option Fault → Type 0
NotesWhat s at what old new = Notes (what_faults s at what) old new

-- Members of a chain

-- this was made of the member
abbrev pub IsBoundLink : Scope → from.Link → code_link.Link → Type 0
IsBoundLink s link made = link_in s made ≡ bound_link s link

-- these were made of the members
abbrev pub AreBoundLinks : Scope → from.Links → List code_link.Link → Type 0
AreBoundLinks s links made = links_in s made ≡ bound_links s links

-- Arguments of a call

-- these were made of the arguments
abbrev pub AreBoundArgs : Scope → from.Exprs → List code_expr.Expr → Type 0
AreBoundArgs s args made = exprs_in s made ≡ bound_args s args

-- whether the argument can stand where this is taken
abbrev pub FitsTaken : Scope → Taken → from.Expr → Bool → Type 0
FitsTaken s taken arg fits = fits ≡ is_taken taken arg (kind_of s arg)

-- whether each of the arguments can stand where these are taken
abbrev pub FitTaken : Scope → List Taken → from.Exprs → Bool → Type 0
FitTaken s takes args fit = fit ≡ are_taken s takes args

-- the faults of the argument where this is taken were noted
abbrev pub NotesArgument : Scope → Taken → from.Expr → Option Fault → Option Fault → Type 0
NotesArgument s taken arg old new = Notes (argument s taken arg ++ expr_faults s arg) old new

-- Labels of SELECT

-- this was made of the label
abbrev pub IsBoundLabel : Scope → from.Label → code_label.Label → Type 0
IsBoundLabel s label made = label_in s made ≡ bound_label s label

-- these were made of the labels
abbrev pub AreBoundLabels : Scope → List from.Label → List code_label.Label → Type 0
AreBoundLabels s labels made = map (label_in s) made ≡ map (bound_label s) labels

-- Statements

-- behind what was made before stands now what this puts before the statements that follow
abbrev pub IsAppended : Scope → (to.Block → to.Block) → List code_stmt.Stmt → List code_stmt.Stmt → Type 0
IsAppended s before old new = (rest : to.Block) → stmts_in_front (map (stmt_in s) new) rest ≡ stmts_in_front (map (stmt_in s) old) (before rest)
