-- Which bound tree a value of the code is, among the functions that are seen in a scope: the values for arguments left out are theirs.
use Rattle.std.specs.Prelude.{List, Option, option_map}
use Rattle.ci_tree.specs.declared.bound.Expr as code_expr
use Rattle.ci_tree.specs.declared.bound.Call as code_call
use Rattle.ci_tree.specs.declared.bound.Link as code_link
use Rattle.ci_tree.specs.declared.bound.Label as code_label
use Rattle.ci_tree.specs.declared.bound.Stmt as code_stmt
use Rattle.ci_tree.specs.declared.bound.Clause as code_clause
use Rattle.ci_tree.specs.Bound as to
use Rattle.ci_tree.specs.Bound.{other_from}
use Rattle.ci_tree.specs.SeenBound as bound
use Rattle.ci_names.specs.Scopes.{Scope}
use Rattle.ci_names.specs.Binding.{heads_in}

abbrev pub expr_in : Scope → code_expr.Expr → to.Expr
expr_in s = bound.expr_of (heads_in s.declared)

abbrev pub call_in : Scope → code_call.Call → to.Call
call_in s = bound.call_of (heads_in s.declared)

abbrev pub link_in : Scope → code_link.Link → to.Link
link_in s = bound.link_of (heads_in s.declared)

abbrev pub exprs_in : Scope → List code_expr.Expr → to.Exprs
exprs_in s = bound.exprs_of (heads_in s.declared)

abbrev pub links_in : Scope → List code_link.Link → to.Links
links_in s = bound.links_of (heads_in s.declared)

abbrev pub label_in : Scope → code_label.Label → to.Label
label_in s = bound.label_of (heads_in s.declared)

abbrev pub stmt_in : Scope → code_stmt.Stmt → to.Stmt
stmt_in s = bound.stmt_of (heads_in s.declared)

abbrev pub clause_in : Scope → code_clause.Clause → to.Clause
clause_in s = bound.clause_of (heads_in s.declared)

abbrev pub block_in : Scope → List code_stmt.Stmt → to.Block
block_in s = bound.block_of (heads_in s.declared)

-- the body behind ELSE, where there is one
abbrev pub other_in : Scope → Option (List code_stmt.Stmt) → to.Other
other_in s other = other_from (option_map (block_in s) other)

abbrev pub clauses_in : Scope → List code_clause.Clause → to.Clauses
clauses_in s = bound.clauses_of (heads_in s.declared)
