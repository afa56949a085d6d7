-- Which bound project a value of the code is. The value keeps the arguments that stand in the source; those that were left out
-- are added by what the functions of the project take, their heads.
use Rattle.std.specs.Prelude.{List, map, option_map}
use Rattle.ci_tree.specs.declared.bound.Call.{fold-Call}
use Rattle.ci_tree.specs.declared.bound.Call.TheFolds.{fold-Expr, fold-Link}
use Rattle.ci_tree.specs.declared.bound.Call.TheOpen.{Call-F, Expr-F, Link-F}
use Rattle.ci_tree.specs.declared.bound.Expr as code_expr
use Rattle.ci_tree.specs.declared.bound.Call as code_call
use Rattle.ci_tree.specs.declared.bound.Link as code_link
use Rattle.ci_tree.specs.declared.bound.Label as code_label
use Rattle.ci_tree.specs.declared.bound.Label.TheVariants as labels
use Rattle.ci_tree.specs.declared.bound.Scalar as code_scalar
use Rattle.ci_tree.specs.declared.bound.Scalar.TheVariants as scalars
use Rattle.ci_tree.specs.declared.bound.Callee as code_callee
use Rattle.ci_tree.specs.declared.bound.Callee.TheVariants as callees
use Rattle.ci_tree.specs.declared.bound.Stmt.{fold-Stmt}
use Rattle.ci_tree.specs.declared.bound.Stmt.TheFolds.{fold-Clause}
use Rattle.ci_tree.specs.declared.bound.Stmt.TheOpen.{Stmt-F, Clause-F}
use Rattle.ci_tree.specs.declared.bound.Stmt as code_stmt
use Rattle.ci_tree.specs.declared.bound.Clause as code_clause
use Rattle.ci_tree.specs.declared.bound.Param as code_param
use Rattle.ci_tree.specs.declared.bound.Function as code_function
use Rattle.ci_tree.specs.declared.bound.Cell as code_cell
use Rattle.ci_tree.specs.declared.bound.Array as code_array
use Rattle.ci_tree.specs.declared.bound.Global as code_global
use Rattle.ci_tree.specs.declared.bound.ProjectParts as code_project
use Rattle.ci_tree.specs.Bound as to
use Rattle.ci_tree.specs.Bound.{exprs_from, links_from, block_from, clauses_from, other_from}
use Rattle.ci_tree.specs.LeftOut.{Heads, call_given}

-- a variable without an index
abbrev pub scalar_of : code_scalar.Scalar → to.Scalar
scalar_of (scalars.Local i) = to.local i
scalar_of (scalars.Cell c) = to.cell c

-- what is called
abbrev pub callee_of : code_callee.Callee → to.Callee
callee_of (callees.Function f) = to.function f
callee_of (callees.Private p) = to.private p
callee_of (callees.Shared q) = to.shared q

-- one layer of an expression
abbrev pub expr_layer : Expr-F to.Call to.Expr to.Link → to.Expr
expr_layer (Expr-F.Number value) = to.number value
expr_layer (Expr-F.Literal text) = to.literal text
expr_layer (Expr-F.Scalar of) = to.scalar (scalar_of of)
expr_layer (Expr-F.Element array index) = to.element array index
expr_layer (Expr-F.Called what) = to.called what
expr_layer (Expr-F.Unary minus operand) = to.unary minus operand
expr_layer (Expr-F.Chain first rest) = to.chain first (links_from rest)

abbrev pub call_layer : Heads → Call-F to.Call to.Expr to.Link → to.Call
call_layer heads (Call-F.Plain callee args) = call_given heads (callee_of callee) (exprs_from args)
call_layer heads (Call-F.QueRead queue sort text mode) = to.que_read queue (scalar_of sort) (scalar_of text) mode

abbrev pub link_layer : Link-F to.Call to.Expr to.Link → to.Link
link_layer (Link-F.Operand operator operand) = to.operand_link operator operand
link_layer (Link-F.Hashes count) = to.hashes_link count

-- the expression
abbrev pub expr_of : Heads → code_expr.Expr → to.Expr
expr_of heads = fold-Expr to.Call to.Expr to.Link (call_layer heads) expr_layer link_layer

-- the call
abbrev pub call_of : Heads → code_call.Call → to.Call
call_of heads = fold-Call to.Call to.Expr to.Link (call_layer heads) expr_layer link_layer

-- the member of a chain
abbrev pub link_of : Heads → code_link.Link → to.Link
link_of heads = fold-Link to.Call to.Expr to.Link (call_layer heads) expr_layer link_layer

abbrev pub exprs_of : Heads → List code_expr.Expr → to.Exprs
exprs_of heads es = exprs_from (map (expr_of heads) es)

abbrev pub links_of : Heads → List code_link.Link → to.Links
links_of heads ls = links_from (map (link_of heads) ls)

-- the label
abbrev pub label_of : Heads → code_label.Label → to.Label
label_of heads (labels.One value) = to.one (expr_of heads value)
label_of heads (labels.Range low high) = to.range (expr_of heads low) (expr_of heads high)
label_of heads (labels.Is relation value) = to.compared relation (expr_of heads value)

-- one layer of a statement
abbrev pub stmt_layer : Heads → Stmt-F to.Stmt to.Clause → to.Stmt
stmt_layer heads (Stmt-F.Assign at target value) = to.assign at (scalar_of target) (expr_of heads value)
stmt_layer heads (Stmt-F.AssignElement at array index value) = to.assign_element at array (expr_of heads index) (expr_of heads value)
stmt_layer heads (Stmt-F.CallOf at what) = to.call_of at (call_of heads what)
stmt_layer heads (Stmt-F.If at test body other) = to.choose at (expr_of heads test) (block_from body) (other_from (option_map block_from other))
stmt_layer heads (Stmt-F.While at test body) = to.while at (expr_of heads test) (block_from body)
stmt_layer heads (Stmt-F.For at counter first last body) = to.for at (scalar_of counter) (expr_of heads first) (expr_of heads last) (block_from body)
stmt_layer heads (Stmt-F.Select at subject clauses other) = to.select at (expr_of heads subject) (clauses_from clauses) (block_from other)
stmt_layer heads (Stmt-F.Return at value) = to.return at (expr_of heads value)

abbrev pub clause_layer : Heads → Clause-F to.Stmt to.Clause → to.Clause
clause_layer heads c = record { labels = map (label_of heads) c.labels; body = block_from c.body }

-- the statement
abbrev pub stmt_of : Heads → code_stmt.Stmt → to.Stmt
stmt_of heads = fold-Stmt to.Stmt to.Clause (stmt_layer heads) (clause_layer heads)

-- the clause
abbrev pub clause_of : Heads → code_clause.Clause → to.Clause
clause_of heads = fold-Clause to.Stmt to.Clause (stmt_layer heads) (clause_layer heads)

abbrev pub block_of : Heads → List code_stmt.Stmt → to.Block
block_of heads ss = block_from (map (stmt_of heads) ss)

abbrev pub clauses_of : Heads → List code_clause.Clause → to.Clauses
clauses_of heads cs = clauses_from (map (clause_of heads) cs)

abbrev pub param_of : code_param.Param → to.Param
param_of p = record { kind = p.kind; first = p.first }

-- what each of these functions takes
abbrev pub heads_of : List code_function.Function → Heads
heads_of fs = map (λ (f : code_function.Function). map param_of f.params) fs

-- the function
abbrev pub function_of : Heads → code_function.Function → to.Function
function_of heads f = record {
  file = f.file;
  name = f.name;
  public = f.public;
  gives = f.gives;
  params = map param_of f.params;
  others = f.others;
  body = block_of heads f.body;
}

abbrev pub cell_of : code_cell.Cell → to.Cell
cell_of c = record { kind = c.kind; first = c.first }

abbrev pub array_of : code_array.Array → to.Array
array_of a = record { first = a.first; kind = a.kind; length = a.length }

abbrev pub global_of : code_global.Global → to.Global
global_of g = record { name = g.name; cell = g.cell }

-- the project
abbrev pub project_of : code_project.ProjectParts → to.Project
project_of p = record {
  functions = map (function_of (heads_of p.functions)) p.functions;
  cells = map cell_of p.cells;
  arrays = map array_of p.arrays;
  globals = map global_of p.globals;
}
