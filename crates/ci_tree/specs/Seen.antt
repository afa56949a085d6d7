-- Which tree a value of the code is.
use Rattle.std.specs.Prelude.{List, map, option_map}
use Rattle.ci_tree.specs.declared.tree.ExprKind.TheFolds.{fold-Expr, fold-Link}
use Rattle.ci_tree.specs.declared.tree.ExprKind.TheOpen.{ExprKind-F, Link-F, Expr-F}
use Rattle.ci_tree.specs.declared.tree.Expr as code_expr
use Rattle.ci_tree.specs.declared.tree.Link as code_link
use Rattle.ci_tree.specs.declared.tree.Label as code_label
use Rattle.ci_tree.specs.declared.tree.Label.TheVariants as labels
use Rattle.ci_tree.specs.declared.tree.LocalAt as code_local
use Rattle.ci_tree.specs.declared.tree.Item as code_item
use Rattle.ci_tree.specs.declared.tree.Item.TheVariants as items
use Rattle.ci_tree.specs.declared.tree.Stmt.{fold-Stmt}
use Rattle.ci_tree.specs.declared.tree.Stmt.TheFolds.{fold-Clause}
use Rattle.ci_tree.specs.declared.tree.Stmt.TheOpen.{Stmt-F, Clause-F}
use Rattle.ci_tree.specs.declared.tree.Stmt as code_stmt
use Rattle.ci_tree.specs.declared.tree.Clause as code_clause
use Rattle.ci_tree.specs.Tree as to
use Rattle.ci_tree.specs.Tree.{exprs_from, links_from, block_from, clauses_from, other_from}

-- one layer of an expression
abbrev pub what_layer : ExprKind-F to.What to.Link to.Expr → to.What
what_layer (ExprKind-F.Number value) = to.number value
what_layer (ExprKind-F.Literal text) = to.literal text
what_layer (ExprKind-F.Name name) = to.name name
what_layer (ExprKind-F.Element name index) = to.element name index
what_layer (ExprKind-F.CallOf name args) = to.call name (exprs_from args)
what_layer (ExprKind-F.Unary minus operand) = to.unary minus operand
what_layer (ExprKind-F.Chain first rest) = to.chain first (links_from rest)

abbrev pub link_layer : Link-F to.What to.Link to.Expr → to.Link
link_layer (Link-F.Operand at operator operand) = to.operand_link at operator operand
link_layer (Link-F.Hashes at count) = to.hashes_link at count

abbrev pub expr_layer : Expr-F to.What to.Link to.Expr → to.Expr
expr_layer e = to.expr e.start e.at e.what

-- the expression
abbrev pub expr_of : code_expr.Expr → to.Expr
expr_of = fold-Expr to.What to.Link to.Expr what_layer link_layer expr_layer

-- the member of a chain
abbrev pub link_of : code_link.Link → to.Link
link_of = fold-Link to.What to.Link to.Expr what_layer link_layer expr_layer

abbrev pub exprs_of : List code_expr.Expr → to.Exprs
exprs_of es = exprs_from (map expr_of es)

abbrev pub links_of : List code_link.Link → to.Links
links_of ls = links_from (map link_of ls)

-- the local of a declaration
abbrev pub local_of : code_local.LocalAt → to.Local
local_of l = record { at = l.at; name = l.name; value = option_map expr_of l.value }

-- the label
abbrev pub label_of : code_label.Label → to.Label
label_of (labels.One value) = to.one (expr_of value)
label_of (labels.Range low high) = to.range (expr_of low) (expr_of high)
label_of (labels.Is at relation value) = to.compared at relation (expr_of value)

-- one layer of a statement
abbrev pub stmt_layer : Stmt-F to.Stmt to.Clause → to.Stmt
stmt_layer (Stmt-F.Declare at kind locals) = to.declare at kind (map local_of locals)
stmt_layer (Stmt-F.Assign at name index equals value) = to.assign at name (option_map expr_of index) equals (expr_of value)
stmt_layer (Stmt-F.CallOf at name args) = to.call_of at name (exprs_of args)
stmt_layer (Stmt-F.If at test body other) = to.choose at (expr_of test) (block_from body) (other_from (option_map block_from other))
stmt_layer (Stmt-F.While at test body) = to.while at (expr_of test) (block_from body)
stmt_layer (Stmt-F.For at name_at name first last body) = to.for at name_at name (expr_of first) (expr_of last) (block_from body)
stmt_layer (Stmt-F.Select at subject clauses other) = to.select at (expr_of subject) (clauses_from clauses) (other_from (option_map block_from other))
stmt_layer (Stmt-F.Return at value) = to.return at (option_map expr_of value)

abbrev pub clause_layer : Clause-F to.Stmt to.Clause → to.Clause
clause_layer c = record { at = c.at; labels = map label_of c.labels; body = block_from c.body }

-- the statement
abbrev pub stmt_of : code_stmt.Stmt → to.Stmt
stmt_of = fold-Stmt to.Stmt to.Clause stmt_layer clause_layer

-- the clause
abbrev pub clause_of : code_clause.Clause → to.Clause
clause_of = fold-Clause to.Stmt to.Clause stmt_layer clause_layer

abbrev pub block_of : List code_stmt.Stmt → to.Block
block_of ss = block_from (map stmt_of ss)

abbrev pub clauses_of : List code_clause.Clause → to.Clauses
clauses_of cs = clauses_from (map clause_of cs)

-- the item
abbrev pub item_of : code_item.Item → to.Item
item_of (items.Function at name private gives params body) = to.function at name private gives params (block_of body)
item_of (items.Variable at name global kind length first) = to.variable at name global kind length first

abbrev pub items_of : List code_item.Item → List to.Item
items_of is = map item_of is
