-- How many nodes a tree has.
--
-- A node is an item, a parameter, a local of a declaration, a statement, a clause of SELECT or an expression. Nothing else is
-- one: no link of a chain, no label, no type, no length and no first value. The expressions in a link or a label are nodes.
use Rattle.std.specs.Prelude.{ℕ, ◌+◌, List, length, sum_by, Option, Some, None}
use Rattle.ci_tree.specs.Tree as to
use Rattle.ci_tree.specs.Tree.{Expr, What, Links, Exprs, Local, Label, Stmt, Other, Clauses, Block, Item}

abbrev mutual
  -- an expression, and those in it
  pub expr_nodes : Expr → ℕ
  expr_nodes (to.expr start at what) = 1 + what_nodes what

  pub what_nodes : What → ℕ
  what_nodes (to.number value) = 0
  what_nodes (to.literal text) = 0
  what_nodes (to.name x) = 0
  what_nodes (to.element x index) = expr_nodes index
  what_nodes (to.call x args) = exprs_nodes args
  what_nodes (to.unary minus operand) = expr_nodes operand
  what_nodes (to.chain first rest) = expr_nodes first + links_nodes rest

  pub links_nodes : Links → ℕ
  links_nodes to.no_link = 0
  links_nodes (to.operand at operator right rest) = expr_nodes right + links_nodes rest
  links_nodes (to.hashes at count rest) = links_nodes rest

  pub exprs_nodes : Exprs → ℕ
  exprs_nodes to.no_expr = 0
  exprs_nodes (to.more first rest) = expr_nodes first + exprs_nodes rest

-- an expression that may be left out
abbrev pub option_nodes : Option Expr → ℕ
option_nodes None = 0
option_nodes (Some e) = expr_nodes e

abbrev pub local_nodes : Local → ℕ
local_nodes l = 1 + option_nodes l.value

abbrev pub label_nodes : Label → ℕ
label_nodes (to.one value) = expr_nodes value
label_nodes (to.range low high) = expr_nodes low + expr_nodes high
label_nodes (to.compared at relation value) = expr_nodes value

abbrev mutual
  -- a statement, and what is in it
  pub stmt_nodes : Stmt → ℕ
  stmt_nodes (to.declare at kind locals) = 1 + sum_by local_nodes locals
  stmt_nodes (to.assign at x index equals value) = 1 + option_nodes index + expr_nodes value
  stmt_nodes (to.call_of at x args) = 1 + exprs_nodes args
  stmt_nodes (to.choose at test body otherwise) = 1 + expr_nodes test + block_nodes body + other_nodes otherwise
  stmt_nodes (to.while at test body) = 1 + expr_nodes test + block_nodes body
  stmt_nodes (to.for at x_at x first last body) = 1 + expr_nodes first + expr_nodes last + block_nodes body
  stmt_nodes (to.select at subject clauses otherwise) = 1 + expr_nodes subject + clauses_nodes clauses + other_nodes otherwise
  stmt_nodes (to.return at value) = 1 + option_nodes value

  pub other_nodes : Other → ℕ
  other_nodes to.no_other = 0
  other_nodes (to.other body) = block_nodes body

  pub clauses_nodes : Clauses → ℕ
  clauses_nodes to.no_clause = 0
  clauses_nodes (to.clause at labels body rest) = 1 + sum_by label_nodes labels + block_nodes body + clauses_nodes rest

  pub block_nodes : Block → ℕ
  block_nodes to.done = 0
  block_nodes (to.then first rest) = stmt_nodes first + block_nodes rest

-- an item, with its parameters and its statements
abbrev pub item_nodes : Item → ℕ
item_nodes (to.function at x private gives params body) = 1 + length params + block_nodes body
item_nodes (to.variable at x global kind size first) = 1

-- the nodes of a file's tree
abbrev pub nodes : List Item → ℕ
nodes tree = sum_by item_nodes tree
