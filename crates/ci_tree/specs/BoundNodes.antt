-- How many nodes a bound project has: its functions, their parameters, statements, clauses of SELECT and expressions. What a
-- source may leave out is none of them: the values for arguments that were left out don't count, and a RETURN counts with its
-- value as one. So there are no more nodes than the trees have.
use Rattle.std.specs.Prelude.{ℕ, zero, suc, ◌+◌, length, sum_by}
use Rattle.ci_tree.specs.Bound as to
use Rattle.ci_tree.specs.Bound.{Expr, Call, Links, Exprs, Label, Stmt, Other, Clauses, Block, Function, Project}

abbrev mutual
  -- an expression, and those in it
  pub expr_nodes : Expr → ℕ
  expr_nodes (to.number value) = 1
  expr_nodes (to.literal text) = 1
  expr_nodes (to.scalar of) = 1
  expr_nodes (to.element a index) = 1 + expr_nodes index
  expr_nodes (to.called what) = 1 + call_nodes what
  expr_nodes (to.unary minus operand) = 1 + expr_nodes operand
  expr_nodes (to.chain first rest) = 1 + expr_nodes first + links_nodes rest

  -- the arguments of a call that stand in the source; two of QueRead are scalars
  pub call_nodes : Call → ℕ
  call_nodes (to.call callee given args) = exprs_nodes given args
  call_nodes (to.que_read queue sort text mode) = expr_nodes queue + 2 + expr_nodes mode

  pub links_nodes : Links → ℕ
  links_nodes to.no_link = 0
  links_nodes (to.operand operator right rest) = expr_nodes right + links_nodes rest
  links_nodes (to.hashes count rest) = links_nodes rest

  -- the first so many arguments
  pub exprs_nodes : ℕ → Exprs → ℕ
  exprs_nodes given to.no_expr = 0
  exprs_nodes zero (to.more first rest) = 0
  exprs_nodes (suc given) (to.more first rest) = expr_nodes first + exprs_nodes given rest

abbrev pub label_nodes : Label → ℕ
label_nodes (to.one value) = expr_nodes value
label_nodes (to.range low high) = expr_nodes low + expr_nodes high
label_nodes (to.compared relation value) = expr_nodes value

abbrev mutual
  -- a statement, and what is in it
  pub stmt_nodes : Stmt → ℕ
  stmt_nodes (to.assign at target value) = 1 + expr_nodes value
  stmt_nodes (to.assign_element at a index value) = 1 + expr_nodes index + expr_nodes value
  stmt_nodes (to.call_of at what) = 1 + call_nodes what
  stmt_nodes (to.choose at test body last) = 1 + expr_nodes test + block_nodes body + other_nodes last
  stmt_nodes (to.while at test body) = 1 + expr_nodes test + block_nodes body
  stmt_nodes (to.for at counter first last body) = 1 + expr_nodes first + expr_nodes last + block_nodes body
  stmt_nodes (to.select at subject clauses last) = 1 + expr_nodes subject + clauses_nodes clauses + block_nodes last
  stmt_nodes (to.return at value) = expr_nodes value

  pub other_nodes : Other → ℕ
  other_nodes to.no_other = 0
  other_nodes (to.other body) = block_nodes body

  pub clauses_nodes : Clauses → ℕ
  clauses_nodes to.no_clause = 0
  clauses_nodes (to.clause labels body rest) = 1 + sum_by label_nodes labels + block_nodes body + clauses_nodes rest

  pub block_nodes : Block → ℕ
  block_nodes to.done = 0
  block_nodes (to.then first rest) = stmt_nodes first + block_nodes rest

abbrev pub function_nodes : Function → ℕ
function_nodes f = 1 + length f.params + block_nodes f.body

abbrev pub nodes : Project → ℕ
nodes p = sum_by function_nodes p.functions
