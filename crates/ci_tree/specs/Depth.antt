-- How many levels are open at once in a part of a bound project. Parentheses round an expression leave no trace there, so a
-- source may have had more levels open, and never fewer.
use Rattle.std.specs.Prelude.{ℕ, ◌+◌, max, List, [], ◌∷◌}
use Rattle.ci_tree.specs.Bound as to
use Rattle.ci_tree.specs.Bound.{Expr, Call, Links, Exprs, Label, Stmt, Other, Clauses, Block}

abbrev mutual
  pub depth : Expr → ℕ
  depth (to.number value) = 0
  depth (to.literal text) = 0
  depth (to.scalar of) = 0
  depth (to.element a index) = 1 + depth index
  depth (to.called what) = call_depth what
  depth (to.unary minus operand) = 1 + depth operand
  depth (to.chain first rest) = max (depth first) (links_depth rest)

  pub call_depth : Call → ℕ
  call_depth (to.call callee given args) = 1 + args_depth args
  call_depth (to.que_read queue sort text mode) = 1 + max (depth queue) (depth mode)

  pub links_depth : Links → ℕ
  links_depth to.no_link = 0
  links_depth (to.operand operator right rest) = max (depth right) (links_depth rest)
  links_depth (to.hashes count rest) = links_depth rest

  pub args_depth : Exprs → ℕ
  args_depth to.no_expr = 0
  args_depth (to.more first rest) = max (depth first) (args_depth rest)

abbrev pub label_depth : Label → ℕ
label_depth (to.one value) = depth value
label_depth (to.range low high) = max (depth low) (depth high)
label_depth (to.compared relation value) = depth value

abbrev pub labels_depth : List Label → ℕ
labels_depth [] = 0
labels_depth (label ∷ labels) = max (label_depth label) (labels_depth labels)

abbrev mutual
  pub stmt_depth : Stmt → ℕ
  stmt_depth (to.assign at target value) = depth value
  stmt_depth (to.assign_element at a index value) = max (1 + depth index) (depth value)
  stmt_depth (to.call_of at what) = call_depth what
  stmt_depth (to.choose at test body last) = 1 + max (depth test) (max (block_depth body) (other_depth last))
  stmt_depth (to.while at test body) = 1 + max (depth test) (block_depth body)
  stmt_depth (to.for at counter first last body) = 1 + max (depth first) (max (depth last) (block_depth body))
  stmt_depth (to.select at subject clauses last) = 1 + max (depth subject) (max (clauses_depth clauses) (block_depth last))
  stmt_depth (to.return at value) = depth value

  pub other_depth : Other → ℕ
  other_depth to.no_other = 0
  other_depth (to.other body) = block_depth body

  pub clauses_depth : Clauses → ℕ
  clauses_depth to.no_clause = 0
  clauses_depth (to.clause labels body rest) = max (labels_depth labels) (max (block_depth body) (clauses_depth rest))

  pub block_depth : Block → ℕ
  block_depth to.done = 0
  block_depth (to.then first rest) = max (stmt_depth first) (block_depth rest)
