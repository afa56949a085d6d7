-- How much room a function of a bound project takes: its locals, and the operands that stand at once.
use Rattle.std.specs.Prelude.{ℕ, ◌+◌, max, List, [], ◌∷◌, length}
use Rattle.ci_tree.specs.Bound as to
use Rattle.ci_tree.specs.Bound.{Expr, Call, Links, Exprs, Label, Stmt, Other, Clauses, Block, Function}

-- The width of a part is the greatest number of operands that stand at once while it runs. What runs while n operands
-- wait adds n to its own width: an operand waits for the one on its right, and the arguments for those behind them.
abbrev mutual
  pub width : Expr → ℕ
  width (to.number value) = 1
  width (to.literal text) = 1
  width (to.scalar of) = 1
  width (to.element a index) = width index
  width (to.called what) = call_width what
  width (to.unary minus operand) = width operand
  width (to.chain first rest) = max (width first) (links_width rest)

  pub call_width : Call → ℕ
  call_width (to.call callee given args) = max 1 (args_width 0 args)
  call_width (to.que_read queue sort text mode) = max (width queue) (max (1 + width mode) 2)

  -- the left operand waits
  pub links_width : Links → ℕ
  links_width to.no_link = 0
  links_width (to.operand operator right rest) = max (1 + width right) (links_width rest)
  links_width (to.hashes count rest) = links_width rest

  -- so many arguments wait
  pub args_width : ℕ → Exprs → ℕ
  args_width waiting to.no_expr = 0
  args_width waiting (to.more first rest) = max (waiting + width first) (args_width (waiting + 1) rest)

-- the subject waits, once for the label and once to be kept
abbrev pub label_width : Label → ℕ
label_width (to.one value) = 2 + width value
label_width (to.range low high) = max (2 + width low) (3 + width high)
label_width (to.compared relation value) = 2 + width value

abbrev pub labels_width : List Label → ℕ
labels_width [] = 0
labels_width (label ∷ labels) = max (label_width label) (labels_width labels)

abbrev mutual
  pub stmt_width : Stmt → ℕ
  stmt_width (to.assign at target value) = width value
  stmt_width (to.assign_element at a index value) = max (width index) (1 + width value)
  stmt_width (to.call_of at what) = call_width what
  stmt_width (to.choose at test body last) = max (width test) (max (block_width body) (other_width last))
  stmt_width (to.while at test body) = max (width test) (block_width body)
  -- the last value waits while the body runs; counting takes four operands
  stmt_width (to.for at counter first last body) = max (width first) (max (1 + width last) (max 4 (1 + block_width body)))
  stmt_width (to.select at subject clauses last) = max (width subject) (max (clauses_width clauses) (block_width last))
  stmt_width (to.return at value) = max 1 (width value)

  pub other_width : Other → ℕ
  other_width to.no_other = 0
  other_width (to.other body) = block_width body

  pub clauses_width : Clauses → ℕ
  clauses_width to.no_clause = 0
  clauses_width (to.clause labels body rest) = max (labels_width labels) (max (block_width body) (clauses_width rest))

  pub block_width : Block → ℕ
  block_width to.done = 0
  block_width (to.then first rest) = max (stmt_width first) (block_width rest)

-- the number of locals of a function, its parameters among them
abbrev pub locals_of : Function → ℕ
locals_of f = length f.params + length f.others

-- the room of a function
abbrev pub room : Function → ℕ
room f = locals_of f + max 1 (block_width f.body)
