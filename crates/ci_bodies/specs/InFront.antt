-- Lists of parts in front of what stands behind them.
use Rattle.std.specs.Prelude.{List, [], ◌∷◌}
use Rattle.ci_tree.specs.Bound.{Expr, Exprs, more, Link, operand_link, hashes_link, Links, operand, hashes, Stmt, Block, then, Clause, Clauses, clause}

-- these arguments, and those behind them
abbrev pub args_in_front : List Expr → Exprs → Exprs
args_in_front [] behind = behind
args_in_front (e ∷ es) behind = more e (args_in_front es behind)

-- these members of a chain, and those behind them
abbrev pub links_in_front : List Link → Links → Links
links_in_front [] behind = behind
links_in_front ((operand_link operator right) ∷ links) behind = operand operator right (links_in_front links behind)
links_in_front ((hashes_link count) ∷ links) behind = hashes count (links_in_front links behind)

-- these statements, and those behind them
abbrev pub stmts_in_front : List Stmt → Block → Block
stmts_in_front [] behind = behind
stmts_in_front (s ∷ ss) behind = then s (stmts_in_front ss behind)

-- these clauses, and those behind them
abbrev pub clauses_in_front : List Clause → Clauses → Clauses
clauses_in_front [] behind = behind
clauses_in_front (c ∷ cs) behind = clause c.labels c.body (clauses_in_front cs behind)
