-- Parts in front of others, one by one.
use Rattle.std.proofs.Common.{◌≡◌, List, [], ◌∷◌, ◌++◌, map, refl, ap, ◌∙◌}
use Rattle.std.proofs.lemmas.List.{map_push}
use Rattle.ci_tree.specs.Bound as to
use Rattle.ci_tree.specs.Bound.{exprs_from, links_from, block_from, clauses_from}
use Rattle.ci_tree.specs.declared.bound.Expr as code_expr
use Rattle.ci_tree.specs.declared.bound.Link as code_link
use Rattle.ci_tree.specs.declared.bound.Stmt as code_stmt
use Rattle.ci_tree.specs.declared.bound.Clause as code_clause
use Rattle.ci_tree.specs.LeftOut.{Heads}
use Rattle.ci_tree.specs.SeenBound.{expr_of, link_of, stmt_of, clause_of}
use Rattle.ci_bodies.specs.InFront.{args_in_front, links_in_front, stmts_in_front, clauses_in_front}

pub args_push : (es : List to.Expr) (e : to.Expr) (behind : to.Exprs) → args_in_front (es ++ e ∷ []) behind ≡ args_in_front es (to.more e behind)
args_push [] e behind = refl
args_push (x ∷ es) e behind = ap (to.more x) (args_push es e behind)

-- an argument was added
pub args_pushed : (heads : Heads) (es fs : List code_expr.Expr) (e : code_expr.Expr) (behind : to.Exprs) → fs ≡ es ++ e ∷ [] → args_in_front (map (expr_of heads) fs) behind ≡ args_in_front (map (expr_of heads) es) (to.more (expr_of heads e) behind)
args_pushed heads es fs e behind is = ap (λ xs. args_in_front (map (expr_of heads) xs) behind) is ∙ ap (λ xs. args_in_front xs behind) (map_push (expr_of heads) es e) ∙ args_push (map (expr_of heads) es) (expr_of heads e) behind

pub args_all : (es : List to.Expr) → args_in_front es to.no_expr ≡ exprs_from es
args_all [] = refl
args_all (e ∷ es) = ap (to.more e) (args_all es)

pub links_push : (ls : List to.Link) (l : to.Link) (behind : to.Links) → links_in_front (ls ++ l ∷ []) behind ≡ links_in_front ls (links_in_front (l ∷ []) behind)
links_push [] l behind = refl
links_push ((to.operand_link op e) ∷ ls) l behind = ap (to.operand op e) (links_push ls l behind)
links_push ((to.hashes_link n) ∷ ls) l behind = ap (to.hashes n) (links_push ls l behind)

-- a member was added
pub links_pushed : (heads : Heads) (ls ms : List code_link.Link) (l : code_link.Link) (behind : to.Links) → ms ≡ ls ++ l ∷ [] → links_in_front (map (link_of heads) ms) behind ≡ links_in_front (map (link_of heads) ls) (links_in_front (link_of heads l ∷ []) behind)
links_pushed heads ls ms l behind is = ap (λ xs. links_in_front (map (link_of heads) xs) behind) is ∙ ap (λ xs. links_in_front xs behind) (map_push (link_of heads) ls l) ∙ links_push (map (link_of heads) ls) (link_of heads l) behind

pub links_all : (ls : List to.Link) → links_in_front ls to.no_link ≡ links_from ls
links_all [] = refl
links_all ((to.operand_link op e) ∷ ls) = ap (to.operand op e) (links_all ls)
links_all ((to.hashes_link n) ∷ ls) = ap (to.hashes n) (links_all ls)

pub stmts_push : (ss : List to.Stmt) (s : to.Stmt) (behind : to.Block) → stmts_in_front (ss ++ s ∷ []) behind ≡ stmts_in_front ss (to.then s behind)
stmts_push [] s behind = refl
stmts_push (x ∷ ss) s behind = ap (to.then x) (stmts_push ss s behind)

-- a statement was added
pub stmts_pushed : (heads : Heads) (ss ts : List code_stmt.Stmt) (s : code_stmt.Stmt) (behind : to.Block) → ts ≡ ss ++ s ∷ [] → stmts_in_front (map (stmt_of heads) ts) behind ≡ stmts_in_front (map (stmt_of heads) ss) (to.then (stmt_of heads s) behind)
stmts_pushed heads ss ts s behind is = ap (λ xs. stmts_in_front (map (stmt_of heads) xs) behind) is ∙ ap (λ xs. stmts_in_front xs behind) (map_push (stmt_of heads) ss s) ∙ stmts_push (map (stmt_of heads) ss) (stmt_of heads s) behind

pub stmts_all : (ss : List to.Stmt) → stmts_in_front ss to.done ≡ block_from ss
stmts_all [] = refl
stmts_all (s ∷ ss) = ap (to.then s) (stmts_all ss)

pub clauses_push : (cs : List to.Clause) (c : to.Clause) (behind : to.Clauses) → clauses_in_front (cs ++ c ∷ []) behind ≡ clauses_in_front cs (to.clause c.labels c.body behind)
clauses_push [] c behind = refl
clauses_push (x ∷ cs) c behind = ap (to.clause x.labels x.body) (clauses_push cs c behind)

-- a clause was added
pub clauses_pushed : (heads : Heads) (cs ds : List code_clause.Clause) (c : code_clause.Clause) (behind : to.Clauses) → ds ≡ cs ++ c ∷ [] → clauses_in_front (map (clause_of heads) ds) behind ≡ clauses_in_front (map (clause_of heads) cs) (to.clause (clause_of heads c).labels (clause_of heads c).body behind)
clauses_pushed heads cs ds c behind is = ap (λ xs. clauses_in_front (map (clause_of heads) xs) behind) is ∙ ap (λ xs. clauses_in_front xs behind) (map_push (clause_of heads) cs c) ∙ clauses_push (map (clause_of heads) cs) (clause_of heads c) behind

pub clauses_all : (cs : List to.Clause) → clauses_in_front cs to.no_clause ≡ clauses_from cs
clauses_all [] = refl
clauses_all (c ∷ cs) = ap (to.clause c.labels c.body) (clauses_all cs)
