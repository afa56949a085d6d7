-- How many levels a derived tree has open at once: no more than were free.
use Rattle.std.specs.Prelude.{◌≡◌, refl, ℕ, zero, suc, ◌+◌, ◌≤◌, max, List, [], ◌∷◌, Option, Some, None}
use Rattle.std.proofs.Common.{sym, subst}
use native.Mathlib.Omega.{arith}
use Rattle.ci_tree.specs.Tree as tree
use Rattle.ci_tree.specs.Tree.{Expr, What, Links, Exprs, Label, Stmt, Other, Clauses, Block}
use Rattle.ci_tree.specs.Grammar as said
use Rattle.ci_tree.specs.Grammar.{IsLevel, IsRest, IsUnary, IsArgs, IsMoreArgs, IsLocal, IsLabel, AreAll, IsStatement, IsElse, IsCases, IsBody, after_level, after_rest, after_local, after_label, after_others, after_statement, after_body, begun_at, chained, tree_level, tree_rest, tree_unary, tree_args, tree_more_args, tree_local, tree_label, tree_others, tree_statement, tree_else, tree_cases, tree_body, stmt_then}
use Rattle.ci_names.proofs.Maxima.{max_least}

-- one level more is open
opened : (a free : ℕ) → a ≤ free → 1 + a ≤ suc free
opened a free h = omega arith

abbrev mutual
  pub deep : Expr → ℕ
  deep (tree.expr start at what) = what_deep what

  pub what_deep : What → ℕ
  what_deep (tree.number value) = 0
  what_deep (tree.literal text) = 0
  what_deep (tree.name name) = 0
  what_deep (tree.element name index) = 1 + deep index
  what_deep (tree.call name args) = 1 + args_deep args
  what_deep (tree.unary minus operand) = 1 + deep operand
  what_deep (tree.chain first rest) = max (deep first) (links_deep rest)

  pub links_deep : Links → ℕ
  links_deep tree.no_link = 0
  links_deep (tree.operand at op right rest) = max (deep right) (links_deep rest)
  links_deep (tree.hashes at count rest) = links_deep rest

  pub args_deep : Exprs → ℕ
  args_deep tree.no_expr = 0
  args_deep (tree.more first rest) = max (deep first) (args_deep rest)

begun_deep : (start : ℕ) (e : Expr) → deep (begun_at start e) ≡ deep e
begun_deep start (tree.expr inner at what) = refl

chained_deep : (start : ℕ) (first : Expr) (at : ℕ) (links : Links) (l : ℕ) → deep first ≤ l → links_deep links ≤ l → deep (chained start first at links) ≤ l
chained_deep start first at tree.no_link l h i = h
chained_deep start first at (tree.operand j op right rest) l h i = max_least (deep first) (links_deep (tree.operand j op right rest)) l h i
chained_deep start first at (tree.hashes j count rest) l h i = max_least (deep first) (links_deep (tree.hashes j count rest)) l h i

mutual
  level_deep : (n free i : ℕ) (e : said.Level) → IsLevel n free e → deep (tree_level i e) ≤ free
  level_deep zero free i (said.single u) h = unary_deep free i u h
  level_deep zero free i (said.group first rest) h = absurd h
  level_deep (suc n) free i (said.single u) h = absurd h
  level_deep (suc n) free i (said.group first rest) h =
      chained_deep i (tree_level i first) (after_level i first) (tree_rest (after_level i first) rest) free (level_deep n free i first h.0) (rest_deep n free (after_level i first) rest h.1)

  rest_deep : (n free i : ℕ) (rest : said.Rest) → IsRest n free rest → links_deep (tree_rest i rest) ≤ free
  rest_deep n free i said.no_rest h = omega arith
  rest_deep n free i (said.joined op right rest) h =
      max_least (deep (tree_level (suc i) right)) (links_deep (tree_rest (after_level (suc i) right) rest)) free (level_deep n free (suc i) right h.1) (rest_deep n free (after_level (suc i) right) rest h.2)
  rest_deep n free i (said.formed count rest) h = rest_deep n free (suc (suc i)) rest h.1

  unary_deep : (free i : ℕ) (u : said.Unary) → IsUnary free u → deep (tree_unary i u) ≤ free
  unary_deep zero i (said.minus u) h = absurd h
  unary_deep (suc free) i (said.minus u) h = opened (deep (tree_unary (suc i) u)) free (unary_deep free (suc i) u h)
  unary_deep zero i (said.not u) h = absurd h
  unary_deep (suc free) i (said.not u) h = opened (deep (tree_unary (suc i) u)) free (unary_deep free (suc i) u h)
  unary_deep free i (said.number v) h = omega arith
  unary_deep free i (said.text t) h = omega arith
  unary_deep zero i (said.parens e) h = absurd h
  unary_deep (suc free) i (said.parens e) h = subst (λ k. k ≤ suc free) (sym (begun_deep i (tree_level (suc i) e))) (let t = level_deep 8 free (suc i) e h in omega arith)
  unary_deep free i (said.name x) h = omega arith
  unary_deep zero i (said.called x a) h = absurd h
  unary_deep (suc free) i (said.called x a) h = opened (args_deep (tree_args (suc (suc i)) a)) free (arguments_deep free (suc (suc i)) a h)
  unary_deep zero i (said.element x e) h = absurd h
  unary_deep (suc free) i (said.element x e) h = opened (deep (tree_level (suc (suc i)) e)) free (level_deep 8 free (suc (suc i)) e h)

  arguments_deep : (free i : ℕ) (a : said.Args) → IsArgs free a → args_deep (tree_args i a) ≤ free
  arguments_deep free i said.no_args h = omega arith
  arguments_deep free i (said.args e rest) h = max_least (deep (tree_level i e)) (args_deep (tree_more_args (after_level i e) rest)) free (level_deep 8 free i e h.0) (more_deep free (after_level i e) rest h.1)

  more_deep : (free i : ℕ) (a : said.MoreArgs) → IsMoreArgs free a → args_deep (tree_more_args i a) ≤ free
  more_deep free i said.no_more_args h = omega arith
  more_deep free i (said.comma_arg e rest) h =
      max_least (deep (tree_level (suc i) e)) (args_deep (tree_more_args (after_level (suc i) e) rest)) free (level_deep 8 free (suc i) e h.0) (more_deep free (after_level (suc i) e) rest h.1)

-- Statements

abbrev pub maybe_deep : Option Expr → ℕ
maybe_deep None = 0
maybe_deep (Some e) = deep e

-- the index of what is assigned
abbrev pub index_deep : Option Expr → ℕ
index_deep None = 0
index_deep (Some e) = 1 + deep e

abbrev pub locals_deep : List tree.Local → ℕ
locals_deep [] = 0
locals_deep (l ∷ ls) = max (maybe_deep l.value) (locals_deep ls)

abbrev pub label_deep : Label → ℕ
label_deep (tree.one value) = deep value
label_deep (tree.range low high) = max (deep low) (deep high)
label_deep (tree.compared at relation value) = deep value

abbrev pub labels_deep : List Label → ℕ
labels_deep [] = 0
labels_deep (label ∷ labels) = max (label_deep label) (labels_deep labels)

abbrev mutual
  pub stmt_deep : Stmt → ℕ
  stmt_deep (tree.declare at kind locals) = locals_deep locals
  stmt_deep (tree.assign at name index equals value) = max (index_deep index) (deep value)
  stmt_deep (tree.call_of at name args) = 1 + args_deep args
  stmt_deep (tree.choose at test body last) = 1 + max (deep test) (max (block_deep body) (other_deep last))
  stmt_deep (tree.while at test body) = 1 + max (deep test) (block_deep body)
  stmt_deep (tree.for at name_at name first last body) = 1 + max (deep first) (max (deep last) (block_deep body))
  stmt_deep (tree.select at subject clauses last) = 1 + max (deep subject) (max (clauses_deep clauses) (other_deep last))
  stmt_deep (tree.return at value) = maybe_deep value

  pub other_deep : Other → ℕ
  other_deep tree.no_other = 0
  other_deep (tree.other body) = block_deep body

  pub clauses_deep : Clauses → ℕ
  clauses_deep tree.no_clause = 0
  clauses_deep (tree.clause at labels body rest) = max (labels_deep labels) (max (block_deep body) (clauses_deep rest))

  pub block_deep : Block → ℕ
  block_deep tree.done = 0
  block_deep (tree.then first rest) = max (stmt_deep first) (block_deep rest)

expr_deep : (free i : ℕ) (e : said.Level) → IsLevel 8 free e → deep (tree_level i e) ≤ free
expr_deep free i e h = level_deep 8 free i e h

local_deep : (free i : ℕ) (l : said.Local) → IsLocal free l → maybe_deep (tree_local i l).value ≤ free
local_deep free i (said.plain_local x) h = omega arith
local_deep free i (said.valued_local x e) h = expr_deep free (suc (suc i)) e h

others_deep : (free i : ℕ) (ls : List said.Local) → AreAll (IsLocal free) ls → locals_deep (tree_others after_local tree_local i ls) ≤ free
others_deep free i [] h = omega arith
others_deep free i (l ∷ ls) h =
    max_least (maybe_deep (tree_local (suc i) l).value) (locals_deep (tree_others after_local tree_local (after_local (suc i) l) ls)) free (local_deep free (suc i) l h.0) (others_deep free (after_local (suc i) l) ls h.1)

one_label_deep : (free i : ℕ) (l : said.Label) → IsLabel free l → label_deep (tree_label i l) ≤ free
one_label_deep free i (said.one e) h = expr_deep free i e h
one_label_deep free i (said.range a b) h = max_least (deep (tree_level i a)) (deep (tree_level (suc (after_level i a)) b)) free (expr_deep free i a h.0) (expr_deep free (suc (after_level i a)) b h.1)
one_label_deep free i (said.compared r e) h = expr_deep free (suc (suc i)) e h

other_labels_deep : (free i : ℕ) (ls : List said.Label) → AreAll (IsLabel free) ls → labels_deep (tree_others after_label tree_label i ls) ≤ free
other_labels_deep free i [] h = omega arith
other_labels_deep free i (l ∷ ls) h =
    max_least (label_deep (tree_label (suc i) l)) (labels_deep (tree_others after_label tree_label (after_label (suc i) l) ls)) free (one_label_deep free (suc i) l h.0) (other_labels_deep free (after_label (suc i) l) ls h.1)

-- what a statement leaves, if anything
abbrev Leaves : ℕ → Option Stmt → Type 0
Leaves l None = Unit {0}
Leaves l (Some s) = stmt_deep s ≤ l

then_deep : (l : ℕ) (o : Option Stmt) (b : Block) → Leaves l o → block_deep b ≤ l → block_deep (stmt_then o b) ≤ l
then_deep l None b h i = i
then_deep l (Some s) b h i = max_least (stmt_deep s) (block_deep b) l h i

-- two and three parts behind a level that a statement opens
opened_two : (a b free : ℕ) → a ≤ free → b ≤ free → 1 + max a b ≤ suc free
opened_two a b free h i = opened (max a b) free (max_least a b free h i)

opened_three : (a b c free : ℕ) → a ≤ free → b ≤ free → c ≤ free → 1 + max a (max b c) ≤ suc free
opened_three a b c free h i j = opened_two a (max b c) free h (max_least b c free i j)

mutual
  statement_deep : (free i : ℕ) (s : said.Statement) → IsStatement free s → Leaves free (tree_statement i s)
  statement_deep free i said.empty h = tt
  statement_deep free i (said.declared t l ls) h =
      max_least (maybe_deep (tree_local (suc i) l).value) (locals_deep (tree_others after_local tree_local (after_local (suc i) l) ls)) free (local_deep free (suc i) l h.0) (others_deep free (after_local (suc i) l) ls h.1)
  statement_deep zero i (said.call_of x a) h = absurd h
  statement_deep (suc free) i (said.call_of x a) h = opened (args_deep (tree_args (suc (suc i)) a)) free (arguments_deep free (suc (suc i)) a h)
  statement_deep free i (said.assigned x e) h = max_least 0 (deep (tree_level (suc (suc i)) e)) free (omega arith) (expr_deep free (suc (suc i)) e h)
  statement_deep zero i (said.element_assigned x j e) h = absurd h.0
  statement_deep (suc free) i (said.element_assigned x j e) h =
      let value_at = suc (suc (after_level (suc (suc i)) j)) in
      max_least (1 + deep (tree_level (suc (suc i)) j)) (deep (tree_level value_at e)) (suc free)
      (opened (deep (tree_level (suc (suc i)) j)) free (expr_deep free (suc (suc i)) j h.0)) (expr_deep (suc free) value_at e h.1)
  statement_deep zero i (said.choice e b o) h = absurd h
  statement_deep (suc free) i (said.choice e b o) h =
      let then_at = after_level (suc i) e in
      opened_three (deep (tree_level (suc i) e)) (block_deep (tree_body (suc then_at) b)) (other_deep (tree_else (after_body (suc then_at) b) o)) free
      (expr_deep free (suc i) e h.0) (body_deep free (suc then_at) b h.1) (else_deep free (after_body (suc then_at) b) o h.2)
  statement_deep zero i (said.loop e b) h = absurd h
  statement_deep (suc free) i (said.loop e b) h =
      let do_at = after_level (suc i) e in
      opened_two (deep (tree_level (suc i) e)) (block_deep (tree_body (suc do_at) b)) free (expr_deep free (suc i) e h.0) (body_deep free (suc do_at) b h.1)
  statement_deep zero i (said.count x e f b) h = absurd h
  statement_deep (suc free) i (said.count x e f b) h =
      let to_at = after_level (suc (suc (suc i))) e in
      let do_at = after_level (suc to_at) f in
      opened_three (deep (tree_level (suc (suc (suc i))) e)) (deep (tree_level (suc to_at) f)) (block_deep (tree_body (suc do_at) b)) free
      (expr_deep free (suc (suc (suc i))) e h.0) (expr_deep free (suc to_at) f h.1) (body_deep free (suc do_at) b h.2)
  statement_deep zero i (said.selection e c) h = absurd h
  statement_deep (suc free) i (said.selection e c) h =
      let at = after_level (suc (suc i)) e in
      let parts = cases_deep free at c h.1 in
      opened_three (deep (tree_level (suc (suc i)) e)) (clauses_deep (tree_cases at c).clauses) (other_deep (tree_cases at c).other) free (expr_deep free (suc (suc i)) e h.0) parts.0 parts.1
  statement_deep free i said.return_none h = omega arith
  statement_deep free i (said.return_value e) h = expr_deep free (suc i) e h

  else_deep : (free i : ℕ) (o : said.Else) → IsElse free o → other_deep (tree_else i o) ≤ free
  else_deep free i said.no_else h = omega arith
  else_deep free i (said.else b) h = body_deep free (suc i) b h

  cases_deep : (free i : ℕ) (c : said.Cases) → IsCases free c → (clauses_deep (tree_cases i c).clauses ≤ free) × (other_deep (tree_cases i c).other ≤ free)
  cases_deep free i said.end_select h = (omega arith, omega arith)
  cases_deep free i (said.case_else b) h = (omega arith, body_deep free (suc (suc i)) b h)
  cases_deep free i (said.case l ls b c) h =
      let body_at = after_others after_label (after_label (suc i) l) ls in
      let rest = cases_deep free (after_body body_at b) c h.3 in (
        max_least (max (label_deep (tree_label (suc i) l)) (labels_deep (tree_others after_label tree_label (after_label (suc i) l) ls))) (max (block_deep (tree_body body_at b)) (clauses_deep (tree_cases (after_body body_at b) c).clauses)) free
            (max_least (label_deep (tree_label (suc i) l)) (labels_deep (tree_others after_label tree_label (after_label (suc i) l) ls)) free (one_label_deep free (suc i) l h.0) (other_labels_deep free (after_label (suc i) l) ls h.1))
            (max_least (block_deep (tree_body body_at b)) (clauses_deep (tree_cases (after_body body_at b) c).clauses) free (body_deep free body_at b h.2) rest.0),
        rest.1,
      )

  pub body_deep : (free i : ℕ) (b : said.Body) → IsBody free b → block_deep (tree_body i b) ≤ free
  body_deep free i said.end h = omega arith
  body_deep free i (said.then s b) h = then_deep free (tree_statement i s) (tree_body (after_statement i s) b) (statement_deep free i s h.0) (body_deep free (after_statement i s) b h.1)
