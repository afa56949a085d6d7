-- How many operands a derived tree can need at once, where no call has more than 16 arguments.
use Rattle.std.specs.Prelude.{◌≡◌, refl, ℕ, zero, suc, ◌+◌, ◌≤◌, max, List, [], ◌∷◌, Option, Some, None}
use Rattle.std.proofs.Common.{sym, subst}
use native.Mathlib.Omega.{arith}
use Rattle.ci_base.specs.declared.bounds.TheConstants.{MOST_PARAMETERS}
use Rattle.ci_tree.specs.Tree as tree
use Rattle.ci_tree.specs.Tree.{Expr, What, Links, Exprs, Label, Stmt, Other, Clauses, Block}
use Rattle.ci_tree.specs.Grammar as said
use Rattle.ci_tree.specs.Grammar.{IsLevel, IsRest, IsUnary, IsArgs, IsMoreArgs, IsLocal, IsLabel, AreAll, IsStatement, IsElse, IsCases, IsBody, Opens, after_level, after_rest, after_args, after_more_args, after_local, after_label, after_others, after_statement, after_else, after_body, begun_at, chained, tree_level, tree_rest, tree_unary, tree_args, tree_more_args, tree_local, tree_label, tree_others, tree_statement, tree_else, tree_cases, tree_body, stmt_then}
use Rattle.ci_names.proofs.Maxima.{max_least}

abbrev mutual
  pub tall : Expr → ℕ
  tall (tree.expr start at what) = what_tall what

  pub what_tall : What → ℕ
  what_tall (tree.number value) = 1
  what_tall (tree.literal text) = 1
  what_tall (tree.name name) = 1
  what_tall (tree.element name index) = tall index
  what_tall (tree.call name args) = MOST_PARAMETERS + args_tall args
  what_tall (tree.unary minus operand) = tall operand
  what_tall (tree.chain first rest) = max (tall first) (links_tall rest)

  pub links_tall : Links → ℕ
  links_tall tree.no_link = 0
  links_tall (tree.operand at op right rest) = max (1 + tall right) (links_tall rest)
  links_tall (tree.hashes at count rest) = links_tall rest

  pub args_tall : Exprs → ℕ
  args_tall tree.no_expr = 1
  args_tall (tree.more first rest) = max (tall first) (args_tall rest)

-- the most that an operand needs with so many levels free
abbrev pub most : ℕ → ℕ
most zero = 1
most (suc free) = 24 + most free

most_least : (free : ℕ) → 1 ≤ most free
most_least zero = omega arith
most_least (suc free) = let h = most_least free in omega arith

begun_tall : (start : ℕ) (e : Expr) → tall (begun_at start e) ≡ tall e
begun_tall start (tree.expr inner at what) = refl

chained_tall : (start : ℕ) (first : Expr) (at : ℕ) (links : Links) (l : ℕ) → tall first ≤ l → links_tall links ≤ l → tall (chained start first at links) ≤ l
chained_tall start first at tree.no_link l h i = h
chained_tall start first at (tree.operand j op right rest) l h i = max_least (tall first) (links_tall (tree.operand j op right rest)) l h i
chained_tall start first at (tree.hashes j count rest) l h i = max_least (tall first) (links_tall (tree.hashes j count rest)) l h i

mutual
  level_tall : (n free i : ℕ) (e : said.Level) → IsLevel n free e → tall (tree_level i e) ≤ n + most free
  level_tall zero free i (said.single u) h = let t = unary_tall free i u h in omega arith
  level_tall zero free i (said.group first rest) h = absurd h
  level_tall (suc n) free i (said.single u) h = absurd h
  level_tall (suc n) free i (said.group first rest) h =
      chained_tall i (tree_level i first) (after_level i first) (tree_rest (after_level i first) rest) (suc n + most free)
      (let t = level_tall n free i first h.0 in omega arith)
      (rest_tall n free (after_level i first) rest h.1)

  rest_tall : (n free i : ℕ) (rest : said.Rest) → IsRest n free rest → links_tall (tree_rest i rest) ≤ suc n + most free
  rest_tall n free i said.no_rest h = omega arith
  rest_tall n free i (said.joined op right rest) h =
      max_least (1 + tall (tree_level (suc i) right)) (links_tall (tree_rest (after_level (suc i) right) rest)) (suc n + most free)
      (let t = level_tall n free (suc i) right h.1 in omega arith)
      (rest_tall n free (after_level (suc i) right) rest h.2)
  rest_tall n free i (said.formed count rest) h = rest_tall n free (suc (suc i)) rest h.1

  unary_tall : (free i : ℕ) (u : said.Unary) → IsUnary free u → tall (tree_unary i u) ≤ most free
  unary_tall zero i (said.minus u) h = absurd h
  unary_tall (suc free) i (said.minus u) h = let t = unary_tall free (suc i) u h in omega arith
  unary_tall zero i (said.not u) h = absurd h
  unary_tall (suc free) i (said.not u) h = let t = unary_tall free (suc i) u h in omega arith
  unary_tall free i (said.number v) h = most_least free
  unary_tall free i (said.text t) h = most_least free
  unary_tall zero i (said.parens e) h = absurd h
  unary_tall (suc free) i (said.parens e) h = subst (λ k. k ≤ 24 + most free) (sym (begun_tall i (tree_level (suc i) e))) (let t = level_tall 8 free (suc i) e h in omega arith)
  unary_tall free i (said.name x) h = most_least free
  unary_tall zero i (said.called x a) h = absurd h
  unary_tall (suc free) i (said.called x a) h = let t = args_small free (suc (suc i)) a h in omega arith
  unary_tall zero i (said.element x e) h = absurd h
  unary_tall (suc free) i (said.element x e) h = let t = level_tall 8 free (suc (suc i)) e h in omega arith

  args_small : (free i : ℕ) (a : said.Args) → IsArgs free a → args_tall (tree_args i a) ≤ 8 + most free
  args_small free i said.no_args h = omega arith
  args_small free i (said.args e rest) h = max_least (tall (tree_level i e)) (args_tall (tree_more_args (after_level i e) rest)) (8 + most free) (level_tall 8 free i e h.0) (more_small free (after_level i e) rest h.1)

  more_small : (free i : ℕ) (a : said.MoreArgs) → IsMoreArgs free a → args_tall (tree_more_args i a) ≤ 8 + most free
  more_small free i said.no_more_args h = omega arith
  more_small free i (said.comma_arg e rest) h =
      max_least (tall (tree_level (suc i) e)) (args_tall (tree_more_args (after_level (suc i) e) rest)) (8 + most free) (level_tall 8 free (suc i) e h.0) (more_small free (after_level (suc i) e) rest h.1)

-- Statements

abbrev pub maybe_tall : Option Expr → ℕ
maybe_tall None = 1
maybe_tall (Some e) = tall e

abbrev pub locals_tall : List tree.Local → ℕ
locals_tall [] = 0
locals_tall (l ∷ ls) = max (maybe_tall l.value) (locals_tall ls)

abbrev pub label_tall : Label → ℕ
label_tall (tree.one value) = 3 + tall value
label_tall (tree.range low high) = max (3 + tall low) (3 + tall high)
label_tall (tree.compared at relation value) = 3 + tall value

abbrev pub labels_tall : List Label → ℕ
labels_tall [] = 0
labels_tall (label ∷ labels) = max (label_tall label) (labels_tall labels)

abbrev mutual
  pub stmt_tall : Stmt → ℕ
  stmt_tall (tree.declare at kind locals) = locals_tall locals
  stmt_tall (tree.assign at name index equals value) = max (maybe_tall index) (1 + tall value)
  stmt_tall (tree.call_of at name args) = MOST_PARAMETERS + args_tall args
  stmt_tall (tree.choose at test body last) = max (tall test) (max (block_tall body) (other_tall last))
  stmt_tall (tree.while at test body) = max (tall test) (block_tall body)
  stmt_tall (tree.for at name_at name first last body) = max (tall first) (max (1 + tall last) (max 4 (1 + block_tall body)))
  stmt_tall (tree.select at subject clauses last) = max (tall subject) (max (clauses_tall clauses) (other_tall last))
  stmt_tall (tree.return at value) = maybe_tall value

  pub other_tall : Other → ℕ
  other_tall tree.no_other = 0
  other_tall (tree.other body) = block_tall body

  pub clauses_tall : Clauses → ℕ
  clauses_tall tree.no_clause = 0
  clauses_tall (tree.clause at labels body rest) = max (labels_tall labels) (max (block_tall body) (clauses_tall rest))

  pub block_tall : Block → ℕ
  block_tall tree.done = 0
  block_tall (tree.then first rest) = max (stmt_tall first) (block_tall rest)

expr_tall : (free i : ℕ) (e : said.Level) → IsLevel 8 free e → tall (tree_level i e) ≤ 8 + most free
expr_tall free i e h = level_tall 8 free i e h

local_tall : (free i : ℕ) (l : said.Local) → IsLocal free l → maybe_tall (tree_local i l).value ≤ 8 + most free
local_tall free i (said.plain_local x) h = let t = most_least free in omega arith
local_tall free i (said.valued_local x e) h = expr_tall free (suc (suc i)) e h

locals_small : (free i : ℕ) (ls : List said.Local) → AreAll (IsLocal free) ls → locals_tall (tree_others after_local tree_local i ls) ≤ 8 + most free
locals_small free i [] h = omega arith
locals_small free i (l ∷ ls) h =
    max_least (maybe_tall (tree_local (suc i) l).value) (locals_tall (tree_others after_local tree_local (after_local (suc i) l) ls)) (8 + most free) (local_tall free (suc i) l h.0) (locals_small free (after_local (suc i) l) ls h.1)

label_small : (free i : ℕ) (l : said.Label) → IsLabel free l → label_tall (tree_label i l) ≤ 12 + most free
label_small free i (said.one e) h = let t = expr_tall free i e h in omega arith
label_small free i (said.range a b) h =
    max_least (3 + tall (tree_level i a)) (3 + tall (tree_level (suc (after_level i a)) b)) (12 + most free)
    (let t = expr_tall free i a h.0 in omega arith) (let t = expr_tall free (suc (after_level i a)) b h.1 in omega arith)
label_small free i (said.compared r e) h = let t = expr_tall free (suc (suc i)) e h in omega arith

labels_small : (free i : ℕ) (ls : List said.Label) → AreAll (IsLabel free) ls → labels_tall (tree_others after_label tree_label i ls) ≤ 12 + most free
labels_small free i [] h = omega arith
labels_small free i (l ∷ ls) h =
    max_least (label_tall (tree_label (suc i) l)) (labels_tall (tree_others after_label tree_label (after_label (suc i) l) ls)) (12 + most free) (label_small free (suc i) l h.0) (labels_small free (after_label (suc i) l) ls h.1)

-- what a statement leaves, if anything
abbrev Leaves : ℕ → Option Stmt → Type 0
Leaves l None = Unit {0}
Leaves l (Some s) = stmt_tall s ≤ l

then_small : (l : ℕ) (o : Option Stmt) (b : Block) → Leaves l o → block_tall b ≤ l → block_tall (stmt_then o b) ≤ l
then_small l None b h i = i
then_small l (Some s) b h i = max_least (stmt_tall s) (block_tall b) l h i

mutual
  statement_small : (free i : ℕ) (s : said.Statement) → IsStatement free s → Leaves (12 + most free) (tree_statement i s)
  statement_small free i said.empty h = tt
  statement_small free i (said.declared t l ls) h =
      max_least (maybe_tall (tree_local (suc i) l).value) (locals_tall (tree_others after_local tree_local (after_local (suc i) l) ls)) (12 + most free)
      (let t = local_tall free (suc i) l h.0 in omega arith) (let t = locals_small free (after_local (suc i) l) ls h.1 in omega arith)
  statement_small zero i (said.call_of x a) h = absurd h
  statement_small (suc free) i (said.call_of x a) h = let t = args_small free (suc (suc i)) a h in omega arith
  statement_small free i (said.assigned x e) h = let t = expr_tall free (suc (suc i)) e h in max_least 1 (1 + tall (tree_level (suc (suc i)) e)) (12 + most free) (omega arith) (omega arith)
  statement_small zero i (said.element_assigned x j e) h = absurd h.0
  statement_small (suc free) i (said.element_assigned x j e) h =
      let closes = after_level (suc (suc i)) j in
      let t : tall (tree_level (suc (suc i)) j) ≤ 8 + most free = expr_tall free (suc (suc i)) j h.0 in
      let u : tall (tree_level (suc (suc closes)) e) ≤ 8 + most (suc free) = expr_tall (suc free) (suc (suc closes)) e h.1 in
      max_least (tall (tree_level (suc (suc i)) j)) (1 + tall (tree_level (suc (suc closes)) e)) (12 + most (suc free)) (omega arith) (omega arith)
  statement_small zero i (said.choice e b o) h = absurd h
  statement_small (suc free) i (said.choice e b o) h =
      let then_at = after_level (suc i) e in
      let t = expr_tall free (suc i) e h.0 in
      let u = body_small free (suc then_at) b h.1 in
      let v = else_small free (after_body (suc then_at) b) o h.2 in
      max_least (tall (tree_level (suc i) e)) (max (block_tall (tree_body (suc then_at) b)) (other_tall (tree_else (after_body (suc then_at) b) o))) (12 + most (suc free)) (omega arith)
      (max_least (block_tall (tree_body (suc then_at) b)) (other_tall (tree_else (after_body (suc then_at) b) o)) (12 + most (suc free)) (omega arith) (omega arith))
  statement_small zero i (said.loop e b) h = absurd h
  statement_small (suc free) i (said.loop e b) h =
      let t = expr_tall free (suc i) e h.0 in
      let u = body_small free (suc (after_level (suc i) e)) b h.1 in
      max_least (tall (tree_level (suc i) e)) (block_tall (tree_body (suc (after_level (suc i) e)) b)) (12 + most (suc free)) (omega arith) (omega arith)
  statement_small zero i (said.count x e f b) h = absurd h
  statement_small (suc free) i (said.count x e f b) h =
      let to_at = after_level (suc (suc (suc i))) e in
      let do_at = after_level (suc to_at) f in
      let t = expr_tall free (suc (suc (suc i))) e h.0 in
      let u = expr_tall free (suc to_at) f h.1 in
      let v = body_small free (suc do_at) b h.2 in
      let w = most_least free in
      max_least (tall (tree_level (suc (suc (suc i))) e)) (max (1 + tall (tree_level (suc to_at) f)) (max 4 (1 + block_tall (tree_body (suc do_at) b)))) (12 + most (suc free)) (omega arith)
      (max_least (1 + tall (tree_level (suc to_at) f)) (max 4 (1 + block_tall (tree_body (suc do_at) b))) (12 + most (suc free)) (omega arith)
      (max_least 4 (1 + block_tall (tree_body (suc do_at) b)) (12 + most (suc free)) (omega arith) (omega arith)))
  statement_small zero i (said.selection e c) h = absurd h
  statement_small (suc free) i (said.selection e c) h =
      let at = after_level (suc (suc i)) e in
      let t = expr_tall free (suc (suc i)) e h.0 in
      let u = cases_small free at c h.1 in
      let v = u.0 in
      let w = u.1 in
      max_least (tall (tree_level (suc (suc i)) e)) (max (clauses_tall (tree_cases at c).clauses) (other_tall (tree_cases at c).other)) (12 + most (suc free)) (omega arith)
      (max_least (clauses_tall (tree_cases at c).clauses) (other_tall (tree_cases at c).other) (12 + most (suc free)) (omega arith) (omega arith))
  statement_small free i said.return_none h = let t = most_least free in omega arith
  statement_small free i (said.return_value e) h = let t = expr_tall free (suc i) e h in omega arith

  else_small : (free i : ℕ) (o : said.Else) → IsElse free o → other_tall (tree_else i o) ≤ 12 + most free
  else_small free i said.no_else h = omega arith
  else_small free i (said.else b) h = body_small free (suc i) b h

  cases_small : (free i : ℕ) (c : said.Cases) → IsCases free c → (clauses_tall (tree_cases i c).clauses ≤ 12 + most free) × (other_tall (tree_cases i c).other ≤ 12 + most free)
  cases_small free i said.end_select h = (omega arith, omega arith)
  cases_small free i (said.case_else b) h = (omega arith, body_small free (suc (suc i)) b h)
  cases_small free i (said.case l ls b c) h =
      let body_at = after_others after_label (after_label (suc i) l) ls in
      let rest = cases_small free (after_body body_at b) c h.3 in (
        max_least (max (label_tall (tree_label (suc i) l)) (labels_tall (tree_others after_label tree_label (after_label (suc i) l) ls))) (max (block_tall (tree_body body_at b)) (clauses_tall (tree_cases (after_body body_at b) c).clauses)) (12 + most free)
            (max_least (label_tall (tree_label (suc i) l)) (labels_tall (tree_others after_label tree_label (after_label (suc i) l) ls)) (12 + most free) (label_small free (suc i) l h.0) (labels_small free (after_label (suc i) l) ls h.1))
            (max_least (block_tall (tree_body body_at b)) (clauses_tall (tree_cases (after_body body_at b) c).clauses) (12 + most free) (body_small free body_at b h.2) rest.0),
        rest.1,
      )

  pub body_small : (free i : ℕ) (b : said.Body) → IsBody free b → block_tall (tree_body i b) ≤ 12 + most free
  body_small free i said.end h = omega arith
  body_small free i (said.then s b) h = then_small (12 + most free) (tree_statement i s) (tree_body (after_statement i s) b) (statement_small free i s h.0) (body_small free (after_statement i s) b h.1)
