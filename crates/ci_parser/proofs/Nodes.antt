-- Each node of a tree has a token of its own: what a rule spells is longer than what follows it by at least its nodes.
use Rattle.std.proofs.Common.{◌≡◌, ℕ, suc, ◌+◌, ◌≤◌, List, [], ◌∷◌, length, Option, Some, None, refl, ap, arith}
use Rattle.std.specs.Prelude.{Bool, false, sum_by}
use Rattle.std.proofs.lemmas.List.Sums.{sum_by-cons, sum_by-append}
use Rattle.ci_tree.specs.declared.token.TokenKind.TheVariants.{Keyword, Sign}
use Rattle.ci_tree.specs.declared.token.Keyword.TheVariants as words
use Rattle.ci_tree.specs.declared.token.Sign.TheVariants as mark
use Rattle.ci_tree.specs.declared.tree.TypeAt.{TypeAt}
use Rattle.ci_tree.specs.Tree as to
use Rattle.ci_tree.specs.Nodes.{expr_nodes, links_nodes, exprs_nodes, local_nodes, label_nodes, stmt_nodes, other_nodes, clauses_nodes, block_nodes, item_nodes, nodes}
use Rattle.ci_tree.specs.Grammar as said
use Rattle.ci_tree.specs.Grammar.{Tokens, derives, chained, begun_at, Level, single, group, Rest, no_rest, joined, formed, Unary, minus, not, number, text, parens, name, called, element, Args, no_args, args, MoreArgs, no_more_args, comma_arg, spell_level, spell_rest, spell_unary, spell_args, spell_more_args, after_level, tree_level, tree_rest, tree_unary, tree_args, tree_more_args, Label, spell_label, tree_label, after_label, Local, spell_local, tree_local, after_local, plain_local, valued_local, one, range, compared, spell_others, tree_others}
use Rattle.ci_parser.specs.OfGrammar.{TokenForEachNode}
use Rattle.ci_expressions.proofs.Longer.{longer_first}

-- Expressions

nodes_begun : (start : ℕ) (e : to.Expr) → expr_nodes (begun_at start e) ≡ expr_nodes e
nodes_begun start (to.expr inner at what) = refl

mutual
  pub nodes_level : (i : ℕ) (e : Level) (k : Tokens) → expr_nodes (tree_level i e) + length k ≤ length (spell_level e k)
  nodes_level i (single u) k = nodes_unary i u k
  nodes_level i (group first rest) k = omega (arith, nodes_level i first (spell_rest rest k), nodes_chained i (tree_level i first) (after_level i first) rest k)

  -- a chain's own token is that of its first link
  nodes_chained : (start : ℕ) (first : to.Expr) (i : ℕ) (r : Rest) (k : Tokens) → expr_nodes (chained start first i (tree_rest i r)) + length k ≤ expr_nodes first + length (spell_rest r k)
  nodes_chained start first i no_rest k = omega arith
  nodes_chained start first i (joined op right rest) k = omega (arith, nodes_level (suc i) right (spell_rest rest k), nodes_rest (after_level (suc i) right) rest k)
  nodes_chained start first i (formed count rest) k = omega (arith, nodes_rest (suc (suc i)) rest k)

  nodes_rest : (i : ℕ) (r : Rest) (k : Tokens) → links_nodes (tree_rest i r) + length k ≤ length (spell_rest r k)
  nodes_rest i no_rest k = omega arith
  nodes_rest i (joined op right rest) k = omega (arith, nodes_level (suc i) right (spell_rest rest k), nodes_rest (after_level (suc i) right) rest k)
  nodes_rest i (formed count rest) k = omega (arith, nodes_rest (suc (suc i)) rest k)

  nodes_unary : (i : ℕ) (u : Unary) (k : Tokens) → expr_nodes (tree_unary i u) + length k ≤ length (spell_unary u k)
  nodes_unary i (minus u) k = omega (arith, nodes_unary (suc i) u k)
  nodes_unary i (not u) k = omega (arith, nodes_unary (suc i) u k)
  nodes_unary i (number v) k = omega arith
  nodes_unary i (text t) k = omega arith
  nodes_unary i (parens e) k = omega (arith, nodes_begun i (tree_level (suc i) e), nodes_level (suc i) e (Sign mark.RightParen ∷ k))
  nodes_unary i (name x) k = omega arith
  nodes_unary i (called x a) k = omega (arith, nodes_args (suc (suc i)) a (Sign mark.RightParen ∷ k))
  nodes_unary i (element x e) k = omega (arith, nodes_level (suc (suc i)) e (Sign mark.RightBracket ∷ k))

  pub nodes_args : (i : ℕ) (a : Args) (k : Tokens) → exprs_nodes (tree_args i a) + length k ≤ length (spell_args a k)
  nodes_args i no_args k = omega arith
  nodes_args i (args e rest) k = omega (arith, nodes_level i e (spell_more_args rest k), nodes_more_args (after_level i e) rest k)

  nodes_more_args : (i : ℕ) (a : MoreArgs) (k : Tokens) → exprs_nodes (tree_more_args i a) + length k ≤ length (spell_more_args a k)
  nodes_more_args i no_more_args k = omega arith
  nodes_more_args i (comma_arg e rest) k = omega (arith, nodes_level (suc i) e (spell_more_args rest k), nodes_more_args (after_level (suc i) e) rest k)

-- Locals and labels

nodes_local : (i : ℕ) (l : Local) (k : Tokens) → local_nodes (tree_local i l) + length k ≤ length (spell_local l k)
nodes_local i (plain_local x) k = omega arith
nodes_local i (valued_local x e) k = omega (arith, nodes_level (suc (suc i)) e k)

nodes_label : (i : ℕ) (l : Label) (k : Tokens) → label_nodes (tree_label i l) + length k ≤ length (spell_label l k)
nodes_label i (one e) k = nodes_level i e k
nodes_label i (range a b) k = omega (arith, nodes_level i a (Keyword words.To ∷ spell_level b k), nodes_level (suc (after_level i a)) b k)
nodes_label i (compared r e) k = omega (arith, nodes_level (suc (suc i)) e k)

-- members that each have their tokens
nodes_others : {M T : Type 0} (spell : M → Tokens → Tokens) (after : ℕ → M → ℕ) (tree : ℕ → M → T) (count : T → ℕ)
    → ((i : ℕ) (m : M) (k : Tokens) → count (tree i m) + length k ≤ length (spell m k))
    → (i : ℕ) (ms : List M) (k : Tokens) → sum_by count (tree_others after tree i ms) + length k ≤ length (spell_others spell ms k)
nodes_others spell after tree count each i [] k = omega arith
nodes_others spell after tree count each i (m ∷ ms) k =
    omega (arith, sum_by-cons count (tree (suc i) m) (tree_others after tree (after (suc i) m) ms), each (suc i) m (spell_others spell ms k), nodes_others spell after tree count each (after (suc i) m) ms k)

nodes_locals : (i : ℕ) (l : Local) (ls : List Local) (k : Tokens) → sum_by local_nodes (tree_local i l ∷ tree_others after_local tree_local (after_local i l) ls) + length k ≤ length (spell_local l (spell_others spell_local ls k))
nodes_locals i l ls k =
    omega (arith, sum_by-cons local_nodes (tree_local i l) (tree_others after_local tree_local (after_local i l) ls), nodes_local i l (spell_others spell_local ls k), nodes_others spell_local after_local tree_local local_nodes nodes_local (after_local i l) ls k)

nodes_labels : (i : ℕ) (l : Label) (ls : List Label) (k : Tokens) → sum_by label_nodes (tree_label i l ∷ tree_others after_label tree_label (after_label i l) ls) + length k ≤ length (spell_label l (spell_others spell_label ls k))
nodes_labels i l ls k =
    omega (arith, sum_by-cons label_nodes (tree_label i l) (tree_others after_label tree_label (after_label i l) ls), nodes_label i l (spell_others spell_label ls k), nodes_others spell_label after_label tree_label label_nodes nodes_label (after_label i l) ls k)

-- Statements

-- a `;` that stands alone has no node
abbrev maybe_nodes : Option to.Stmt → ℕ
maybe_nodes None = 0
maybe_nodes (Some s) = stmt_nodes s

nodes_then : (s : Option to.Stmt) (b : to.Block) → block_nodes (said.stmt_then s b) ≡ maybe_nodes s + block_nodes b
nodes_then None b = omega arith
nodes_then (Some s) b = refl

mutual
  nodes_statement : (i : ℕ) (s : said.Statement) (k : Tokens) → maybe_nodes (said.tree_statement i s) + length k ≤ length (said.spell_statement s k)
  nodes_statement i said.empty k = omega arith
  nodes_statement i (said.declared t l ls) k = omega (arith, nodes_locals (suc i) l ls (Sign mark.Semicolon ∷ k))
  nodes_statement i (said.call_of x a) k = omega (arith, nodes_args (suc (suc i)) a (Sign mark.RightParen ∷ Sign mark.Semicolon ∷ k))
  nodes_statement i (said.assigned x e) k = omega (arith, nodes_level (suc (suc i)) e (Sign mark.Semicolon ∷ k))
  nodes_statement i (said.element_assigned x j e) k =
      let closes = after_level (suc (suc i)) j in
      omega (arith, nodes_level (suc (suc i)) j (Sign mark.RightBracket ∷ Sign mark.Equal ∷ spell_level e (Sign mark.Semicolon ∷ k)), nodes_level (suc (suc closes)) e (Sign mark.Semicolon ∷ k))
  nodes_statement i (said.choice e b o) k =
      let then_at = after_level (suc i) e in
      omega (arith, nodes_level (suc i) e (Keyword words.Then ∷ said.spell_body b (said.spell_else o (Keyword words.End ∷ k))), nodes_body (suc then_at) b (said.spell_else o (Keyword words.End ∷ k)), nodes_else (said.after_body (suc then_at) b) o (Keyword words.End ∷ k))
  nodes_statement i (said.loop e b) k =
      omega (arith, nodes_level (suc i) e (Keyword words.Do ∷ said.spell_body b (Keyword words.End ∷ k)), nodes_body (suc (after_level (suc i) e)) b (Keyword words.End ∷ k))
  nodes_statement i (said.count x e f b) k =
      let to_at = after_level (suc (suc (suc i))) e in
      let do_at = after_level (suc to_at) f in
      omega (arith, nodes_level (suc (suc (suc i))) e (Keyword words.To ∷ spell_level f (Keyword words.Do ∷ said.spell_body b (Keyword words.End ∷ k))), nodes_level (suc to_at) f (Keyword words.Do ∷ said.spell_body b (Keyword words.End ∷ k)), nodes_body (suc do_at) b (Keyword words.End ∷ k))
  nodes_statement i (said.selection e c) k = omega (arith, nodes_level (suc (suc i)) e (said.spell_cases c k), nodes_cases (after_level (suc (suc i)) e) c k)
  nodes_statement i said.return_none k = omega arith
  nodes_statement i (said.return_value e) k = omega (arith, nodes_level (suc i) e (Sign mark.Semicolon ∷ k))

  nodes_else : (i : ℕ) (o : said.Else) (k : Tokens) → other_nodes (said.tree_else i o) + length k ≤ length (said.spell_else o k)
  nodes_else i said.no_else k = omega arith
  nodes_else i (said.else b) k = omega (arith, nodes_body (suc i) b k)

  nodes_cases : (i : ℕ) (c : said.Cases) (k : Tokens) → clauses_nodes (said.tree_cases i c).clauses + other_nodes (said.tree_cases i c).other + length k ≤ length (said.spell_cases c k)
  nodes_cases i said.end_select k = omega arith
  nodes_cases i (said.case_else b) k = omega (arith, nodes_body (suc (suc i)) b (Keyword words.End ∷ Keyword words.Select ∷ k))
  nodes_cases i (said.case l ls b c) k =
      let body_at = said.after_others after_label (after_label (suc i) l) ls in
      omega (arith, nodes_labels (suc i) l ls (said.spell_body b (said.spell_cases c k)), nodes_body body_at b (said.spell_cases c k), nodes_cases (said.after_body body_at b) c k)

  nodes_body : (i : ℕ) (b : said.Body) (k : Tokens) → block_nodes (said.tree_body i b) + length k ≤ length (said.spell_body b k)
  nodes_body i said.end k = omega arith
  nodes_body i (said.then s b) k =
      omega (arith, nodes_then (said.tree_statement i s) (said.tree_body (said.after_statement i s) b), nodes_statement i s (said.spell_body b k), nodes_body (said.after_statement i s) b k)

-- Functions and files

nodes_var : (global : Bool) (kind : TypeAt) (i : ℕ) (v : said.Var) (k : Tokens) → item_nodes (said.tree_var global kind i v) + length k ≤ length (said.spell_var v k)
nodes_var global kind i (said.plain_var x) k = omega arith
nodes_var global kind i (said.array_var x n) k = omega arith
nodes_var global kind i (said.valued_var x v) k = omega (arith, longer_first v k)

nodes_vars : (global : Bool) (kind : TypeAt) (i : ℕ) (v : said.Var) (vs : List said.Var) (k : Tokens)
    → sum_by item_nodes (said.tree_var global kind i v ∷ tree_others said.after_var (said.tree_var global kind) (said.after_var i v) vs) + length k ≤ length (said.spell_var v (spell_others said.spell_var vs k))
nodes_vars global kind i v vs k =
    omega (arith, sum_by-cons item_nodes (said.tree_var global kind i v) (tree_others said.after_var (said.tree_var global kind) (said.after_var i v) vs), nodes_var global kind i v (spell_others said.spell_var vs k), nodes_others said.spell_var said.after_var (said.tree_var global kind) item_nodes (nodes_var global kind) (said.after_var i v) vs k)

nodes_parameter : (p : said.Parameter) (k : Tokens) → suc (length k) ≤ length (said.spell_parameter p k)
nodes_parameter (said.plain_parameter t x) k = omega arith
nodes_parameter (said.valued_parameter t x v) k = omega (arith, longer_first v k)

nodes_more_parameters : (i : ℕ) (ps : List said.Parameter) (k : Tokens) → length (tree_others said.after_parameter said.tree_parameter i ps) + length k ≤ length (spell_others said.spell_parameter ps k)
nodes_more_parameters i [] k = omega arith
nodes_more_parameters i (p ∷ ps) k = omega (arith, nodes_parameter p (spell_others said.spell_parameter ps k), nodes_more_parameters (said.after_parameter (suc i) p) ps k)

nodes_parameters : (i : ℕ) (ps : said.Parameters) (k : Tokens) → length (said.tree_parameters i ps) + length k ≤ length (said.spell_parameters ps k)
nodes_parameters i said.no_parameters k = omega arith
nodes_parameters i (said.parameters p ps) k = omega (arith, nodes_parameter p (spell_others said.spell_parameter ps k), nodes_more_parameters (said.after_parameter i p) ps k)

nodes_function : (private : Bool) (gives : Option TypeAt) (i : ℕ) (f : said.Function) (k : Tokens) → item_nodes (said.tree_function private gives i f) + length k ≤ length (said.spell_function f k)
nodes_function private gives i (said.function x ps b) k =
    let closes = said.after_parameters (suc (suc (suc i))) ps in
    omega (arith, nodes_parameters (suc (suc (suc i))) ps (Sign mark.RightParen ∷ said.spell_body b (Keyword words.End ∷ k)), nodes_body (suc closes) b (Keyword words.End ∷ k))

-- a file of one function
nodes_one : (private : Bool) (gives : Option TypeAt) (i : ℕ) (f : said.Function) (k : Tokens) → nodes (said.tree_function private gives i f ∷ []) + length k ≤ length (said.spell_function f k)
nodes_one private gives i f k = omega (arith, sum_by-cons item_nodes (said.tree_function private gives i f) [], nodes_function private gives i f k)

nodes_definition : (i : ℕ) (d : said.Definition) (k : Tokens) → nodes (said.tree_definition i d) + length k ≤ length (said.spell_definition d k)
nodes_definition i said.blank k = omega arith
nodes_definition i (said.plain_function f) k = nodes_one false None i f k
nodes_definition i (said.typed_function t f) k = omega (arith, nodes_one false (Some (record { at = i; name = t })) (suc i) f k)
nodes_definition i (said.seen_function p f) k = omega (arith, nodes_one p None (suc i) f k)
nodes_definition i (said.seen_typed_function p t f) k = omega (arith, nodes_one p (Some (record { at = suc i; name = t })) (suc (suc i)) f k)
nodes_definition i (said.variables t v vs) k = omega (arith, nodes_vars false (record { at = i; name = t }) (suc i) v vs (Sign mark.Semicolon ∷ k))
nodes_definition i (said.scoped_variables g t v vs) k = omega (arith, nodes_vars g (record { at = suc i; name = t }) (suc (suc i)) v vs (Sign mark.Semicolon ∷ k))

nodes_file : (i : ℕ) (ds : List said.Definition) → nodes (said.tree_file i ds) ≤ length (said.spell_file ds)
nodes_file i [] = omega arith
nodes_file i (d ∷ ds) =
    omega (arith, sum_by-append item_nodes (said.tree_definition i d) (said.tree_file (said.after_definition i d) ds), nodes_definition i d (said.spell_file ds), nodes_file (said.after_definition i d) ds)

pub token_for_each_node : TokenForEachNode
token_for_each_node tokens tree d = omega (arith, ap nodes d.means, ap length d.spelled, nodes_file 0 d.file)
