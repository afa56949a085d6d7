-- Each index in a tree is that of one of its tokens.
use Rattle.std.specs.Prelude.{◌≡◌, refl, ℕ, suc, ◌+◌, ◌<◌, ◌≤◌, Bool, false, List, [], ◌∷◌, length, Option, Some, None, All}
use Rattle.std.proofs.Common.{subst, sym, ap}
use Rattle.std.proofs.lemmas.List.Elements.{All-nil, All-cons, All-append}
use native.Mathlib.Omega.{arith}
use Rattle.ci_tree.specs.declared.token.TokenKind.TheVariants.{Keyword, Sign}
use Rattle.ci_tree.specs.declared.token.Keyword.TheVariants as words
use Rattle.ci_tree.specs.declared.token.Sign.TheVariants as mark
use Rattle.ci_tree.specs.declared.tree.TypeAt.{TypeAt}
use Rattle.ci_tree.specs.declared.tree.Length.{Length}
use Rattle.ci_tree.specs.declared.tree.Const.{Const}
use Rattle.ci_tree.specs.declared.tree.Const.TheVariants as const
use Rattle.ci_tree.specs.declared.tree.Param.{Param}
use Rattle.ci_tree.specs.Tree as to
use Rattle.ci_tree.specs.Tree.{Expr, What, Links, Exprs, Stmt, Other, Clauses, Block, Item}
use Rattle.ci_tree.specs.Grammar as said
use Rattle.ci_tree.specs.Grammar.{Tokens, derives, Level, single, group, Rest, no_rest, joined, formed, Unary, minus, not, number, text, parens, name, called, element, Args, no_args, args, MoreArgs, no_more_args, comma_arg, Label, Local, plain_local, valued_local, one, range, compared, spell_level, spell_rest, spell_unary, spell_args, spell_more_args, spell_label, spell_local, spell_others, after_level, after_rest, after_unary, after_args, after_more_args, after_local, after_label, after_others, begun_at, tree_level, tree_rest, tree_unary, tree_args, tree_more_args, tree_local, tree_label, tree_others, stmt_then}

-- The index behind a part is past its own

mutual
  forward_level : (i : ℕ) (e : Level) → i < after_level i e
  forward_level i (single u) = forward_unary i u
  forward_level i (group first rest) = omega (arith, forward_level i first, forward_rest (after_level i first) rest)

  forward_rest : (i : ℕ) (r : Rest) → i ≤ after_rest i r
  forward_rest i no_rest = omega arith
  forward_rest i (joined op right rest) = omega (arith, forward_level (suc i) right, forward_rest (after_level (suc i) right) rest)
  forward_rest i (formed count rest) = omega (arith, forward_rest (suc (suc i)) rest)

  forward_unary : (i : ℕ) (u : Unary) → i < after_unary i u
  forward_unary i (minus u) = omega (arith, forward_unary (suc i) u)
  forward_unary i (not u) = omega (arith, forward_unary (suc i) u)
  forward_unary i (number v) = omega arith
  forward_unary i (text t) = omega arith
  forward_unary i (parens e) = omega (arith, forward_level (suc i) e)
  forward_unary i (name x) = omega arith
  forward_unary i (called x a) = omega (arith, forward_args (suc (suc i)) a)
  forward_unary i (element x e) = omega (arith, forward_level (suc (suc i)) e)

  forward_args : (i : ℕ) (a : Args) → i ≤ after_args i a
  forward_args i no_args = omega arith
  forward_args i (args e rest) = omega (arith, forward_level i e, forward_more_args (after_level i e) rest)

  forward_more_args : (i : ℕ) (a : MoreArgs) → i ≤ after_more_args i a
  forward_more_args i no_more_args = omega arith
  forward_more_args i (comma_arg e rest) = omega (arith, forward_level (suc i) e, forward_more_args (after_level (suc i) e) rest)

forward_local : (i : ℕ) (l : Local) → i < after_local i l
forward_local i (plain_local x) = omega arith
forward_local i (valued_local x e) = omega (arith, forward_level (suc (suc i)) e)

forward_label : (i : ℕ) (l : Label) → i < after_label i l
forward_label i (one e) = forward_level i e
forward_label i (range a b) = omega (arith, forward_level i a, forward_level (suc (after_level i a)) b)
forward_label i (compared r e) = omega (arith, forward_level (suc (suc i)) e)

forward_others : {M : Type 0} (after : ℕ → M → ℕ) → ((i : ℕ) (m : M) → i < after i m) → (i : ℕ) (ms : List M) → i ≤ after_others after i ms
forward_others after each i [] = omega arith
forward_others after each i (m ∷ ms) = omega (arith, each (suc i) m, forward_others after each (after (suc i) m) ms)

mutual
  forward_statement : (i : ℕ) (s : said.Statement) → i < said.after_statement i s
  forward_statement i said.empty = omega arith
  forward_statement i (said.declared t l ls) = omega (arith, forward_local (suc i) l, forward_others after_local forward_local (after_local (suc i) l) ls)
  forward_statement i (said.call_of x a) = omega (arith, forward_args (suc (suc i)) a)
  forward_statement i (said.assigned x e) = omega (arith, forward_level (suc (suc i)) e)
  forward_statement i (said.element_assigned x j e) = omega (arith, forward_level (suc (suc i)) j, forward_level (suc (suc (after_level (suc (suc i)) j))) e)
  forward_statement i (said.choice e b o) =
      let at = suc (after_level (suc i) e) in omega (arith, forward_level (suc i) e, forward_body at b, forward_else (said.after_body at b) o)
  forward_statement i (said.loop e b) = omega (arith, forward_level (suc i) e, forward_body (suc (after_level (suc i) e)) b)
  forward_statement i (said.count x e f b) =
      let to_at = after_level (suc (suc (suc i))) e in
      omega (arith, forward_level (suc (suc (suc i))) e, forward_level (suc to_at) f, forward_body (suc (after_level (suc to_at) f)) b)
  forward_statement i (said.selection e c) = omega (arith, forward_level (suc (suc i)) e, forward_cases (after_level (suc (suc i)) e) c)
  forward_statement i said.return_none = omega arith
  forward_statement i (said.return_value e) = omega (arith, forward_level (suc i) e)

  forward_else : (i : ℕ) (o : said.Else) → i ≤ said.after_else i o
  forward_else i said.no_else = omega arith
  forward_else i (said.else b) = omega (arith, forward_body (suc i) b)

  forward_cases : (i : ℕ) (c : said.Cases) → i < said.after_cases i c
  forward_cases i said.end_select = omega arith
  forward_cases i (said.case_else b) = omega (arith, forward_body (suc (suc i)) b)
  forward_cases i (said.case l ls b c) =
      let body_at = after_others after_label (after_label (suc i) l) ls in
      omega (arith, forward_label (suc i) l, forward_others after_label forward_label (after_label (suc i) l) ls, forward_body body_at b, forward_cases (said.after_body body_at b) c)

  forward_body : (i : ℕ) (b : said.Body) → i ≤ said.after_body i b
  forward_body i said.end = omega arith
  forward_body i (said.then s b) = omega (arith, forward_statement i s, forward_body (said.after_statement i s) b)

forward_first : (i : ℕ) (v : said.FirstValue) → i < said.after_first i v
forward_first i (said.positive v) = omega arith
forward_first i (said.negative v) = omega arith
forward_first i (said.literal t) = omega arith

forward_var : (i : ℕ) (v : said.Var) → i < said.after_var i v
forward_var i (said.plain_var x) = omega arith
forward_var i (said.array_var x n) = omega arith
forward_var i (said.valued_var x v) = omega (arith, forward_first (suc (suc i)) v)

forward_parameter : (i : ℕ) (p : said.Parameter) → suc i < said.after_parameter i p
forward_parameter i (said.plain_parameter t x) = omega arith
forward_parameter i (said.valued_parameter t x v) = omega (arith, forward_first (suc (suc (suc i))) v)

past_parameter : (i : ℕ) (p : said.Parameter) → i < said.after_parameter i p
past_parameter i p = omega (arith, forward_parameter i p)

forward_parameters : (i : ℕ) (ps : said.Parameters) → i ≤ said.after_parameters i ps
forward_parameters i said.no_parameters = omega arith
forward_parameters i (said.parameters p ps) = omega (arith, forward_parameter i p, forward_others said.after_parameter past_parameter (said.after_parameter i p) ps)

forward_function : (i : ℕ) (f : said.Function) → suc i < said.after_function i f
forward_function i (said.function x ps b) =
    let start = suc (suc (suc i)) in omega (arith, forward_parameters start ps, forward_body (suc (said.after_parameters start ps)) b)

-- The index behind a part is as far from its own as its tokens are long

mutual
  exact_level : (i : ℕ) (e : Level) (k : Tokens) → after_level i e + length k ≡ i + length (spell_level e k)
  exact_level i (single u) k = exact_unary i u k
  exact_level i (group first rest) k = omega (arith, exact_level i first (spell_rest rest k), exact_rest (after_level i first) rest k)

  exact_rest : (i : ℕ) (r : Rest) (k : Tokens) → after_rest i r + length k ≡ i + length (spell_rest r k)
  exact_rest i no_rest k = refl
  exact_rest i (joined op right rest) k = omega (arith, exact_level (suc i) right (spell_rest rest k), exact_rest (after_level (suc i) right) rest k)
  exact_rest i (formed count rest) k = omega (arith, exact_rest (suc (suc i)) rest k)

  exact_unary : (i : ℕ) (u : Unary) (k : Tokens) → after_unary i u + length k ≡ i + length (spell_unary u k)
  exact_unary i (minus u) k = omega (arith, exact_unary (suc i) u k)
  exact_unary i (not u) k = omega (arith, exact_unary (suc i) u k)
  exact_unary i (number v) k = omega arith
  exact_unary i (text t) k = omega arith
  exact_unary i (parens e) k = omega (arith, exact_level (suc i) e (Sign mark.RightParen ∷ k))
  exact_unary i (name x) k = omega arith
  exact_unary i (called x a) k = omega (arith, exact_args (suc (suc i)) a (Sign mark.RightParen ∷ k))
  exact_unary i (element x e) k = omega (arith, exact_level (suc (suc i)) e (Sign mark.RightBracket ∷ k))

  exact_args : (i : ℕ) (a : Args) (k : Tokens) → after_args i a + length k ≡ i + length (spell_args a k)
  exact_args i no_args k = refl
  exact_args i (args e rest) k = omega (arith, exact_level i e (spell_more_args rest k), exact_more_args (after_level i e) rest k)

  exact_more_args : (i : ℕ) (a : MoreArgs) (k : Tokens) → after_more_args i a + length k ≡ i + length (spell_more_args a k)
  exact_more_args i no_more_args k = refl
  exact_more_args i (comma_arg e rest) k = omega (arith, exact_level (suc i) e (spell_more_args rest k), exact_more_args (after_level (suc i) e) rest k)

exact_local : (i : ℕ) (l : Local) (k : Tokens) → after_local i l + length k ≡ i + length (spell_local l k)
exact_local i (plain_local x) k = omega arith
exact_local i (valued_local x e) k = omega (arith, exact_level (suc (suc i)) e k)

exact_label : (i : ℕ) (l : Label) (k : Tokens) → after_label i l + length k ≡ i + length (spell_label l k)
exact_label i (one e) k = exact_level i e k
exact_label i (range a b) k = omega (arith, exact_level i a (Keyword words.To ∷ spell_level b k), exact_level (suc (after_level i a)) b k)
exact_label i (compared r e) k = omega (arith, exact_level (suc (suc i)) e k)

exact_others : {M : Type 0} (spell : M → Tokens → Tokens) (after : ℕ → M → ℕ) → ((i : ℕ) (m : M) (k : Tokens) → after i m + length k ≡ i + length (spell m k)) → (i : ℕ) (ms : List M) (k : Tokens) → after_others after i ms + length k ≡ i + length (spell_others spell ms k)
exact_others spell after each i [] k = refl
exact_others spell after each i (m ∷ ms) k = omega (arith, each (suc i) m (spell_others spell ms k), exact_others spell after each (after (suc i) m) ms k)

mutual
  exact_statement : (i : ℕ) (s : said.Statement) (k : Tokens) → said.after_statement i s + length k ≡ i + length (said.spell_statement s k)
  exact_statement i said.empty k = omega arith
  exact_statement i (said.declared t l ls) k =
      omega (arith, exact_local (suc i) l (spell_others spell_local ls (Sign mark.Semicolon ∷ k)), exact_others spell_local after_local exact_local (after_local (suc i) l) ls (Sign mark.Semicolon ∷ k))
  exact_statement i (said.call_of x a) k = omega (arith, exact_args (suc (suc i)) a (Sign mark.RightParen ∷ Sign mark.Semicolon ∷ k))
  exact_statement i (said.assigned x e) k = omega (arith, exact_level (suc (suc i)) e (Sign mark.Semicolon ∷ k))
  exact_statement i (said.element_assigned x j e) k =
      omega (arith, exact_level (suc (suc i)) j (Sign mark.RightBracket ∷ Sign mark.Equal ∷ spell_level e (Sign mark.Semicolon ∷ k)), exact_level (suc (suc (after_level (suc (suc i)) j))) e (Sign mark.Semicolon ∷ k))
  exact_statement i (said.choice e b o) k =
      let at = suc (after_level (suc i) e) in
      omega (arith, exact_level (suc i) e (Keyword words.Then ∷ said.spell_body b (said.spell_else o (Keyword words.End ∷ k))), exact_body at b (said.spell_else o (Keyword words.End ∷ k)), exact_else (said.after_body at b) o (Keyword words.End ∷ k))
  exact_statement i (said.loop e b) k = omega (arith, exact_level (suc i) e (Keyword words.Do ∷ said.spell_body b (Keyword words.End ∷ k)), exact_body (suc (after_level (suc i) e)) b (Keyword words.End ∷ k))
  exact_statement i (said.count x e f b) k =
      let to_at = after_level (suc (suc (suc i))) e in
      let behind = Keyword words.Do ∷ said.spell_body b (Keyword words.End ∷ k) in
      omega (arith, exact_level (suc (suc (suc i))) e (Keyword words.To ∷ spell_level f behind), exact_level (suc to_at) f behind, exact_body (suc (after_level (suc to_at) f)) b (Keyword words.End ∷ k))
  exact_statement i (said.selection e c) k = omega (arith, exact_level (suc (suc i)) e (said.spell_cases c k), exact_cases (after_level (suc (suc i)) e) c k)
  exact_statement i said.return_none k = omega arith
  exact_statement i (said.return_value e) k = omega (arith, exact_level (suc i) e (Sign mark.Semicolon ∷ k))

  exact_else : (i : ℕ) (o : said.Else) (k : Tokens) → said.after_else i o + length k ≡ i + length (said.spell_else o k)
  exact_else i said.no_else k = refl
  exact_else i (said.else b) k = omega (arith, exact_body (suc i) b k)

  exact_cases : (i : ℕ) (c : said.Cases) (k : Tokens) → said.after_cases i c + length k ≡ i + length (said.spell_cases c k)
  exact_cases i said.end_select k = omega arith
  exact_cases i (said.case_else b) k = omega (arith, exact_body (suc (suc i)) b (Keyword words.End ∷ Keyword words.Select ∷ k))
  exact_cases i (said.case l ls b c) k =
      let body_at = after_others after_label (after_label (suc i) l) ls in
      let third = said.spell_cases c k in
      let second = said.spell_body b third in
      omega (arith, exact_label (suc i) l (spell_others spell_label ls second), exact_others spell_label after_label exact_label (after_label (suc i) l) ls second, exact_body body_at b third, exact_cases (said.after_body body_at b) c k)

  exact_body : (i : ℕ) (b : said.Body) (k : Tokens) → said.after_body i b + length k ≡ i + length (said.spell_body b k)
  exact_body i said.end k = refl
  exact_body i (said.then s b) k = omega (arith, exact_statement i s (said.spell_body b k), exact_body (said.after_statement i s) b k)

exact_first : (i : ℕ) (v : said.FirstValue) (k : Tokens) → said.after_first i v + length k ≡ i + length (said.spell_first v k)
exact_first i (said.positive v) k = omega arith
exact_first i (said.negative v) k = omega arith
exact_first i (said.literal t) k = omega arith

exact_var : (i : ℕ) (v : said.Var) (k : Tokens) → said.after_var i v + length k ≡ i + length (said.spell_var v k)
exact_var i (said.plain_var x) k = omega arith
exact_var i (said.array_var x n) k = omega arith
exact_var i (said.valued_var x v) k = omega (arith, exact_first (suc (suc i)) v k)

exact_parameter : (i : ℕ) (p : said.Parameter) (k : Tokens) → said.after_parameter i p + length k ≡ i + length (said.spell_parameter p k)
exact_parameter i (said.plain_parameter t x) k = omega arith
exact_parameter i (said.valued_parameter t x v) k = omega (arith, exact_first (suc (suc (suc i))) v k)

exact_parameters : (i : ℕ) (ps : said.Parameters) (k : Tokens) → said.after_parameters i ps + length k ≡ i + length (said.spell_parameters ps k)
exact_parameters i said.no_parameters k = refl
exact_parameters i (said.parameters p ps) k =
    omega (arith, exact_parameter i p (spell_others said.spell_parameter ps k), exact_others said.spell_parameter said.after_parameter exact_parameter (said.after_parameter i p) ps k)

exact_function : (i : ℕ) (f : said.Function) (k : Tokens) → said.after_function i f + length k ≡ i + length (said.spell_function f k)
exact_function i (said.function x ps b) k =
    let start = suc (suc (suc i)) in
    let behind = said.spell_body b (Keyword words.End ∷ k) in
    omega (arith, exact_parameters start ps (Sign mark.RightParen ∷ behind), exact_body (suc (said.after_parameters start ps)) b (Keyword words.End ∷ k))

exact_vars : (i : ℕ) (v : said.Var) (vs : List said.Var) (k : Tokens) → after_others said.after_var (said.after_var i v) vs + length k ≡ i + length (said.spell_var v (spell_others said.spell_var vs k))
exact_vars i v vs k = omega (arith, exact_var i v (spell_others said.spell_var vs k), exact_others said.spell_var said.after_var exact_var (said.after_var i v) vs k)

exact_definition : (i : ℕ) (d : said.Definition) (k : Tokens) → said.after_definition i d + length k ≡ i + length (said.spell_definition d k)
exact_definition i said.blank k = omega arith
exact_definition i (said.plain_function f) k = exact_function i f k
exact_definition i (said.typed_function t f) k = omega (arith, exact_function (suc i) f k)
exact_definition i (said.seen_function p f) k = omega (arith, exact_function (suc i) f k)
exact_definition i (said.seen_typed_function p t f) k = omega (arith, exact_function (suc (suc i)) f k)
exact_definition i (said.variables t v vs) k = omega (arith, exact_vars (suc i) v vs (Sign mark.Semicolon ∷ k))
exact_definition i (said.scoped_variables g t v vs) k = omega (arith, exact_vars (suc (suc i)) v vs (Sign mark.Semicolon ∷ k))

-- Trees whose indices are below a number

abbrev mutual
  pub ExprBelow : ℕ → Expr → Type 0
  ExprBelow n (to.expr start at what) = (start < n) × (at < n) × WhatBelow n what

  pub WhatBelow : ℕ → What → Type 0
  WhatBelow n (to.number value) = Unit {0}
  WhatBelow n (to.literal t) = Unit {0}
  WhatBelow n (to.name x) = Unit {0}
  WhatBelow n (to.element x index) = ExprBelow n index
  WhatBelow n (to.call x arguments) = ExprsBelow n arguments
  WhatBelow n (to.unary negates operand) = ExprBelow n operand
  WhatBelow n (to.chain first rest) = ExprBelow n first × LinksBelow n rest

  pub LinksBelow : ℕ → Links → Type 0
  LinksBelow n to.no_link = Unit {0}
  LinksBelow n (to.operand at operator right rest) = (at < n) × ExprBelow n right × LinksBelow n rest
  LinksBelow n (to.hashes at count rest) = (at < n) × LinksBelow n rest

  pub ExprsBelow : ℕ → Exprs → Type 0
  ExprsBelow n to.no_expr = Unit {0}
  ExprsBelow n (to.more first rest) = ExprBelow n first × ExprsBelow n rest

abbrev pub PartBelow : ℕ → Option Expr → Type 0
PartBelow n None = Unit {0}
PartBelow n (Some e) = ExprBelow n e

abbrev pub LocalBelow : ℕ → to.Local → Type 0
LocalBelow n l = (l.at < n) × PartBelow n l.value

abbrev pub LabelBelow : ℕ → to.Label → Type 0
LabelBelow n (to.one value) = ExprBelow n value
LabelBelow n (to.range low high) = ExprBelow n low × ExprBelow n high
LabelBelow n (to.compared at relation value) = ExprBelow n value

abbrev mutual
  pub StmtBelow : ℕ → Stmt → Type 0
  StmtBelow n (to.declare at kind locals) = (kind.at < n) × All (LocalBelow n) locals
  StmtBelow n (to.assign at x index equals value) = (at < n) × (equals < n) × PartBelow n index × ExprBelow n value
  StmtBelow n (to.call_of at x arguments) = (at < n) × ExprsBelow n arguments
  StmtBelow n (to.choose at test body last) = ExprBelow n test × BlockBelow n body × OtherBelow n last
  StmtBelow n (to.while at test body) = ExprBelow n test × BlockBelow n body
  StmtBelow n (to.for at x_at x first last body) = (x_at < n) × ExprBelow n first × ExprBelow n last × BlockBelow n body
  StmtBelow n (to.select at subject clauses last) = ExprBelow n subject × ClausesBelow n clauses × OtherBelow n last
  StmtBelow n (to.return at value) = (at < n) × PartBelow n value

  pub OtherBelow : ℕ → Other → Type 0
  OtherBelow n to.no_other = Unit {0}
  OtherBelow n (to.other body) = BlockBelow n body

  pub ClausesBelow : ℕ → Clauses → Type 0
  ClausesBelow n to.no_clause = Unit {0}
  ClausesBelow n (to.clause at labels body rest) = All (LabelBelow n) labels × BlockBelow n body × ClausesBelow n rest

  pub BlockBelow : ℕ → Block → Type 0
  BlockBelow n to.done = Unit {0}
  BlockBelow n (to.then first rest) = StmtBelow n first × BlockBelow n rest

abbrev pub ConstBelow : ℕ → Option Const → Type 0
ConstBelow n None = Unit {0}
ConstBelow n (Some (const.Number at value)) = at < n
ConstBelow n (Some (const.Literal at t)) = at < n

abbrev pub TypeBelow : ℕ → Option TypeAt → Type 0
TypeBelow n None = Unit {0}
TypeBelow n (Some t) = t.at < n

abbrev pub LengthBelow : ℕ → Option Length → Type 0
LengthBelow n None = Unit {0}
LengthBelow n (Some l) = l.at < n

abbrev pub ParamBelow : ℕ → Param → Type 0
ParamBelow n p = (p.at < n) × (p.kind.at < n) × ConstBelow n p.first

abbrev pub ItemBelow : ℕ → Item → Type 0
ItemBelow n (to.function at x private gives params body) = (at < n) × TypeBelow n gives × All (ParamBelow n) params × BlockBelow n body
ItemBelow n (to.variable at x global kind size first) = (at < n) × (kind.at < n) × LengthBelow n size × ConstBelow n first

-- Derived trees are so

begun_below : (n start : ℕ) (e : Expr) → start < n → ExprBelow n e → ExprBelow n (begun_at start e)
begun_below n start (to.expr inner at what) s h = (s, h.1, h.2)

mutual
  level_below : (n i : ℕ) (e : Level) → after_level i e ≤ n → ExprBelow n (tree_level i e)
  level_below n i (single u) h = unary_below n i u h
  level_below n i (group first no_rest) h = level_below n i first h
  level_below n i (group first (joined op right rest)) h =
      let at = after_level i first in
      (omega (arith, forward_level i first, forward_level (suc at) right, forward_rest (after_level (suc at) right) rest), omega (arith, forward_level (suc at) right, forward_rest (after_level (suc at) right) rest), (level_below n i first (omega (arith, forward_level (suc at) right, forward_rest (after_level (suc at) right) rest)), rest_below n at (joined op right rest) h))
  level_below n i (group first (formed count rest)) h =
      let at = after_level i first in
      (omega (arith, forward_level i first, forward_rest (suc (suc at)) rest), omega (arith, forward_rest (suc (suc at)) rest), (level_below n i first (omega (arith, forward_rest (suc (suc at)) rest)), rest_below n at (formed count rest) h))

  rest_below : (n i : ℕ) (r : Rest) → after_rest i r ≤ n → LinksBelow n (tree_rest i r)
  rest_below n i no_rest h = tt
  rest_below n i (joined op right rest) h =
      let behind = after_level (suc i) right in
      (omega (arith, forward_level (suc i) right, forward_rest behind rest), level_below n (suc i) right (omega (arith, forward_rest behind rest)), rest_below n behind rest h)
  rest_below n i (formed count rest) h = (omega (arith, forward_rest (suc (suc i)) rest), rest_below n (suc (suc i)) rest h)

  unary_below : (n i : ℕ) (u : Unary) → after_unary i u ≤ n → ExprBelow n (tree_unary i u)
  unary_below n i (minus u) h = let own : i < n = omega (arith, forward_unary (suc i) u) in (own, own, unary_below n (suc i) u h)
  unary_below n i (not u) h = let own : i < n = omega (arith, forward_unary (suc i) u) in (own, own, unary_below n (suc i) u h)
  unary_below n i (number v) h = (omega arith, omega arith, tt)
  unary_below n i (text t) h = (omega arith, omega arith, tt)
  unary_below n i (parens e) h = begun_below n i (tree_level (suc i) e) (omega (arith, forward_level (suc i) e)) (level_below n (suc i) e (omega arith))
  unary_below n i (name x) h = (omega arith, omega arith, tt)
  unary_below n i (called x a) h = let own : i < n = omega (arith, forward_args (suc (suc i)) a) in (own, own, args_below n (suc (suc i)) a (omega arith))
  unary_below n i (element x e) h = let own : i < n = omega (arith, forward_level (suc (suc i)) e) in (own, own, level_below n (suc (suc i)) e (omega arith))

  args_below : (n i : ℕ) (a : Args) → after_args i a ≤ n → ExprsBelow n (tree_args i a)
  args_below n i no_args h = tt
  args_below n i (args e rest) h = (level_below n i e (omega (arith, forward_more_args (after_level i e) rest)), more_args_below n (after_level i e) rest h)

  more_args_below : (n i : ℕ) (a : MoreArgs) → after_more_args i a ≤ n → ExprsBelow n (tree_more_args i a)
  more_args_below n i no_more_args h = tt
  more_args_below n i (comma_arg e rest) h = (level_below n (suc i) e (omega (arith, forward_more_args (after_level (suc i) e) rest)), more_args_below n (after_level (suc i) e) rest h)

local_below : (n i : ℕ) (l : Local) → after_local i l ≤ n → LocalBelow n (tree_local i l)
local_below n i (plain_local x) h = (omega arith, tt)
local_below n i (valued_local x e) h = (omega (arith, forward_level (suc (suc i)) e), level_below n (suc (suc i)) e h)

label_below : (n i : ℕ) (l : Label) → after_label i l ≤ n → LabelBelow n (tree_label i l)
label_below n i (one e) h = level_below n i e h
label_below n i (range a b) h = (level_below n i a (omega (arith, forward_level (suc (after_level i a)) b)), level_below n (suc (after_level i a)) b h)
label_below n i (compared r e) h = level_below n (suc (suc i)) e h

others_below : {M T : Type 0} (n : ℕ) (P : T → Type 0) (after : ℕ → M → ℕ) (tree : ℕ → M → T) → ((i : ℕ) (m : M) → i < after i m) → ((i : ℕ) (m : M) → after i m ≤ n → P (tree i m)) → (i : ℕ) (ms : List M) → after_others after i ms ≤ n → All P (tree_others after tree i ms)
others_below n P after tree forward each i [] h = All-nil P
others_below n P after tree forward each i (m ∷ ms) h =
    All-cons P (tree (suc i) m) (tree_others after tree (after (suc i) m) ms) (each (suc i) m (omega (arith, forward_others after forward (after (suc i) m) ms)))
    (others_below n P after tree forward each (after (suc i) m) ms h)

members_below : {M T : Type 0} (n : ℕ) (P : T → Type 0) (after : ℕ → M → ℕ) (tree : ℕ → M → T) → ((i : ℕ) (m : M) → i < after i m) → ((i : ℕ) (m : M) → after i m ≤ n → P (tree i m)) → (i : ℕ) (m : M) (ms : List M) → after_others after (after i m) ms ≤ n →
    All P (tree i m ∷ tree_others after tree (after i m) ms)
members_below n P after tree forward each i m ms h =
    All-cons P (tree i m) (tree_others after tree (after i m) ms) (each i m (omega (arith, forward_others after forward (after i m) ms))) (others_below n P after tree forward each (after i m) ms h)

abbrev MaybeBelow : ℕ → Option Stmt → Type 0
MaybeBelow n None = Unit {0}
MaybeBelow n (Some s) = StmtBelow n s

then_below : (n : ℕ) (o : Option Stmt) (b : Block) → MaybeBelow n o → BlockBelow n b → BlockBelow n (stmt_then o b)
then_below n None b h i = i
then_below n (Some s) b h i = (h, i)

abbrev CasesBelow : ℕ → said.CasesTree → Type 0
CasesBelow n c = ClausesBelow n c.clauses × OtherBelow n c.other

mutual
  statement_below : (n i : ℕ) (s : said.Statement) → said.after_statement i s ≤ n → MaybeBelow n (said.tree_statement i s)
  statement_below n i said.empty h = tt
  statement_below n i (said.declared t l ls) h = (
    omega (arith, forward_local (suc i) l, forward_others after_local forward_local (after_local (suc i) l) ls),
    members_below n (LocalBelow n) after_local tree_local forward_local (local_below n) (suc i) l ls (omega arith),
  )
  statement_below n i (said.call_of x a) h = (omega (arith, forward_args (suc (suc i)) a), args_below n (suc (suc i)) a (omega arith))
  statement_below n i (said.assigned x e) h = (omega (arith, forward_level (suc (suc i)) e), omega (arith, forward_level (suc (suc i)) e), tt, level_below n (suc (suc i)) e (omega arith))
  statement_below n i (said.element_assigned x j e) h =
      let closes = after_level (suc (suc i)) j in
      let behind = forward_level (suc (suc closes)) e in
      (omega (arith, forward_level (suc (suc i)) j, behind), omega (arith, behind), level_below n (suc (suc i)) j (omega (arith, behind)), level_below n (suc (suc closes)) e (omega arith))
  statement_below n i (said.choice e b o) h =
      let at = suc (after_level (suc i) e) in
      let body = forward_body at b in
      let other = forward_else (said.after_body at b) o in
      (level_below n (suc i) e (omega (arith, body, other)), body_below n at b (omega (arith, other)), else_below n (said.after_body at b) o (omega arith))
  statement_below n i (said.loop e b) h =
      let at = suc (after_level (suc i) e) in (level_below n (suc i) e (omega (arith, forward_body at b)), body_below n at b (omega arith))
  statement_below n i (said.count x e f b) h =
      let to_at = after_level (suc (suc (suc i))) e in
      let do_at = after_level (suc to_at) f in
      let first = forward_level (suc (suc (suc i))) e in
      let last = forward_level (suc to_at) f in
      let body = forward_body (suc do_at) b in
      (omega (arith, first, last, body), level_below n (suc (suc (suc i))) e (omega (arith, last, body)), level_below n (suc to_at) f (omega (arith, body)), body_below n (suc do_at) b (omega arith))
  statement_below n i (said.selection e c) h =
      let at = after_level (suc (suc i)) e in
      let cases = cases_below n at c h in
      (level_below n (suc (suc i)) e (omega (arith, forward_cases at c)), cases.0, cases.1)
  statement_below n i said.return_none h = (omega arith, tt)
  statement_below n i (said.return_value e) h = (omega (arith, forward_level (suc i) e), level_below n (suc i) e (omega arith))

  else_below : (n i : ℕ) (o : said.Else) → said.after_else i o ≤ n → OtherBelow n (said.tree_else i o)
  else_below n i said.no_else h = tt
  else_below n i (said.else b) h = body_below n (suc i) b h

  cases_below : (n i : ℕ) (c : said.Cases) → said.after_cases i c ≤ n → CasesBelow n (said.tree_cases i c)
  cases_below n i said.end_select h = (tt, tt)
  cases_below n i (said.case_else b) h = (tt, body_below n (suc (suc i)) b (omega arith))
  cases_below n i (said.case l ls b c) h =
      let body_at = after_others after_label (after_label (suc i) l) ls in
      let behind = forward_cases (said.after_body body_at b) c in
      let rest = cases_below n (said.after_body body_at b) c h in
      ((members_below n (LabelBelow n) after_label tree_label forward_label (label_below n) (suc i) l ls (omega (arith, forward_body body_at b, behind)), body_below n body_at b (omega (arith, behind)), rest.0), rest.1)

  body_below : (n i : ℕ) (b : said.Body) → said.after_body i b ≤ n → BlockBelow n (said.tree_body i b)
  body_below n i said.end h = tt
  body_below n i (said.then s b) h =
      then_below n (said.tree_statement i s) (said.tree_body (said.after_statement i s) b) (statement_below n i s (omega (arith, forward_body (said.after_statement i s) b))) (body_below n (said.after_statement i s) b h)

first_below : (n i : ℕ) (v : said.FirstValue) → said.after_first i v ≤ n → ConstBelow n (Some (said.tree_first i v))
first_below n i (said.positive v) h = omega arith
first_below n i (said.negative v) h = omega arith
first_below n i (said.literal t) h = omega arith

parameter_below : (n i : ℕ) (p : said.Parameter) → said.after_parameter i p ≤ n → ParamBelow n (said.tree_parameter i p)
parameter_below n i (said.plain_parameter t x) h = (omega arith, omega arith, tt)
parameter_below n i (said.valued_parameter t x v) h =
    let behind = forward_first (suc (suc (suc i))) v in (omega (arith, behind), omega (arith, behind), first_below n (suc (suc (suc i))) v h)

parameters_below : (n i : ℕ) (ps : said.Parameters) → said.after_parameters i ps ≤ n → All (ParamBelow n) (said.tree_parameters i ps)
parameters_below n i said.no_parameters h = All-nil (ParamBelow n)
parameters_below n i (said.parameters p ps) h = members_below n (ParamBelow n) said.after_parameter said.tree_parameter past_parameter (parameter_below n) i p ps h

function_below : (n : ℕ) (private : Bool) (gives : Option TypeAt) (i : ℕ) (f : said.Function) → TypeBelow n gives → said.after_function i f ≤ n → All (ItemBelow n) (said.tree_function private gives i f ∷ [])
function_below n private gives i (said.function x ps b) g h =
    let start = suc (suc (suc i)) in
    let closes = said.after_parameters start ps in
    let params = forward_parameters start ps in
    let body = forward_body (suc closes) b in
    All-cons (ItemBelow n) (said.tree_function private gives i (said.function x ps b)) []
    (omega (arith, params, body), g, parameters_below n start ps (omega (arith, body)), body_below n (suc closes) b (omega arith)) (All-nil (ItemBelow n))

var_below : (n : ℕ) (global : Bool) (kind : TypeAt) → kind.at < n → (i : ℕ) (v : said.Var) → said.after_var i v ≤ n → ItemBelow n (said.tree_var global kind i v)
var_below n global kind k i (said.plain_var x) h = (omega arith, k, tt, tt)
var_below n global kind k i (said.array_var x size) h = (omega arith, k, omega arith, tt)
var_below n global kind k i (said.valued_var x v) h = (omega (arith, forward_first (suc (suc i)) v), k, tt, first_below n (suc (suc i)) v h)

definition_below : (n i : ℕ) (d : said.Definition) → said.after_definition i d ≤ n → All (ItemBelow n) (said.tree_definition i d)
definition_below n i said.blank h = All-nil (ItemBelow n)
definition_below n i (said.plain_function f) h = function_below n false None i f tt h
definition_below n i (said.typed_function t f) h = function_below n false (Some (record { at = i; name = t })) (suc i) f (omega (arith, forward_function (suc i) f)) h
definition_below n i (said.seen_function p f) h = function_below n p None (suc i) f tt h
definition_below n i (said.seen_typed_function p t f) h = function_below n p (Some (record { at = suc i; name = t })) (suc (suc i)) f (omega (arith, forward_function (suc (suc i)) f)) h
definition_below n i (said.variables t v vs) h =
    let kind : TypeAt = record { at = i; name = t } in
    let own : i < n = omega (arith, forward_var (suc i) v, forward_others said.after_var forward_var (said.after_var (suc i) v) vs) in
    members_below n (ItemBelow n) said.after_var (said.tree_var false kind) forward_var (var_below n false kind own) (suc i) v vs (omega arith)
definition_below n i (said.scoped_variables g t v vs) h =
    let kind : TypeAt = record { at = suc i; name = t } in
    let own : suc i < n = omega (arith, forward_var (suc (suc i)) v, forward_others said.after_var forward_var (said.after_var (suc (suc i)) v) vs) in
    members_below n (ItemBelow n) said.after_var (said.tree_var g kind) forward_var (var_below n g kind own) (suc (suc i)) v vs (omega arith)

file_below : (n i : ℕ) (ds : List said.Definition) → i + length (said.spell_file ds) ≤ n → All (ItemBelow n) (said.tree_file i ds)
file_below n i [] h = All-nil (ItemBelow n)
file_below n i (d ∷ ds) h =
    let exact = exact_definition i d (said.spell_file ds) in
    All-append (ItemBelow n) (said.tree_definition i d) (said.tree_file (said.after_definition i d) ds) (definition_below n i d (omega (arith, exact))) (file_below n (said.after_definition i d) ds (omega (arith, exact)))

-- the indices in a derived tree are below the number of tokens
pub derived_below : (tokens : Tokens) (items : List Item) → derives tokens items → All (ItemBelow (length tokens)) items
derived_below tokens items d = subst (All (ItemBelow (length tokens))) (sym d.means) (file_below (length tokens) 0 d.file (same (length tokens) (length (said.spell_file d.file)) (ap length d.spelled)))
  where
    same : (n m : ℕ) → n ≡ m → 0 + m ≤ n
    same n m h = omega arith
