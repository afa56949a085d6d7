-- The names, texts and numbers of hashes of a tree that kept tokens spell are those of tokens.
use Rattle.std.specs.Prelude.{ℕ, suc, Bool, false, List, [], ◌∷◌, Option, Some, None, All}
use Rattle.std.proofs.Common.{subst, sym}
use Rattle.std.proofs.lemmas.List.Elements.{All-nil, All-cons, All-append, All-weaker}
use Rattle.ci_tree.specs.declared.token.TokenKind.TheVariants.{Keyword, Sign}
use Rattle.ci_tree.specs.declared.token.Keyword.TheVariants as words
use Rattle.ci_tree.specs.declared.token.Sign.TheVariants as mark
use Rattle.ci_tree.specs.declared.tree.TypeAt.{TypeAt}
use Rattle.ci_tree.specs.Files.{IsFileTree}
use Rattle.ci_tree.specs.Tree as to
use Rattle.ci_tree.specs.Tree.{Expr, Links, Stmt, Block, Item}
use Rattle.ci_tree.specs.Grammar as said
use Rattle.ci_tree.specs.Grammar.{Tokens, Level, single, group, Rest, no_rest, joined, formed, Unary, minus, not, number, text, parens, name, called, element, Args, no_args, args, MoreArgs, no_more_args, comma_arg, Label, Local, plain_local, valued_local, one, range, compared, spell_level, spell_rest, spell_more_args, spell_label, spell_local, spell_others, after_level, after_local, after_label, after_others, chained, begun_at, tree_level, tree_rest, tree_unary, tree_args, tree_more_args, tree_local, tree_label, tree_others, stmt_then}
use Rattle.ci_tree.specs.Written.{IsWritten, AreWrittenLinks, AreWritten, IsWrittenLocal, IsWrittenLabel, IsWrittenStmt, IsWrittenOther, AreWrittenClauses, IsWrittenBlock, IsShort, IsShortParam, IsShortItem, IsWrittenItem}
use Rattle.ci_tree.proofs.Past.{Kept, kept_kinds, past_level, past_local, past_label, past_others, past_statement, past_body, past_var, past_parameter, past_parameters, past_definition}

-- Expressions

chained_written : (start : ℕ) (first : Expr) (at : ℕ) (rest : Links) → IsWritten first → AreWrittenLinks rest → IsWritten (chained start first at rest)
chained_written start first at to.no_link f r = f
chained_written start first at (to.operand i op right rest) f r = (f, r)
chained_written start first at (to.hashes i count rest) f r = (f, r)

begun_written : (start : ℕ) (e : Expr) → IsWritten e → IsWritten (begun_at start e)
begun_written start (to.expr inner at what) h = h

mutual
  written_level : (i : ℕ) (e : Level) (k : Tokens) → Kept (spell_level e k) → IsWritten (tree_level i e)
  written_level i (single u) k h = written_unary i u k h
  written_level i (group first rest) k h =
      chained_written i (tree_level i first) (after_level i first) (tree_rest (after_level i first) rest)
      (written_level i first (spell_rest rest k) h) (written_rest (after_level i first) rest k (past_level first (spell_rest rest k) h))

  written_rest : (i : ℕ) (r : Rest) (k : Tokens) → Kept (spell_rest r k) → AreWrittenLinks (tree_rest i r)
  written_rest i no_rest k h = tt
  written_rest i (joined op right rest) k h = (written_level (suc i) right (spell_rest rest k) h.1, written_rest (after_level (suc i) right) rest k (past_level right (spell_rest rest k) h.1))
  written_rest i (formed count rest) k h = (h.1.0, written_rest (suc (suc i)) rest k h.1.1)

  written_unary : (i : ℕ) (u : Unary) (k : Tokens) → Kept (said.spell_unary u k) → IsWritten (tree_unary i u)
  written_unary i (minus u) k h = written_unary (suc i) u k h.1
  written_unary i (not u) k h = written_unary (suc i) u k h.1
  written_unary i (number v) k h = tt
  written_unary i (text t) k h = h.0
  written_unary i (parens e) k h = begun_written i (tree_level (suc i) e) (written_level (suc i) e (Sign mark.RightParen ∷ k) h.1)
  written_unary i (name x) k h = h.0
  written_unary i (called x a) k h = (h.0, written_args (suc (suc i)) a (Sign mark.RightParen ∷ k) h.1.1)
  written_unary i (element x e) k h = (h.0, written_level (suc (suc i)) e (Sign mark.RightBracket ∷ k) h.1.1)

  written_args : (i : ℕ) (a : Args) (k : Tokens) → Kept (said.spell_args a k) → AreWritten (tree_args i a)
  written_args i no_args k h = tt
  written_args i (args e rest) k h = (written_level i e (spell_more_args rest k) h, written_more_args (after_level i e) rest k (past_level e (spell_more_args rest k) h))

  written_more_args : (i : ℕ) (a : MoreArgs) (k : Tokens) → Kept (spell_more_args a k) → AreWritten (tree_more_args i a)
  written_more_args i no_more_args k h = tt
  written_more_args i (comma_arg e rest) k h =
      (written_level (suc i) e (spell_more_args rest k) h.1, written_more_args (after_level (suc i) e) rest k (past_level e (spell_more_args rest k) h.1))

-- Locals and labels

written_local : (i : ℕ) (l : Local) (k : Tokens) → Kept (spell_local l k) → IsWrittenLocal (tree_local i l)
written_local i (plain_local x) k h = (h.0, tt)
written_local i (valued_local x e) k h = (h.0, written_level (suc (suc i)) e k h.1.1)

written_label : (i : ℕ) (l : Label) (k : Tokens) → Kept (spell_label l k) → IsWrittenLabel (tree_label i l)
written_label i (one e) k h = written_level i e k h
written_label i (range a b) k h =
    (written_level i a (Keyword words.To ∷ spell_level b k) h, written_level (suc (after_level i a)) b k (past_level a (Keyword words.To ∷ spell_level b k) h).1)
written_label i (compared r e) k h = written_level (suc (suc i)) e k h.1.1

-- members behind commas
written_others : {M T : Type 0} (P : T → Type 0) (spell : M → Tokens → Tokens) (after : ℕ → M → ℕ) (tree : ℕ → M → T) → ((m : M) (k : Tokens) → Kept (spell m k) → Kept k) → ((i : ℕ) (m : M) (k : Tokens) → Kept (spell m k) → P (tree i m)) →
    (i : ℕ) (ms : List M) (k : Tokens) → Kept (spell_others spell ms k) → All P (tree_others after tree i ms)
written_others P spell after tree past each i [] k h = All-nil P
written_others P spell after tree past each i (m ∷ ms) k h =
    All-cons P (tree (suc i) m) (tree_others after tree (after (suc i) m) ms) (each (suc i) m (spell_others spell ms k) h.1)
    (written_others P spell after tree past each (after (suc i) m) ms k (past m (spell_others spell ms k) h.1))

-- Statements

abbrev IsWrittenMaybe : Option Stmt → Type 0
IsWrittenMaybe None = Unit {0}
IsWrittenMaybe (Some s) = IsWrittenStmt s

written_then : (o : Option Stmt) (b : Block) → IsWrittenMaybe o → IsWrittenBlock b → IsWrittenBlock (stmt_then o b)
written_then None b h i = i
written_then (Some s) b h i = (h, i)

abbrev AreWrittenCases : said.CasesTree → Type 0
AreWrittenCases c = AreWrittenClauses c.clauses × IsWrittenOther c.other

mutual
  written_statement : (i : ℕ) (s : said.Statement) (k : Tokens) → Kept (said.spell_statement s k) → IsWrittenMaybe (said.tree_statement i s)
  written_statement i said.empty k h = tt
  written_statement i (said.declared t l ls) k h =
      let behind = spell_others spell_local ls (Sign mark.Semicolon ∷ k) in
      All-cons IsWrittenLocal (tree_local (suc i) l) (tree_others after_local tree_local (after_local (suc i) l) ls) (written_local (suc i) l behind h.1)
      (written_others IsWrittenLocal spell_local after_local tree_local past_local written_local (after_local (suc i) l) ls (Sign mark.Semicolon ∷ k) (past_local l behind h.1))
  written_statement i (said.call_of x a) k h = (h.0, written_args (suc (suc i)) a (Sign mark.RightParen ∷ Sign mark.Semicolon ∷ k) h.1.1)
  written_statement i (said.assigned x e) k h = (h.0, tt, written_level (suc (suc i)) e (Sign mark.Semicolon ∷ k) h.1.1)
  written_statement i (said.element_assigned x j e) k h =
      let closes = after_level (suc (suc i)) j in
      let behind = Sign mark.RightBracket ∷ Sign mark.Equal ∷ spell_level e (Sign mark.Semicolon ∷ k) in
      (h.0, written_level (suc (suc i)) j behind h.1.1, written_level (suc (suc closes)) e (Sign mark.Semicolon ∷ k) (past_level j behind h.1.1).1.1)
  written_statement i (said.choice e b o) k h =
      let at = suc (after_level (suc i) e) in
      let second = said.spell_else o (Keyword words.End ∷ k) in
      let first = Keyword words.Then ∷ said.spell_body b second in
      let inner = (past_level e first h.1).1 in
      (written_level (suc i) e first h.1, written_body at b second inner, written_else (said.after_body at b) o (Keyword words.End ∷ k) (past_body b second inner))
  written_statement i (said.loop e b) k h =
      let first = Keyword words.Do ∷ said.spell_body b (Keyword words.End ∷ k) in
      (written_level (suc i) e first h.1, written_body (suc (after_level (suc i) e)) b (Keyword words.End ∷ k) (past_level e first h.1).1)
  written_statement i (said.count x e f b) k h =
      let to_at = after_level (suc (suc (suc i))) e in
      let second = Keyword words.Do ∷ said.spell_body b (Keyword words.End ∷ k) in
      let first = Keyword words.To ∷ spell_level f second in
      let inner = (past_level e first h.1.1.1).1 in
      (h.1.0, written_level (suc (suc (suc i))) e first h.1.1.1, written_level (suc to_at) f second inner, written_body (suc (after_level (suc to_at) f)) b (Keyword words.End ∷ k) (past_level f second inner).1)
  written_statement i (said.selection e c) k h =
      let cases = written_cases (after_level (suc (suc i)) e) c k (past_level e (said.spell_cases c k) h.1.1) in
      (written_level (suc (suc i)) e (said.spell_cases c k) h.1.1, cases.0, cases.1)
  written_statement i said.return_none k h = tt
  written_statement i (said.return_value e) k h = written_level (suc i) e (Sign mark.Semicolon ∷ k) h.1

  written_else : (i : ℕ) (o : said.Else) (k : Tokens) → Kept (said.spell_else o k) → IsWrittenOther (said.tree_else i o)
  written_else i said.no_else k h = tt
  written_else i (said.else b) k h = written_body (suc i) b k h.1

  written_cases : (i : ℕ) (c : said.Cases) (k : Tokens) → Kept (said.spell_cases c k) → AreWrittenCases (said.tree_cases i c)
  written_cases i said.end_select k h = (tt, tt)
  written_cases i (said.case_else b) k h = (tt, written_body (suc (suc i)) b (Keyword words.End ∷ Keyword words.Select ∷ k) h.1.1)
  written_cases i (said.case l ls b c) k h =
      let body_at = after_others after_label (after_label (suc i) l) ls in
      let third = said.spell_cases c k in
      let second = said.spell_body b third in
      let first = spell_others spell_label ls second in
      let others = past_label l first h.1 in
      let inner = past_others spell_label past_label ls second others in
      let rest = written_cases (said.after_body body_at b) c k (past_body b third inner) in (
        (
          All-cons IsWrittenLabel (tree_label (suc i) l) (tree_others after_label tree_label (after_label (suc i) l) ls) (written_label (suc i) l first h.1)
              (written_others IsWrittenLabel spell_label after_label tree_label past_label written_label (after_label (suc i) l) ls second others),
          written_body body_at b third inner,
          rest.0,
        ),
        rest.1,
      )

  written_body : (i : ℕ) (b : said.Body) (k : Tokens) → Kept (said.spell_body b k) → IsWrittenBlock (said.tree_body i b)
  written_body i said.end k h = tt
  written_body i (said.then s b) k h =
      written_then (said.tree_statement i s) (said.tree_body (said.after_statement i s) b) (written_statement i s (said.spell_body b k) h)
      (written_body (said.after_statement i s) b k (past_statement s (said.spell_body b k) h))

-- Items

short_first : (i : ℕ) (v : said.FirstValue) (k : Tokens) → Kept (said.spell_first v k) → IsShort (said.tree_first i v)
short_first i (said.positive v) k h = tt
short_first i (said.negative v) k h = tt
short_first i (said.literal t) k h = h.0

short_parameter : (i : ℕ) (p : said.Parameter) (k : Tokens) → Kept (said.spell_parameter p k) → IsShortParam (said.tree_parameter i p)
short_parameter i (said.plain_parameter t x) k h = tt
short_parameter i (said.valued_parameter t x v) k h = short_first (suc (suc (suc i))) v k h.1.1.1

short_parameters : (i : ℕ) (ps : said.Parameters) (k : Tokens) → Kept (said.spell_parameters ps k) → All IsShortParam (said.tree_parameters i ps)
short_parameters i said.no_parameters k h = All-nil IsShortParam
short_parameters i (said.parameters p ps) k h =
    let behind = spell_others said.spell_parameter ps k in
    All-cons IsShortParam (said.tree_parameter i p) (tree_others said.after_parameter said.tree_parameter (said.after_parameter i p) ps) (short_parameter i p behind h)
    (written_others IsShortParam said.spell_parameter said.after_parameter said.tree_parameter past_parameter short_parameter (said.after_parameter i p) ps k (past_parameter p behind h))

written_function : (private : Bool) (gives : Option TypeAt) (i : ℕ) (f : said.Function) (k : Tokens) → Kept (said.spell_function f k) → All IsWrittenItem (said.tree_function private gives i f ∷ [])
written_function private gives i (said.function x ps b) k h =
    let start = suc (suc (suc i)) in
    let closes = said.after_parameters start ps in
    let second = said.spell_body b (Keyword words.End ∷ k) in
    let inner = h.1.1.1 in
    All-cons IsWrittenItem (said.tree_function private gives i (said.function x ps b)) []
    (h.1.0, short_parameters start ps (Sign mark.RightParen ∷ second) inner, written_body (suc closes) b (Keyword words.End ∷ k) (past_parameters ps (Sign mark.RightParen ∷ second) inner).1)
    (All-nil IsWrittenItem)

written_var : (global : Bool) (kind : TypeAt) (i : ℕ) (v : said.Var) (k : Tokens) → Kept (said.spell_var v k) → IsWrittenItem (said.tree_var global kind i v)
written_var global kind i (said.plain_var x) k h = (h.0, tt)
written_var global kind i (said.array_var x n) k h = (h.0, tt)
written_var global kind i (said.valued_var x v) k h = (h.0, short_first (suc (suc i)) v k h.1.1)

written_vars : (global : Bool) (kind : TypeAt) (i : ℕ) (v : said.Var) (vs : List said.Var) (k : Tokens) → Kept (said.spell_var v (spell_others said.spell_var vs (Sign mark.Semicolon ∷ k))) →
    All IsWrittenItem (said.tree_var global kind i v ∷ tree_others said.after_var (said.tree_var global kind) (said.after_var i v) vs)
written_vars global kind i v vs k h =
    let behind = spell_others said.spell_var vs (Sign mark.Semicolon ∷ k) in
    All-cons IsWrittenItem (said.tree_var global kind i v) (tree_others said.after_var (said.tree_var global kind) (said.after_var i v) vs) (written_var global kind i v behind h)
    (written_others IsWrittenItem said.spell_var said.after_var (said.tree_var global kind) past_var (written_var global kind) (said.after_var i v) vs (Sign mark.Semicolon ∷ k) (past_var v behind h))

written_definition : (i : ℕ) (d : said.Definition) (k : Tokens) → Kept (said.spell_definition d k) → All IsWrittenItem (said.tree_definition i d)
written_definition i said.blank k h = All-nil IsWrittenItem
written_definition i (said.plain_function f) k h = written_function false None i f k h
written_definition i (said.typed_function t f) k h = written_function false (Some (record { at = i; name = t })) (suc i) f k h.1
written_definition i (said.seen_function p f) k h = written_function p None (suc i) f k h.1
written_definition i (said.seen_typed_function p t f) k h = written_function p (Some (record { at = suc i; name = t })) (suc (suc i)) f k h.1.1
written_definition i (said.variables t v vs) k h = written_vars false (record { at = i; name = t }) (suc i) v vs k h.1
written_definition i (said.scoped_variables g t v vs) k h = written_vars g (record { at = suc i; name = t }) (suc (suc i)) v vs k h.1.1

written_file : (i : ℕ) (ds : List said.Definition) → Kept (said.spell_file ds) → All IsWrittenItem (said.tree_file i ds)
written_file i [] h = All-nil IsWrittenItem
written_file i (d ∷ ds) h =
    All-append IsWrittenItem (said.tree_definition i d) (said.tree_file (said.after_definition i d) ds) (written_definition i d (said.spell_file ds) h)
    (written_file (said.after_definition i d) ds (past_definition d (said.spell_file ds) h))

-- the items of a file's tree are of a written source
pub written_tree : (items : List Item) → IsFileTree items → All IsWrittenItem items
written_tree items is =
    subst (All IsWrittenItem) (sym is.derived.means) (written_file 0 is.derived.file (subst Kept is.derived.spelled (kept_kinds 0 is.tokens is.kept)))

short_item : (item : Item) → IsWrittenItem item → IsShortItem item
short_item (to.function at x private gives params body) h = h.1
short_item (to.variable at x global kind length first) h = h.1

-- their first values are short
pub short_tree : (items : List Item) → IsFileTree items → All IsShortItem items
short_tree items is = All-weaker IsWrittenItem IsShortItem short_item items (written_tree items is)
