-- What is kept of all tokens is kept of those behind each part of a grammar.
use Rattle.std.specs.Prelude.{ℕ, ◌+◌, List, [], ◌∷◌, map}
use Rattle.ci_tree.specs.declared.token.Token.{Token}
use Rattle.ci_tree.specs.declared.token.TokenKind.TheVariants.{Keyword, Sign}
use Rattle.ci_tree.specs.declared.token.Keyword.TheVariants as words
use Rattle.ci_tree.specs.declared.token.Sign.TheVariants as mark
use Rattle.ci_tree.specs.Tokens.{IsKept, AreKept}
use Rattle.ci_tree.specs.Grammar as said
use Rattle.ci_tree.specs.Grammar.{Tokens, Level, single, group, Rest, no_rest, joined, formed, Unary, minus, not, number, text, parens, name, called, element, Args, no_args, args, MoreArgs, no_more_args, comma_arg, spell_level, spell_rest, spell_unary, spell_args, spell_more_args, Label, spell_label, Local, spell_local, plain_local, valued_local, one, range, compared, spell_others}

-- each token is kept
abbrev pub Kept : Tokens → Type 0
Kept [] = Unit {0}
Kept (t ∷ ts) = IsKept t × Kept ts

pub kept_kinds : (low : ℕ) (ts : List Token) → AreKept low ts → Kept (map (λ (t : Token). t.what) ts)
kept_kinds low [] h = tt
kept_kinds low (t ∷ ts) h = (h.0, kept_kinds (t.place + 1) ts h.3)

mutual
  pub past_level : (e : Level) (k : Tokens) → Kept (spell_level e k) → Kept k
  past_level (single u) k h = past_unary u k h
  past_level (group first rest) k h = past_rest rest k (past_level first (spell_rest rest k) h)

  pub past_rest : (r : Rest) (k : Tokens) → Kept (spell_rest r k) → Kept k
  past_rest no_rest k h = h
  past_rest (joined op right rest) k h = past_rest rest k (past_level right (spell_rest rest k) h.1)
  past_rest (formed count rest) k h = past_rest rest k h.1.1

  pub past_unary : (u : Unary) (k : Tokens) → Kept (spell_unary u k) → Kept k
  past_unary (minus u) k h = past_unary u k h.1
  past_unary (not u) k h = past_unary u k h.1
  past_unary (number v) k h = h.1
  past_unary (text t) k h = h.1
  past_unary (parens e) k h = (past_level e (Sign mark.RightParen ∷ k) h.1).1
  past_unary (name x) k h = h.1
  past_unary (called x a) k h = (past_args a (Sign mark.RightParen ∷ k) h.1.1).1
  past_unary (element x e) k h = (past_level e (Sign mark.RightBracket ∷ k) h.1.1).1

  pub past_args : (a : Args) (k : Tokens) → Kept (spell_args a k) → Kept k
  past_args no_args k h = h
  past_args (args e rest) k h = past_more_args rest k (past_level e (spell_more_args rest k) h)

  pub past_more_args : (a : MoreArgs) (k : Tokens) → Kept (spell_more_args a k) → Kept k
  past_more_args no_more_args k h = h
  past_more_args (comma_arg e rest) k h = past_more_args rest k (past_level e (spell_more_args rest k) h.1)

pub past_local : (l : Local) (k : Tokens) → Kept (spell_local l k) → Kept k
past_local (plain_local x) k h = h.1
past_local (valued_local x e) k h = past_level e k h.1.1

pub past_label : (l : Label) (k : Tokens) → Kept (spell_label l k) → Kept k
past_label (one e) k h = past_level e k h
past_label (range a b) k h = past_level b k (past_level a (Keyword words.To ∷ spell_level b k) h).1
past_label (compared r e) k h = past_level e k h.1.1

-- for members of which this holds
pub past_others : {M : Type 0} (spell : M → Tokens → Tokens) → ((m : M) (k : Tokens) → Kept (spell m k) → Kept k) → (ms : List M) (k : Tokens) → Kept (spell_others spell ms k) → Kept k
past_others spell each [] k h = h
past_others spell each (m ∷ ms) k h = past_others spell each ms k (each m (spell_others spell ms k) h.1)

mutual
  pub past_statement : (s : said.Statement) (k : Tokens) → Kept (said.spell_statement s k) → Kept k
  past_statement said.empty k h = h.1
  past_statement (said.declared t l ls) k h =
      (past_others spell_local past_local ls (Sign mark.Semicolon ∷ k) (past_local l (spell_others spell_local ls (Sign mark.Semicolon ∷ k)) h.1)).1
  past_statement (said.call_of x a) k h = (past_args a (Sign mark.RightParen ∷ Sign mark.Semicolon ∷ k) h.1.1).1.1
  past_statement (said.assigned x e) k h = (past_level e (Sign mark.Semicolon ∷ k) h.1.1).1
  past_statement (said.element_assigned x i e) k h =
      (past_level e (Sign mark.Semicolon ∷ k) (past_level i (Sign mark.RightBracket ∷ Sign mark.Equal ∷ spell_level e (Sign mark.Semicolon ∷ k)) h.1.1).1.1).1
  past_statement (said.choice e b o) k h =
      (past_else o (Keyword words.End ∷ k)
      (past_body b (said.spell_else o (Keyword words.End ∷ k)) (past_level e (Keyword words.Then ∷ said.spell_body b (said.spell_else o (Keyword words.End ∷ k))) h.1).1)).1
  past_statement (said.loop e b) k h = (past_body b (Keyword words.End ∷ k) (past_level e (Keyword words.Do ∷ said.spell_body b (Keyword words.End ∷ k)) h.1).1).1
  past_statement (said.count x e f b) k h =
      (past_body b (Keyword words.End ∷ k)
      (past_level f (Keyword words.Do ∷ said.spell_body b (Keyword words.End ∷ k))
      (past_level e (Keyword words.To ∷ spell_level f (Keyword words.Do ∷ said.spell_body b (Keyword words.End ∷ k))) h.1.1.1).1).1).1
  past_statement (said.selection e c) k h = past_cases c k (past_level e (said.spell_cases c k) h.1.1)
  past_statement said.return_none k h = h.1.1
  past_statement (said.return_value e) k h = (past_level e (Sign mark.Semicolon ∷ k) h.1).1

  pub past_else : (o : said.Else) (k : Tokens) → Kept (said.spell_else o k) → Kept k
  past_else said.no_else k h = h
  past_else (said.else b) k h = past_body b k h.1

  pub past_cases : (c : said.Cases) (k : Tokens) → Kept (said.spell_cases c k) → Kept k
  past_cases said.end_select k h = h.1.1
  past_cases (said.case_else b) k h = (past_body b (Keyword words.End ∷ Keyword words.Select ∷ k) h.1.1).1.1
  past_cases (said.case l ls b c) k h =
      past_cases c k
      (past_body b (said.spell_cases c k)
      (past_others spell_label past_label ls (said.spell_body b (said.spell_cases c k))
      (past_label l (spell_others spell_label ls (said.spell_body b (said.spell_cases c k))) h.1)))

  pub past_body : (b : said.Body) (k : Tokens) → Kept (said.spell_body b k) → Kept k
  past_body said.end k h = h
  past_body (said.then s b) k h = past_body b k (past_statement s (said.spell_body b k) h)

pub past_first : (v : said.FirstValue) (k : Tokens) → Kept (said.spell_first v k) → Kept k
past_first (said.positive v) k h = h.1
past_first (said.negative v) k h = h.1.1
past_first (said.literal t) k h = h.1

pub past_var : (v : said.Var) (k : Tokens) → Kept (said.spell_var v k) → Kept k
past_var (said.plain_var x) k h = h.1
past_var (said.array_var x n) k h = h.1.1.1.1
past_var (said.valued_var x v) k h = past_first v k h.1.1

pub past_parameter : (p : said.Parameter) (k : Tokens) → Kept (said.spell_parameter p k) → Kept k
past_parameter (said.plain_parameter t x) k h = h.1.1
past_parameter (said.valued_parameter t x v) k h = past_first v k h.1.1.1

pub past_parameters : (ps : said.Parameters) (k : Tokens) → Kept (said.spell_parameters ps k) → Kept k
past_parameters said.no_parameters k h = h
past_parameters (said.parameters p ps) k h = past_others said.spell_parameter past_parameter ps k (past_parameter p (spell_others said.spell_parameter ps k) h)

pub past_function : (f : said.Function) (k : Tokens) → Kept (said.spell_function f k) → Kept k
past_function (said.function x ps b) k h =
    (past_body b (Keyword words.End ∷ k) (past_parameters ps (Sign mark.RightParen ∷ said.spell_body b (Keyword words.End ∷ k)) h.1.1.1).1).1

pub past_definition : (d : said.Definition) (k : Tokens) → Kept (said.spell_definition d k) → Kept k
past_definition said.blank k h = h.1
past_definition (said.plain_function f) k h = past_function f k h
past_definition (said.typed_function t f) k h = past_function f k h.1
past_definition (said.seen_function p f) k h = past_function f k h.1
past_definition (said.seen_typed_function p t f) k h = past_function f k h.1.1
past_definition (said.variables t v vs) k h =
    (past_others said.spell_var past_var vs (Sign mark.Semicolon ∷ k) (past_var v (spell_others said.spell_var vs (Sign mark.Semicolon ∷ k)) h.1)).1
past_definition (said.scoped_variables g t v vs) k h =
    (past_others said.spell_var past_var vs (Sign mark.Semicolon ∷ k) (past_var v (spell_others said.spell_var vs (Sign mark.Semicolon ∷ k)) h.1.1)).1
