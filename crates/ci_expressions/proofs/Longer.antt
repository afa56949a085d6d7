-- A text is no shorter than what follows it.
use Rattle.std.proofs.Common.{suc, ◌≤◌, List, [], ◌∷◌, length, arith}
use Rattle.ci_tree.specs.declared.token.TokenKind.TheVariants.{Keyword, Sign}
use Rattle.ci_tree.specs.declared.token.Keyword.TheVariants as words
use Rattle.ci_tree.specs.declared.token.Sign.TheVariants as mark
use Rattle.ci_tree.specs.Grammar as said
use Rattle.ci_tree.specs.Grammar.{Tokens, Level, single, group, Rest, no_rest, joined, formed, Unary, minus, not, number, text, parens, name, called, element, Args, no_args, args, MoreArgs, no_more_args, comma_arg, spell_level, spell_rest, spell_unary, spell_args, spell_more_args, Label, spell_label, Local, spell_local, plain_local, valued_local, one, range, compared, spell_others}

mutual
  pub longer_level : (e : Level) (k : Tokens) → length k ≤ length (spell_level e k)
  longer_level (single u) k = longer_unary u k
  longer_level (group first rest) k = omega (arith, longer_level first (spell_rest rest k), longer_rest rest k)

  pub longer_rest : (r : Rest) (k : Tokens) → length k ≤ length (spell_rest r k)
  longer_rest no_rest k = omega arith
  longer_rest (joined op right rest) k = omega (arith, longer_level right (spell_rest rest k), longer_rest rest k)
  longer_rest (formed count rest) k = omega (arith, longer_rest rest k)

  pub longer_unary : (u : Unary) (k : Tokens) → length k ≤ length (spell_unary u k)
  longer_unary (minus u) k = omega (arith, longer_unary u k)
  longer_unary (not u) k = omega (arith, longer_unary u k)
  longer_unary (number v) k = omega arith
  longer_unary (text t) k = omega arith
  longer_unary (parens e) k = omega (arith, longer_level e (Sign mark.RightParen ∷ k))
  longer_unary (name x) k = omega arith
  longer_unary (called x a) k = omega (arith, longer_args a (Sign mark.RightParen ∷ k))
  longer_unary (element x e) k = omega (arith, longer_level e (Sign mark.RightBracket ∷ k))

  pub longer_args : (a : Args) (k : Tokens) → length k ≤ length (spell_args a k)
  longer_args no_args k = omega arith
  longer_args (args e rest) k = omega (arith, longer_level e (spell_more_args rest k), longer_more_args rest k)

  pub longer_more_args : (a : MoreArgs) (k : Tokens) → length k ≤ length (spell_more_args a k)
  longer_more_args no_more_args k = omega arith
  longer_more_args (comma_arg e rest) k = omega (arith, longer_level e (spell_more_args rest k), longer_more_args rest k)

pub longer_local : (l : Local) (k : Tokens) → length k ≤ length (spell_local l k)
longer_local (plain_local x) k = omega arith
longer_local (valued_local x e) k = omega (arith, longer_level e k)

pub longer_label : (l : Label) (k : Tokens) → length k ≤ length (spell_label l k)
longer_label (one e) k = longer_level e k
longer_label (range a b) k = omega (arith, longer_level a (Keyword words.To ∷ spell_level b k), longer_level b k)
longer_label (compared r e) k = omega (arith, longer_level e k)

-- for members of which this holds
pub longer_others : {M : Type 0} (spell : M → Tokens → Tokens) → ((m : M) (k : Tokens) → length k ≤ length (spell m k)) → (ms : List M) (k : Tokens) → length k ≤ length (spell_others spell ms k)
longer_others spell each [] k = omega arith
longer_others spell each (m ∷ ms) k = omega (arith, each m (spell_others spell ms k), longer_others spell each ms k)

mutual
  pub longer_statement : (s : said.Statement) (k : Tokens) → length k ≤ length (said.spell_statement s k)
  longer_statement said.empty k = omega arith
  longer_statement (said.declared t l ls) k = omega (arith, longer_local l (spell_others spell_local ls (Sign mark.Semicolon ∷ k)), longer_others spell_local longer_local ls (Sign mark.Semicolon ∷ k))
  longer_statement (said.call_of x a) k = omega (arith, longer_args a (Sign mark.RightParen ∷ Sign mark.Semicolon ∷ k))
  longer_statement (said.assigned x e) k = omega (arith, longer_level e (Sign mark.Semicolon ∷ k))
  longer_statement (said.element_assigned x i e) k = omega (arith, longer_level i (Sign mark.RightBracket ∷ Sign mark.Equal ∷ spell_level e (Sign mark.Semicolon ∷ k)), longer_level e (Sign mark.Semicolon ∷ k))
  longer_statement (said.choice e b o) k = omega (arith, longer_level e (Keyword words.Then ∷ said.spell_body b (said.spell_else o (Keyword words.End ∷ k))), longer_body b (said.spell_else o (Keyword words.End ∷ k)), longer_else o (Keyword words.End ∷ k))
  longer_statement (said.loop e b) k = omega (arith, longer_level e (Keyword words.Do ∷ said.spell_body b (Keyword words.End ∷ k)), longer_body b (Keyword words.End ∷ k))
  longer_statement (said.count x e f b) k = omega (arith, longer_level e (Keyword words.To ∷ spell_level f (Keyword words.Do ∷ said.spell_body b (Keyword words.End ∷ k))), longer_level f (Keyword words.Do ∷ said.spell_body b (Keyword words.End ∷ k)), longer_body b (Keyword words.End ∷ k))
  longer_statement (said.selection e c) k = omega (arith, longer_level e (said.spell_cases c k), longer_cases c k)
  longer_statement said.return_none k = omega arith
  longer_statement (said.return_value e) k = omega (arith, longer_level e (Sign mark.Semicolon ∷ k))

  pub longer_else : (o : said.Else) (k : Tokens) → length k ≤ length (said.spell_else o k)
  longer_else said.no_else k = omega arith
  longer_else (said.else b) k = omega (arith, longer_body b k)

  pub longer_cases : (c : said.Cases) (k : Tokens) → length k ≤ length (said.spell_cases c k)
  longer_cases said.end_select k = omega arith
  longer_cases (said.case_else b) k = omega (arith, longer_body b (Keyword words.End ∷ Keyword words.Select ∷ k))
  longer_cases (said.case l ls b c) k = omega (arith, longer_label l (spell_others spell_label ls (said.spell_body b (said.spell_cases c k))), longer_others spell_label longer_label ls (said.spell_body b (said.spell_cases c k)), longer_body b (said.spell_cases c k), longer_cases c k)

  pub longer_body : (b : said.Body) (k : Tokens) → length k ≤ length (said.spell_body b k)
  longer_body said.end k = omega arith
  longer_body (said.then s b) k = omega (arith, longer_statement s (said.spell_body b k), longer_body b k)

pub longer_first : (v : said.FirstValue) (k : Tokens) → length k ≤ length (said.spell_first v k)
longer_first (said.positive v) k = omega arith
longer_first (said.negative v) k = omega arith
longer_first (said.literal t) k = omega arith

pub longer_var : (v : said.Var) (k : Tokens) → length k ≤ length (said.spell_var v k)
longer_var (said.plain_var x) k = omega arith
longer_var (said.array_var x n) k = omega arith
longer_var (said.valued_var x v) k = omega (arith, longer_first v k)

pub longer_parameter : (p : said.Parameter) (k : Tokens) → length k ≤ length (said.spell_parameter p k)
longer_parameter (said.plain_parameter t x) k = omega arith
longer_parameter (said.valued_parameter t x v) k = omega (arith, longer_first v k)

pub longer_parameters : (ps : said.Parameters) (k : Tokens) → length k ≤ length (said.spell_parameters ps k)
longer_parameters said.no_parameters k = omega arith
longer_parameters (said.parameters p ps) k = omega (arith, longer_parameter p (spell_others said.spell_parameter ps k), longer_others said.spell_parameter longer_parameter ps k)

-- a function and an item are longer
pub longer_function : (f : said.Function) (k : Tokens) → suc (length k) ≤ length (said.spell_function f k)
longer_function (said.function x ps b) k = omega (arith, longer_parameters ps (Sign mark.RightParen ∷ said.spell_body b (Keyword words.End ∷ k)), longer_body b (Keyword words.End ∷ k))

pub longer_definition : (d : said.Definition) (k : Tokens) → suc (length k) ≤ length (said.spell_definition d k)
longer_definition said.blank k = omega arith
longer_definition (said.plain_function f) k = longer_function f k
longer_definition (said.typed_function t f) k = omega (arith, longer_function f k)
longer_definition (said.seen_function p f) k = omega (arith, longer_function f k)
longer_definition (said.seen_typed_function p t f) k = omega (arith, longer_function f k)
longer_definition (said.variables t v vs) k = omega (arith, longer_var v (spell_others said.spell_var vs (Sign mark.Semicolon ∷ k)), longer_others said.spell_var longer_var vs (Sign mark.Semicolon ∷ k))
longer_definition (said.scoped_variables g t v vs) k = omega (arith, longer_var v (spell_others said.spell_var vs (Sign mark.Semicolon ∷ k)), longer_others said.spell_var longer_var vs (Sign mark.Semicolon ∷ k))

-- a statement that begins a body is longer than what follows it
pub longer_then : (s : said.Statement) (k : Tokens) → suc (length k) ≤ length (said.spell_statement s k)
longer_then said.empty k = omega arith
longer_then (said.declared t l ls) k = omega (arith, longer_local l (spell_others spell_local ls (Sign mark.Semicolon ∷ k)), longer_others spell_local longer_local ls (Sign mark.Semicolon ∷ k))
longer_then (said.call_of x a) k = omega (arith, longer_args a (Sign mark.RightParen ∷ Sign mark.Semicolon ∷ k))
longer_then (said.assigned x e) k = omega (arith, longer_level e (Sign mark.Semicolon ∷ k))
longer_then (said.element_assigned x i e) k = omega (arith, longer_level i (Sign mark.RightBracket ∷ Sign mark.Equal ∷ spell_level e (Sign mark.Semicolon ∷ k)), longer_level e (Sign mark.Semicolon ∷ k))
longer_then (said.choice e b o) k = omega (arith, longer_level e (Keyword words.Then ∷ said.spell_body b (said.spell_else o (Keyword words.End ∷ k))), longer_body b (said.spell_else o (Keyword words.End ∷ k)), longer_else o (Keyword words.End ∷ k))
longer_then (said.loop e b) k = omega (arith, longer_level e (Keyword words.Do ∷ said.spell_body b (Keyword words.End ∷ k)), longer_body b (Keyword words.End ∷ k))
longer_then (said.count x e f b) k = omega (arith, longer_level e (Keyword words.To ∷ spell_level f (Keyword words.Do ∷ said.spell_body b (Keyword words.End ∷ k))), longer_level f (Keyword words.Do ∷ said.spell_body b (Keyword words.End ∷ k)), longer_body b (Keyword words.End ∷ k))
longer_then (said.selection e c) k = omega (arith, longer_level e (said.spell_cases c k), longer_cases c k)
longer_then said.return_none k = omega arith
longer_then (said.return_value e) k = omega (arith, longer_level e (Sign mark.Semicolon ∷ k))
