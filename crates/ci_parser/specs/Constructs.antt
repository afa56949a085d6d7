-- Statements that open a level, as the code tells them from the others and reads them.
use Rattle.std.specs.Prelude.{ℕ, suc, List, [], ◌∷◌, Option, Some, None, Ok, Err, option_map}
use Rattle.ci_tree.specs.declared.token.TokenKind.{TokenKind}
use Rattle.ci_tree.specs.declared.token.TokenKind.TheVariants.{Name, Keyword, Sign}
use Rattle.ci_tree.specs.declared.token.Keyword.{Keyword as Word}
use Rattle.ci_tree.specs.declared.token.Keyword.TheVariants as words
use Rattle.ci_tree.specs.declared.token.Sign.TheVariants as mark
use Rattle.ci_tree.specs.declared.tree.TypeName.{TypeName}
use Rattle.ci_tree.specs.Tree as to
use Rattle.ci_tree.specs.Tree.{Expr, Stmt, Block, Other}
use Rattle.ci_tree.specs.Grammar.{Tokens}
use Rattle.ci_tree.specs.Refused.{unexpected, unexpected_end, is_keyword, is_sign, type_of_token}
use Rattle.ci_parser.specs.declared.statements.Construct.{Construct}
use Rattle.ci_parser.specs.declared.statements.Construct.TheVariants as constructs
use Rattle.ci_parser.specs.Reading.{Found, Reader, Inside, ◌>>=◌, expect, name_at, else_part, selection, tail, returned, declared, closed}

-- the construct whose word the token is
abbrev pub construct_of : TokenKind → Option Construct
construct_of (Keyword words.If) = Some constructs.If
construct_of (Keyword words.While) = Some constructs.While
construct_of (Keyword words.For) = Some constructs.For
construct_of (Keyword words.Select) = Some constructs.Select
construct_of t = None

-- the construct whose word is next, the index behind its word, and the tokens from there on
abbrev pub construct_at : ℕ → Tokens → Option (Construct × ℕ × Tokens)
construct_at i [] = None
construct_at i (t ∷ ts) = option_map (λ c. (c, suc i, ts)) (construct_of t)

-- what was found, and this word behind it
unfoldable pub before_word : {V : Type 0} → Found V → Word → Found V
before_word found k = do
  v ← found
  word ← expect (is_keyword k) v.1 v.2
  Ok (v.0, word.0, word.1)

-- the two branches of IF, and END
abbrev pub branches : Inside → Reader (Block × Other)
branches inside i ts = do
  b ← inside.body i ts
  o ← else_part inside b.1 b.2
  end_word ← expect (is_keyword words.End) o.1 o.2
  Ok ((b.0, o.0), end_word.0, end_word.1)

-- behind IF, which is the token at this index
abbrev pub choice : ℕ → Inside → Reader Stmt
choice at inside i ts = do
  e ← before_word (inside.expression i ts) words.Then
  b ← branches inside e.1 e.2
  Ok (to.choose at e.0 b.0.0 b.0.1, b.1, b.2)

-- behind WHILE
abbrev pub loop : ℕ → Inside → Reader Stmt
loop at inside i ts = do
  e ← before_word (inside.expression i ts) words.Do
  b ← before_word (inside.body e.1 e.2) words.End
  Ok (to.while at e.0 b.0, b.1, b.2)

-- the name and the bounds of FOR, up to DO
abbrev pub counted : Reader Expr → Reader (List ℕ × Expr × Expr)
counted expression i ts = do
  x ← name_at i ts
  equal ← expect (is_sign mark.Equal) x.1 x.2
  e ← before_word (expression equal.0 equal.1) words.To
  f ← before_word (expression e.1 e.2) words.Do
  Ok ((x.0, e.0, f.0), f.1, f.2)

-- behind FOR
abbrev pub count : ℕ → Inside → Reader Stmt
count at inside i ts = do
  c ← counted inside.expression i ts
  b ← before_word (inside.body c.1 c.2) words.End
  Ok (to.for at i c.0.0 c.0.1 c.0.2 b.0, b.1, b.2)

-- behind the word of a construct, which is the token at this index
abbrev pub behind_word : Construct → ℕ → Inside → Reader Stmt
behind_word constructs.If at inside i ts = choice at inside i ts
behind_word constructs.While at inside i ts = loop at inside i ts
behind_word constructs.For at inside i ts = count at inside i ts
behind_word constructs.Select at inside i ts = selection at inside i ts

-- a statement that begins with no type's word and is no construct
abbrev pub plain_simple : Reader Expr → Option Inside → Reader (Option Stmt)
plain_simple expression inside i [] = Err unexpected_end
plain_simple expression inside i (Sign mark.Semicolon ∷ ts) = Ok (None, suc i, ts)
plain_simple expression inside i (Name x ∷ ts) = closed (tail i x expression inside (suc i) ts)
plain_simple expression inside i (Keyword words.Return ∷ ts) = closed (returned i expression (suc i) ts)
plain_simple expression inside i (t ∷ ts) = Err (unexpected i)

abbrev pub simple_by : Reader Expr → Option Inside → ℕ → TokenKind → Tokens → Option TypeName → Found (Option Stmt)
simple_by expression inside i t ts (Some kind) = closed (declared i kind expression (suc i) ts)
simple_by expression inside i t ts None = plain_simple expression inside i (t ∷ ts)

-- a statement that is no construct
abbrev pub simple : Reader Expr → Option Inside → Reader (Option Stmt)
simple expression inside i [] = Err unexpected_end
simple expression inside i (t ∷ ts) = simple_by expression inside i t ts (type_of_token t)
