-- Reading by descent: one function for each symbol of the grammar, which answers what it found, the index of the next token
-- and the tokens from there on, or the first refusal; here for expressions. No promise of a crate is stated by it: it
-- stands between the code, which follows it step by step, and the grammar and the first refused token, which it is
-- proved to agree with. A loop counts down a number that is never used up, since each round takes a token.
use Rattle.std.specs.Prelude.{ℕ, zero, suc, ℤ, Bool, true, false, cond, List, [], ◌∷◌, ◌++◌, length, Option, Some, None, Result, Ok, Err}
use Rattle.ci_tree.specs.declared.token.TokenKind.{TokenKind}
use Rattle.ci_tree.specs.declared.token.TokenKind.TheVariants.{Name, Keyword, Number, Text, Hashes, Sign}
use Rattle.ci_tree.specs.declared.token.Keyword.TheVariants as words
use Rattle.ci_tree.specs.declared.token.Sign.TheVariants as mark
use Rattle.ci_tree.specs.declared.tree.TypeName.{TypeName}
use Rattle.ci_base.specs.declared.relation.Relation.{Relation}
use Rattle.ci_tree.specs.Tree as to
use Rattle.ci_tree.specs.Tree.{Expr, Links, Exprs}
use Rattle.ci_tree.specs.Grammar.{Tokens, chained, begun_at}
use Rattle.ci_tree.specs.Refused as ask
use Rattle.ci_tree.specs.Refused.{Refusal, unexpected, unexpected_end, too_deep, begins, is_sign, type_of_token, relation_of_token, Joint, no_joint, by_operator, by_colon, joint}

-- What was found, the index of the next token, and the tokens from there on.
abbrev pub Found : Type 0 → Type 0
Found V = Result (V × ℕ × Tokens) Refusal

abbrev pub Reader : Type 0 → Type 0
Reader V = ℕ → Tokens → Found V

infixl 10 ◌>>=◌
abbrev pub ◌>>=◌ : {A B : Type 0} → Result A Refusal → (A → Result B Refusal) → Result B Refusal
(Ok x) >>= f = f x
(Err e) >>= f = Err e

-- one token that passes a test
abbrev pub expect : (TokenKind → Bool) → ℕ → Tokens → Result (ℕ × Tokens) Refusal
expect test i [] = Err unexpected_end
expect test i (t ∷ ts) = cond (test t) (Ok (suc i, ts)) (Err (unexpected i))

abbrev pub name_at : Reader (List ℕ)
name_at i [] = Err unexpected_end
name_at i (Name x ∷ ts) = Ok (x, suc i, ts)
name_at i (t ∷ ts) = Err (unexpected i)

abbrev pub number_at : Reader ℤ
number_at i [] = Err unexpected_end
number_at i (Number v ∷ ts) = Ok (v, suc i, ts)
number_at i (t ∷ ts) = Err (unexpected i)

abbrev pub hashes_at : Reader ℕ
hashes_at i [] = Err unexpected_end
hashes_at i (Hashes n ∷ ts) = Ok (n, suc i, ts)
hashes_at i (t ∷ ts) = Err (unexpected i)

abbrev pub type_by : ℕ → Tokens → Option TypeName → Found TypeName
type_by i ts (Some t) = Ok (t, suc i, ts)
type_by i ts None = Err (unexpected i)

abbrev pub type_at : Reader TypeName
type_at i [] = Err unexpected_end
type_at i (t ∷ ts) = type_by i ts (type_of_token t)

abbrev pub relation_by : ℕ → Tokens → Option Relation → Found Relation
relation_by i ts (Some r) = Ok (r, suc i, ts)
relation_by i ts None = Err (unexpected i)

abbrev pub relation_at : Reader Relation
relation_at i [] = Err unexpected_end
relation_at i (t ∷ ts) = relation_by i ts (relation_of_token t)

-- Members with commas between them

-- { "," member }
abbrev pub others : {V : Type 0} → Reader V → ℕ → Reader (List V)
others member zero i ts = Ok ([], i, ts)
others member (suc fuel) i ts =
    cond (begins (ask.sign mark.Comma) ts)
    (do
      comma ← expect (is_sign mark.Comma) i ts
      m ← member comma.0 comma.1
      ms ← others member fuel m.1 m.2
      Ok (m.0 ∷ ms.0, ms.1, ms.2))
    (Ok ([], i, ts))

-- member { "," member }
abbrev pub members : {V : Type 0} → Reader V → Reader (List V)
members member i ts = do
  m ← member i ts
  ms ← others member (length m.2) m.1 m.2
  Ok (m.0 ∷ ms.0, ms.1, ms.2)

-- Expressions

-- the next member of a chain, by what joins it, and then the members behind it
abbrev pub rest_by : Reader Expr → Reader Links → ℕ → Tokens → TokenKind → Joint → Found Links
rest_by member behind i ts t no_joint = Ok (to.no_link, i, t ∷ ts)
rest_by member behind i ts t (by_operator op) = do
  e ← member (suc i) ts
  links ← behind e.1 e.2
  Ok (to.operand i op e.0 links.0, links.1, links.2)
rest_by member behind i ts t by_colon = do
  count ← hashes_at (suc i) ts
  links ← behind count.1 count.2
  Ok (to.hashes i count.0 links.0, links.1, links.2)

abbrev pub rest : Reader Expr → ℕ → ℕ → Reader Links
rest member n zero i ts = Ok (to.no_link, i, ts)
rest member n (suc fuel) i [] = Ok (to.no_link, i, [])
rest member n (suc fuel) i (t ∷ ts) = rest_by member (rest member n fuel) i ts t (joint n t)

-- a chain of group n behind its first member, which starts at the token of index start, or that member alone
abbrev pub chain_behind : Reader Expr → ℕ → ℕ → Expr → Reader Expr
chain_behind member n start first i ts = do
  links ← rest member n (length ts) i ts
  Ok (chained start first i links.0, links.1, links.2)

abbrev pub level_on : Reader Expr → ℕ → Reader Expr
level_on base zero i ts = base i ts
level_on base (suc n) i ts = do
  first ← level_on base n i ts
  chain_behind (level_on base n) n i first.0 first.1 first.2

abbrev pub more_arguments : Reader Expr → ℕ → Reader Exprs
more_arguments member zero i ts = Ok (to.no_expr, i, ts)
more_arguments member (suc fuel) i ts =
    cond (begins (ask.sign mark.Comma) ts)
    (do
      comma ← expect (is_sign mark.Comma) i ts
      e ← member comma.0 comma.1
      others ← more_arguments member fuel e.1 e.2
      Ok (to.more e.0 others.0, others.1, others.2))
    (Ok (to.no_expr, i, ts))

-- the arguments between the parentheses
abbrev pub arguments : Reader Expr → Reader Exprs
arguments member i ts =
    cond (begins ask.arguments ts)
    (do
      e ← member i ts
      others ← more_arguments member (length e.2) e.1 e.2
      Ok (to.more e.0 others.0, others.1, others.2))
    (Ok (to.no_expr, i, ts))

-- what is read with one level fewer, where a level is free; its token is the one before this index
abbrev pub deeper : {V : Type 0} → ℕ → Option (Reader Expr) → (Reader Expr → Found V) → Found V
deeper i None inside = Err (too_deep i)
deeper i (Some base) inside = inside base

-- a member of the loosest level, over a reader of Unary
unfoldable pub whole : Reader Expr → Reader Expr
whole base = level_on base 8

-- a call of x, whose name is at this index, behind the parenthesis
abbrev pub called : Reader Expr → (at : ℕ) → List ℕ → Reader Expr
called inside at x i ts = do
  args ← arguments (whole inside) i ts
  closed ← expect (is_sign mark.RightParen) args.1 args.2
  Ok (to.expr at at (to.call x args.0), closed.0, closed.1)

-- what stands behind a name: arguments or an index or nothing
abbrev pub suffix : Option (Reader Expr) → (at : ℕ) → List ℕ → Reader Expr
suffix base at x i (Sign mark.LeftParen ∷ ts) = deeper i base (λ inside. called inside at x (suc i) ts)
suffix base at x i (Sign mark.LeftBracket ∷ ts) = deeper i base (λ inside. do
  e ← whole inside (suc i) ts
  closed ← expect (is_sign mark.RightBracket) e.1 e.2
  Ok (to.expr at at (to.element x e.0), closed.0, closed.1))
suffix base at x i ts = Ok (to.expr at at (to.name x), i, ts)

-- Unary; the reader of Unary with one level fewer is given, where a level is free
abbrev pub unary_on : Option (Reader Expr) → Reader Expr
unary_on base i [] = Err unexpected_end
unary_on base i (Sign mark.Minus ∷ ts) = deeper i base (λ inside. do
  u ← inside (suc i) ts
  Ok (to.expr i i (to.unary true u.0), u.1, u.2))
unary_on base i (Keyword words.Not ∷ ts) = deeper i base (λ inside. do
  u ← inside (suc i) ts
  Ok (to.expr i i (to.unary false u.0), u.1, u.2))
unary_on base i (Number v ∷ ts) = Ok (to.expr i i (to.number v), suc i, ts)
unary_on base i (Text t ∷ ts) = Ok (to.expr i i (to.literal t), suc i, ts)
unary_on base i (Sign mark.LeftParen ∷ ts) = deeper i base (λ inside. do
  e ← whole inside (suc i) ts
  closed ← expect (is_sign mark.RightParen) e.1 e.2
  Ok (begun_at i e.0, closed.0, closed.1))
unary_on base i (Name x ∷ ts) = suffix base i x (suc i) ts
unary_on base i (t ∷ ts) = Err (unexpected i)

abbrev pub unary : ℕ → Reader Expr
unary zero = unary_on None
unary (suc free) = unary_on (Some (unary free))

abbrev pub expression : ℕ → Reader Expr
expression free = whole (unary free)

-- the reader of Unary with one level fewer, where a level is free
abbrev pub base_of : ℕ → Option (Reader Expr)
base_of zero = None
base_of (suc free) = Some (unary free)

-- Loops, as the code has them: a step finds one more member and the place behind it, or none

abbrev pub Step : Type 0 → Type 0
Step X = ℕ → Tokens → Result (Option (X × ℕ × Tokens)) Refusal

-- what comes of a step: the members that another gathers behind it
abbrev pub gathered : {X : Type 0} → ℕ → Tokens → Reader (List X) → Option (X × ℕ × Tokens) → Found (List X)
gathered i ts behind None = Ok ([], i, ts)
gathered i ts behind (Some x) = do
  xs ← behind x.1 x.2
  Ok (x.0 ∷ xs.0, xs.1, xs.2)

abbrev pub gather : {X : Type 0} → Step X → ℕ → Reader (List X)
gather step zero i ts = Ok ([], i, ts)
gather step (suc fuel) i ts = do
  x ← step i ts
  gathered i ts (gather step fuel) x

-- members that were gathered before, and those that are gathered now
abbrev pub with_front : {X : Type 0} → List X → Found (List X) → Found (List X)
with_front front found = do
  xs ← found
  Ok (front ++ xs.0, xs.1, xs.2)

-- another value of what was found
abbrev pub with_value : {X Y : Type 0} → (X → Y) → Found X → Found Y
with_value f found = do
  x ← found
  Ok (f x.0, x.1, x.2)

abbrev pub link_by : Reader Expr → ℕ → Tokens → Joint → Result (Option (to.Link × ℕ × Tokens)) Refusal
link_by member i ts no_joint = Ok None
link_by member i ts (by_operator op) = do
  e ← member (suc i) ts
  Ok (Some (to.operand_link i op e.0, e.1, e.2))
link_by member i ts by_colon = do
  count ← hashes_at (suc i) ts
  Ok (Some (to.hashes_link i count.0, count.1, count.2))

-- one more member of a chain of group n
abbrev pub link_at : Reader Expr → ℕ → Step to.Link
link_at member n i [] = Ok None
link_at member n i (t ∷ ts) = link_by member i ts (joint n t)

-- one more member behind a comma
abbrev pub comma_step : {X : Type 0} → Reader X → Step X
comma_step member i ts =
    cond (begins (ask.sign mark.Comma) ts)
    (do
      comma ← expect (is_sign mark.Comma) i ts
      m ← member comma.0 comma.1
      Ok (Some m))
    (Ok None)
