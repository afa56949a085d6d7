-- Reading by descent, as of expressions, for statements and items: one function for each symbol of the grammar.
use Rattle.std.specs.Prelude.{ℕ, zero, suc, Bool, true, false, cond, not, ◌&&◌, List, [], ◌∷◌, ◌++◌, length, Option, Some, None, Result, Ok, Err}
use Rattle.std.specs.Int.{w32, int_wrapping_neg}
use Rattle.ci_tree.specs.declared.token.TokenKind.{TokenKind}
use Rattle.ci_tree.specs.declared.token.TokenKind.TheVariants.{Name, Keyword, Number, Text, Sign}
use Rattle.ci_tree.specs.declared.token.Keyword as of_keyword
use Rattle.ci_tree.specs.declared.token.Keyword.TheVariants as words
use Rattle.ci_tree.specs.declared.token.Sign.TheVariants as mark
use Rattle.ci_tree.specs.declared.tree.TypeName.{TypeName}
use Rattle.ci_tree.specs.declared.tree.TypeAt.{TypeAt}
use Rattle.ci_tree.specs.declared.tree.Const.{Const}
use Rattle.ci_tree.specs.declared.tree.Const.TheVariants as consts
use Rattle.ci_tree.specs.declared.tree.Param.{Param}
use Rattle.ci_tree.specs.Tree as to
use Rattle.ci_tree.specs.Tree.{Expr, Block, Other, Clauses, Item, Stmt}
use Rattle.ci_tree.specs.Grammar.{Tokens, CasesTree, with_clause, stmt_then}
use Rattle.ci_tree.specs.Refused as ask
use Rattle.ci_tree.specs.Refused.{Refusal, unexpected, unexpected_end, too_deep, begins, is_keyword, is_sign, type_of_token}
pub use Rattle.ci_expressions.specs.Reading.{Found, Reader, ◌>>=◌, expect, name_at, number_at, type_at, relation_at, others, members, arguments, expression, gather, with_front, comma_step}

-- Locals and labels

abbrev pub local_end : Reader Expr → ℕ → List ℕ → Reader to.Local
local_end expression at x i ts =
    cond (begins ask.local_end ts)
    (do
      equal ← expect (is_sign mark.Equal) i ts
      e ← expression equal.0 equal.1
      Ok (record { at = at; name = x; value = Some e.0 }, e.1, e.2))
    (Ok (record { at = at; name = x; value = None }, i, ts))

abbrev pub local : Reader Expr → Reader to.Local
local expression i ts = do
  x ← name_at i ts
  local_end expression i x.0 x.1 x.2

-- [ "TO" Expr ], behind a value
abbrev pub label_end : Reader Expr → Expr → Reader to.Label
label_end expression low i ts =
    cond (begins ask.label_end ts)
    (do
      word ← expect (is_keyword words.To) i ts
      high ← expression word.0 word.1
      Ok (to.range low high.0, high.1, high.2))
    (Ok (to.one low, i, ts))

abbrev pub begins_with : of_keyword.Keyword → Tokens → Bool
begins_with k ts = begins (ask.keyword k) ts

abbrev pub label : Reader Expr → Reader to.Label
label expression i ts =
    cond (begins_with words.Is ts)
    (do
      word ← expect (is_keyword words.Is) i ts
      r ← relation_at word.0 word.1
      e ← expression r.1 r.2
      Ok (to.compared i r.0 e.0, e.1, e.2))
    (do
      low ← expression i ts
      label_end expression low.0 low.1 low.2)

-- Statements

-- the readers of expressions and bodies inside a construct that opens a level
pub record Inside : Type 0 where
  pub expression : ℕ → Tokens → Result (Expr × ℕ × Tokens) Refusal
  pub body : ℕ → Tokens → Result (Block × ℕ × Tokens) Refusal

abbrev pub opened : {V : Type 0} → ℕ → Option Inside → (Inside → Found V) → Found V
opened i None read = Err (too_deep i)
opened i (Some inside) read = read inside

-- [ "ELSE" Body ]
abbrev pub else_part : Inside → Reader Other
else_part inside i ts =
    cond (begins ask.else ts)
    (do
      word ← expect (is_keyword words.Else) i ts
      b ← inside.body word.0 word.1
      Ok (to.other b.0, b.1, b.2))
    (Ok (to.no_other, i, ts))

-- behind IF, which is the token at this index
abbrev pub choice : ℕ → Inside → Reader Stmt
choice at inside i ts = do
  e ← inside.expression i ts
  then_word ← expect (is_keyword words.Then) e.1 e.2
  b ← inside.body then_word.0 then_word.1
  o ← else_part inside b.1 b.2
  end_word ← expect (is_keyword words.End) o.1 o.2
  Ok (to.choose at e.0 b.0 o.0, end_word.0, end_word.1)

-- behind WHILE
abbrev pub loop : ℕ → Inside → Reader Stmt
loop at inside i ts = do
  e ← inside.expression i ts
  do_word ← expect (is_keyword words.Do) e.1 e.2
  b ← inside.body do_word.0 do_word.1
  end_word ← expect (is_keyword words.End) b.1 b.2
  Ok (to.while at e.0 b.0, end_word.0, end_word.1)

-- behind FOR
abbrev pub count : ℕ → Inside → Reader Stmt
count at inside i ts = do
  x ← name_at i ts
  equal ← expect (is_sign mark.Equal) x.1 x.2
  e ← inside.expression equal.0 equal.1
  to_word ← expect (is_keyword words.To) e.1 e.2
  f ← inside.expression to_word.0 to_word.1
  do_word ← expect (is_keyword words.Do) f.1 f.2
  b ← inside.body do_word.0 do_word.1
  end_word ← expect (is_keyword words.End) b.1 b.2
  Ok (to.for at i x.0 e.0 f.0 b.0, end_word.0, end_word.1)

-- Cases
abbrev pub cases : Inside → ℕ → Reader CasesTree
cases inside zero i ts = Err unexpected_end
cases inside (suc fuel) i ts =
    cond (begins_with words.Case ts)
    (do
      word ← expect (is_keyword words.Case) i ts
      cond (begins_with words.Else word.1)
          (do
            else_word ← expect (is_keyword words.Else) word.0 word.1
            b ← inside.body else_word.0 else_word.1
            end_word ← expect (is_keyword words.End) b.1 b.2
            select_word ← expect (is_keyword words.Select) end_word.0 end_word.1
            Ok (record { clauses = to.no_clause; other = to.other b.0 }, select_word.0, select_word.1))
          (do
            labels ← members (label inside.expression) word.0 word.1
            b ← inside.body labels.1 labels.2
            behind ← cases inside fuel b.1 b.2
            Ok (with_clause i labels.0 b.0 behind.0, behind.1, behind.2)))
    (do
      end_word ← expect (is_keyword words.End) i ts
      select_word ← expect (is_keyword words.Select) end_word.0 end_word.1
      Ok (record { clauses = to.no_clause; other = to.no_other }, select_word.0, select_word.1))

-- behind SELECT
abbrev pub selection : ℕ → Inside → Reader Stmt
selection at inside i ts = do
  case_word ← expect (is_keyword words.Case) i ts
  e ← inside.expression case_word.0 case_word.1
  c ← cases inside (suc (length e.2)) e.1 e.2
  Ok (to.select at e.0 c.0.clauses c.0.other, c.1, c.2)

-- behind a name that a statement begins with: Tail
abbrev pub tail : ℕ → List ℕ → Reader Expr → Option Inside → Reader Stmt
tail at x expression inside i [] = Err unexpected_end
tail at x expression inside i (Sign mark.LeftParen ∷ ts) = opened i inside (λ within. do
  args ← arguments within.expression (suc i) ts
  closed ← expect (is_sign mark.RightParen) args.1 args.2
  Ok (to.call_of at x args.0, closed.0, closed.1))
tail at x expression inside i (Sign mark.LeftBracket ∷ ts) = opened i inside (λ within. do
  index ← within.expression (suc i) ts
  closed ← expect (is_sign mark.RightBracket) index.1 index.2
  equal ← expect (is_sign mark.Equal) closed.0 closed.1
  e ← expression equal.0 equal.1
  Ok (to.assign at x (Some index.0) closed.0 e.0, e.1, e.2))
tail at x expression inside i (Sign mark.Equal ∷ ts) = do
  e ← expression (suc i) ts
  Ok (to.assign at x None i e.0, e.1, e.2)
tail at x expression inside i (t ∷ ts) = Err (unexpected i)

-- [ Expr ] of RETURN, which is the token at this index
abbrev pub returned : ℕ → Reader Expr → Reader Stmt
returned at expression i ts =
    cond (begins ask.returned ts)
    (do
      e ← expression i ts
      Ok (to.return at (Some e.0), e.1, e.2))
    (Ok (to.return at None, i, ts))

-- the same with a `;` behind it
abbrev pub closed : Found Stmt → Found (Option Stmt)
closed found = do
  s ← found
  semicolon ← expect (is_sign mark.Semicolon) s.1 s.2
  Ok (Some s.0, semicolon.0, semicolon.1)

abbrev pub some_stmt : Found Stmt → Found (Option Stmt)
some_stmt found = do
  s ← found
  Ok (Some s.0, s.1, s.2)

-- a statement that begins with no type's word
abbrev pub plain_statement : Reader Expr → Option Inside → Reader (Option Stmt)
plain_statement expression inside i [] = Err unexpected_end
plain_statement expression inside i (Sign mark.Semicolon ∷ ts) = Ok (None, suc i, ts)
plain_statement expression inside i (Name x ∷ ts) = closed (tail i x expression inside (suc i) ts)
plain_statement expression inside i (Keyword words.If ∷ ts) = opened i inside (λ within. some_stmt (choice i within (suc i) ts))
plain_statement expression inside i (Keyword words.While ∷ ts) = opened i inside (λ within. some_stmt (loop i within (suc i) ts))
plain_statement expression inside i (Keyword words.For ∷ ts) = opened i inside (λ within. some_stmt (count i within (suc i) ts))
plain_statement expression inside i (Keyword words.Select ∷ ts) = opened i inside (λ within. some_stmt (selection i within (suc i) ts))
plain_statement expression inside i (Keyword words.Return ∷ ts) = closed (returned i expression (suc i) ts)
plain_statement expression inside i (t ∷ ts) = Err (unexpected i)

-- behind a type's word, which is the token at this index
abbrev pub declared : ℕ → TypeName → Reader Expr → Reader Stmt
declared at t expression i ts = do
  locals ← members (local expression) i ts
  Ok (to.declare at (record { at = at; name = t }) locals.0, locals.1, locals.2)

abbrev pub statement_by : Reader Expr → Option Inside → ℕ → TokenKind → Tokens → Option TypeName → Found (Option Stmt)
statement_by expression inside i t ts (Some kind) = closed (declared i kind expression (suc i) ts)
statement_by expression inside i t ts None = plain_statement expression inside i (t ∷ ts)

abbrev pub statement : Reader Expr → Option Inside → Reader (Option Stmt)
statement expression inside i [] = Err unexpected_end
statement expression inside i (t ∷ ts) = statement_by expression inside i t ts (type_of_token t)

-- { Stmt }
abbrev pub statements : Reader Expr → Option Inside → ℕ → Reader Block
statements expression inside zero i ts = Ok (to.done, i, ts)
statements expression inside (suc fuel) i ts =
    cond (begins ask.body ts)
    (do
      s ← statement expression inside i ts
      b ← statements expression inside fuel s.1 s.2
      Ok (stmt_then s.0 b.0, b.1, b.2))
    (Ok (to.done, i, ts))

abbrev pub body : ℕ → Reader Block
body zero i ts = statements (expression 0) None (length ts) i ts
body (suc free) i ts = statements (expression (suc free)) (Some (record { expression = expression free; body = body free })) (length ts) i ts

-- First values, variables and parameters

-- Const
abbrev pub const : Reader Const
const i [] = Err unexpected_end
const i (Number v ∷ ts) = Ok (consts.Number i v, suc i, ts)
const i (Text t ∷ ts) = Ok (consts.Literal i t, suc i, ts)
const i (Sign mark.Minus ∷ ts) = do
  v ← number_at (suc i) ts
  Ok (consts.Number i (int_wrapping_neg w32 v.0), v.1, v.2)
const i (t ∷ ts) = Err (unexpected i)

-- [ "=" Const ]
abbrev pub first_value : Reader (Option Const)
first_value i ts =
    cond (begins ask.first_value ts)
    (do
      equal ← expect (is_sign mark.Equal) i ts
      v ← const equal.0 equal.1
      Ok (Some v.0, v.1, v.2))
    (Ok (None, i, ts))

-- behind the name of a variable
abbrev pub var_end : Bool → TypeAt → ℕ → List ℕ → Reader Item
var_end global kind at x i ts =
    cond (begins (ask.sign mark.LeftBracket) ts)
    (do
      open_bracket ← expect (is_sign mark.LeftBracket) i ts
      n ← number_at open_bracket.0 open_bracket.1
      close_bracket ← expect (is_sign mark.RightBracket) n.1 n.2
      Ok (to.variable at x global kind (Some (record { at = open_bracket.0; value = n.0 })) None, close_bracket.0, close_bracket.1))
    (do
      v ← first_value i ts
      Ok (to.variable at x global kind None v.0, v.1, v.2))

abbrev pub var : Bool → TypeAt → Reader Item
var global kind i ts = do
  x ← name_at i ts
  var_end global kind i x.0 x.1 x.2

-- Type name [ "=" Const ]
abbrev pub parameter : Reader Param
parameter i ts = do
  t ← type_at i ts
  x ← name_at t.1 t.2
  v ← first_value x.1 x.2
  Ok (record { at = t.1; name = x.0; kind = record { at = i; name = t.0 }; first = v.0 }, v.1, v.2)

abbrev pub parameters : Reader (List Param)
parameters i ts = cond (begins ask.parameters ts) (members parameter i ts) (Ok ([], i, ts))

-- Functions and files

-- behind FUNCTION
abbrev pub function_end : ℕ → Bool → Option TypeAt → Reader Item
function_end free private gives i ts = do
  x ← name_at i ts
  left ← expect (is_sign mark.LeftParen) x.1 x.2
  params ← parameters left.0 left.1
  right ← expect (is_sign mark.RightParen) params.1 params.2
  b ← body free right.0 right.1
  end_word ← expect (is_keyword words.End) b.1 b.2
  Ok (to.function i x.0 private gives params.0 b.0, end_word.0, end_word.1)

-- Func
abbrev pub function : ℕ → Bool → Option TypeAt → Reader Item
function free private gives i ts = do
  word ← expect (is_keyword words.Function) i ts
  function_end free private gives word.0 word.1

abbrev pub one_item : Found Item → Found (List Item)
one_item found = do
  item ← found
  Ok (item.0 ∷ [], item.1, item.2)

-- Var { "," Var } ";"
abbrev pub variables : Bool → TypeAt → Reader (List Item)
variables global kind i ts = do
  vars ← members (var global kind) i ts
  semicolon ← expect (is_sign mark.Semicolon) vars.1 vars.2
  Ok (vars.0, semicolon.0, semicolon.1)

-- Func | Vars ";", behind a type's word
abbrev pub typed : ℕ → TypeAt → Reader (List Item)
typed free kind i ts =
    cond (begins ask.name ts) (variables false kind i ts) (one_item (function free false (Some kind) i ts))

-- [ Type ] Func, behind PRIVATE or PUBLIC
abbrev pub seen : ℕ → Bool → Reader (List Item)
seen free private i ts =
    cond (begins ask.type ts)
    (do
      t ← type_at i ts
      one_item (function free private (Some (record { at = i; name = t.0 })) t.1 t.2))
    (one_item (function free private None i ts))

-- Type Vars ";", behind GLOBAL or MODULE
abbrev pub scoped : Bool → Reader (List Item)
scoped global i ts = do
  t ← type_at i ts
  variables global (record { at = i; name = t.0 }) t.1 t.2

-- an item that begins with no type's word
abbrev pub plain_item : ℕ → Reader (List Item)
plain_item free i [] = Err unexpected_end
plain_item free i (Sign mark.Semicolon ∷ ts) = Ok ([], suc i, ts)
plain_item free i (Keyword words.Private ∷ ts) = seen free true (suc i) ts
plain_item free i (Keyword words.Public ∷ ts) = seen free false (suc i) ts
plain_item free i (Keyword words.Global ∷ ts) = scoped true (suc i) ts
plain_item free i (Keyword words.Module ∷ ts) = scoped false (suc i) ts
plain_item free i (t ∷ ts) = one_item (function free false None i (t ∷ ts))

abbrev pub item_by : ℕ → ℕ → TokenKind → Tokens → Option TypeName → Found (List Item)
item_by free i t ts (Some kind) = typed free (record { at = i; name = kind }) (suc i) ts
item_by free i t ts None = plain_item free i (t ∷ ts)

abbrev pub item : ℕ → Reader (List Item)
item free i [] = Err unexpected_end
item free i (t ∷ ts) = item_by free i t ts (type_of_token t)

-- { Item }, up to the end of the tokens
abbrev pub items : ℕ → ℕ → ℕ → Tokens → Result (List Item) Refusal
items free fuel i [] = Ok []
items free zero i (t ∷ ts) = Err (unexpected i)
items free (suc fuel) i (t ∷ ts) = do
  is ← item free i (t ∷ ts)
  others ← items free fuel is.1 is.2
  Ok (is.0 ++ others)

-- Items, statements and clauses, as the code has them

-- items that were read before, and those that are read now
abbrev pub items_with : List Item → Result (List Item) Refusal → Result (List Item) Refusal
items_with front found = do
  is ← found
  Ok (front ++ is)

-- the readers inside a construct, where so many levels are free
abbrev pub within : ℕ → Inside
within free = record { expression = expression free; body = body free }

-- the same one level further in, where a level is free
abbrev pub inside_of : ℕ → Option Inside
inside_of zero = None
inside_of (suc free) = Some (within free)

-- a call that stands alone, behind the parenthesis; its name is at this index
abbrev pub call_alone : Reader Expr → (at : ℕ) → List ℕ → Reader Stmt
call_alone expression at x i ts = do
  args ← arguments expression i ts
  closed ← expect (is_sign mark.RightParen) args.1 args.2
  Ok (to.call_of at x args.0, closed.0, closed.1)

-- an assignment to an element, behind the bracket
abbrev pub element_assigned : Reader Expr → Reader Expr → (at : ℕ) → List ℕ → Reader Stmt
element_assigned expression within at x i ts = do
  index ← within i ts
  closed ← expect (is_sign mark.RightBracket) index.1 index.2
  equal ← expect (is_sign mark.Equal) closed.0 closed.1
  e ← expression equal.0 equal.1
  Ok (to.assign at x (Some index.0) closed.0 e.0, e.1, e.2)

-- a clause with labels is next
abbrev pub begins_clause : Tokens → Bool
begins_clause [] = false
begins_clause (t ∷ ts) = is_keyword words.Case t && not (begins_with words.Else ts)

-- a clause with labels
abbrev pub clause : Inside → Reader to.Clause
clause inside i ts = do
  word ← expect (is_keyword words.Case) i ts
  labels ← members (label inside.expression) word.0 word.1
  b ← inside.body labels.1 labels.2
  Ok (record { at = i; labels = labels.0; body = b.0 }, b.1, b.2)

-- [ "CASE" "ELSE" Body ], behind the clauses with labels
abbrev pub case_else : Inside → Reader Other
case_else inside i ts =
    cond (begins_with words.Case ts)
    (do
      word ← expect (is_keyword words.Case) i ts
      else_word ← expect (is_keyword words.Else) word.0 word.1
      b ← inside.body else_word.0 else_word.1
      Ok (to.other b.0, b.1, b.2))
    (Ok (to.no_other, i, ts))

-- what stands behind the clauses with labels
abbrev pub cases_end : Inside → Reader Other
cases_end inside i ts = do
  o ← case_else inside i ts
  end_word ← expect (is_keyword words.End) o.1 o.2
  select_word ← expect (is_keyword words.Select) end_word.0 end_word.1
  Ok (o.0, select_word.0, select_word.1)

-- clauses, and what stands behind them
abbrev pub cases_of : Clauses → Other → CasesTree
cases_of clauses behind = record { clauses = clauses; other = behind }
