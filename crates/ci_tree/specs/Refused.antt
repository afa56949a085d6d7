-- The first token that is refused.
--
-- The grammar again, as a reader meets it with one token ahead: a list of the symbols that are still to be read, each
-- with the number of levels that are free at its place. The next token chooses the rule of the front symbol, and each rule
-- begins with that very token, so that a step takes a token off. A symbol that can be empty is dropped where the
-- token begins none of its rules. This is a definition apart from the grammar: that both agree is proved.
use Rattle.std.specs.Prelude.{ℕ, zero, suc, Bool, true, false, cond, ◌&&◌, eqb, List, [], ◌∷◌, ◌++◌, Option, Some, None}
use Rattle.ci_tree.specs.declared.token.TokenKind.{TokenKind}
use Rattle.ci_tree.specs.declared.token.TokenKind.TheVariants.{Name, Keyword, Number, Text, Hashes, Sign}
use Rattle.ci_tree.specs.declared.token.Keyword as of_keyword
use Rattle.ci_tree.specs.declared.token.Keyword.TheVariants as word
use Rattle.ci_tree.specs.declared.token.Sign as of_sign
use Rattle.ci_tree.specs.declared.token.Sign.TheVariants as mark
use Rattle.ci_tree.specs.declared.tree.TypeName.{TypeName}
use Rattle.ci_tree.specs.declared.tree.TypeName.TheVariants as type_name
use Rattle.ci_tree.specs.declared.tree.Operator.{Operator}
use Rattle.ci_tree.specs.declared.tree.Operator.TheVariants as operator
use Rattle.ci_base.specs.declared.relation.Relation.{Relation}
use Rattle.ci_base.specs.declared.relation.Relation.TheVariants as relations
use Rattle.ci_tree.specs.Grammar.{Tokens, group_of, form_group, nesting}

-- What is refused, and at which token.
pub data Refusal : Type 0 where
  unexpected : (at : ℕ) → Refusal
  unexpected_end : Refusal
  too_deep : (at : ℕ) → Refusal

-- the symbols of the grammar
pub data Symbol : Type 0 where
  -- one token: a keyword, a sign, a name, a number, hashes, a type's word
  keyword : (word : of_keyword.Keyword) → Symbol
  sign : (mark : of_sign.Sign) → Symbol
  name : Symbol
  number : Symbol
  hashes : Symbol
  type : Symbol
  -- { Item } and Item
  items : Symbol
  item : Symbol
  -- [ Type ] Func
  seen : Symbol
  -- Func | Vars ";"
  typed : Symbol
  -- Func
  function : Symbol
  -- [ Param { "," Param } ], and what of it can stand behind a Param
  parameters : Symbol
  parameter : Symbol
  more_parameters : Symbol
  -- what stands behind the name of a Var, and { "," Var }
  var_end : Symbol
  more_vars : Symbol
  -- [ "=" Const ] and Const
  first_value : Symbol
  const : Symbol
  -- Body and Stmt
  body : Symbol
  statement : Symbol
  -- what stands behind the name of a Local, and { "," Local }
  local_end : Symbol
  more_locals : Symbol
  -- Tail
  tail : Symbol
  -- [ "ELSE" Body ]
  else : Symbol
  -- [ Expr ] of RETURN
  returned : Symbol
  -- Cases, and what stands behind their CASE
  cases : Symbol
  case : Symbol
  -- Label, [ "TO" Expr ], { "," Label } and Rel
  label : Symbol
  label_end : Symbol
  more_labels : Symbol
  relation : Symbol
  -- [ Expr { "," Expr } ] and { "," Expr }
  arguments : Symbol
  more_arguments : Symbol
  -- Unary is level 0; what stands behind a member of level n at level n + 1; what stands behind a name
  level : (n : ℕ) → Symbol
  rest : (n : ℕ) → Symbol
  suffix : Symbol

abbrev pub expression : Symbol
expression = level 8

-- the type whose word the token is
abbrev pub type_of_token : TokenKind → Option TypeName
type_of_token (Keyword word.Int) = Some type_name.Int
type_of_token (Keyword word.String) = Some type_name.String
type_of_token (Keyword word.Real) = Some type_name.Real
type_of_token (Keyword word.Object) = Some type_name.Object
type_of_token (Keyword word.Quality) = Some type_name.Quality
type_of_token (Keyword word.Timestamp) = Some type_name.Timestamp
type_of_token t = None

-- the operator that the token is between two operands
abbrev pub operator_of_token : TokenKind → Option Operator
operator_of_token (Keyword word.BitAnd) = Some operator.BitAnd
operator_of_token (Keyword word.BitOr) = Some operator.BitOr
operator_of_token (Keyword word.BitXor) = Some operator.BitXor
operator_of_token (Keyword word.Or) = Some operator.Or
operator_of_token (Keyword word.And) = Some operator.And
operator_of_token (Keyword word.Mod) = Some operator.Mod
operator_of_token (Sign mark.Equal) = Some operator.Equal
operator_of_token (Sign mark.Unequal) = Some operator.Unequal
operator_of_token (Sign mark.Less) = Some operator.Less
operator_of_token (Sign mark.Greater) = Some operator.Greater
operator_of_token (Sign mark.AtMost) = Some operator.AtMost
operator_of_token (Sign mark.AtLeast) = Some operator.AtLeast
operator_of_token (Sign mark.Plus) = Some operator.Plus
operator_of_token (Sign mark.Minus) = Some operator.Minus
operator_of_token (Sign mark.Star) = Some operator.Times
operator_of_token (Sign mark.Slash) = Some operator.Over
operator_of_token t = None

-- the relation that the token is behind IS
abbrev pub relation_of_token : TokenKind → Option Relation
relation_of_token (Sign mark.Equal) = Some relations.Equal
relation_of_token (Sign mark.Unequal) = Some relations.Unequal
relation_of_token (Sign mark.Less) = Some relations.Less
relation_of_token (Sign mark.Greater) = Some relations.Greater
relation_of_token (Sign mark.AtMost) = Some relations.AtMost
relation_of_token (Sign mark.AtLeast) = Some relations.AtLeast
relation_of_token t = None

-- keywords and signs by number, so that two can be compared
abbrev pub keyword_number : of_keyword.Keyword → ℕ
keyword_number word.Function = 0
keyword_number word.End = 1
keyword_number word.If = 2
keyword_number word.Then = 3
keyword_number word.Else = 4
keyword_number word.While = 5
keyword_number word.Do = 6
keyword_number word.For = 7
keyword_number word.To = 8
keyword_number word.Select = 9
keyword_number word.Case = 10
keyword_number word.Is = 11
keyword_number word.Return = 12
keyword_number word.Private = 13
keyword_number word.Public = 14
keyword_number word.Global = 15
keyword_number word.Module = 16
keyword_number word.Int = 17
keyword_number word.String = 18
keyword_number word.Real = 19
keyword_number word.Object = 20
keyword_number word.Quality = 21
keyword_number word.Timestamp = 22
keyword_number word.And = 23
keyword_number word.Or = 24
keyword_number word.Not = 25
keyword_number word.Mod = 26
keyword_number word.BitAnd = 27
keyword_number word.BitOr = 28
keyword_number word.BitXor = 29

abbrev pub sign_number : of_sign.Sign → ℕ
sign_number mark.LeftParen = 0
sign_number mark.RightParen = 1
sign_number mark.LeftBracket = 2
sign_number mark.RightBracket = 3
sign_number mark.Comma = 4
sign_number mark.Semicolon = 5
sign_number mark.Colon = 6
sign_number mark.Equal = 7
sign_number mark.Unequal = 8
sign_number mark.Less = 9
sign_number mark.Greater = 10
sign_number mark.AtMost = 11
sign_number mark.AtLeast = 12
sign_number mark.Plus = 13
sign_number mark.Minus = 14
sign_number mark.Star = 15
sign_number mark.Slash = 16

-- the token is this keyword, or this sign
abbrev pub is_keyword : of_keyword.Keyword → TokenKind → Bool
is_keyword k (Keyword j) = eqb (keyword_number k) (keyword_number j)
is_keyword k t = false

abbrev pub is_sign : of_sign.Sign → TokenKind → Bool
is_sign s (Sign r) = eqb (sign_number s) (sign_number r)
is_sign s t = false

-- The rule of a symbol that begins with a token: the symbols behind that token. Where the token opens a level, those
-- inside stand at one level fewer.
pub data Rule : Type 0 where
  no_rule : Rule
  takes : (then : List Symbol) → Rule
  opens : (inside then : List Symbol) → Rule

-- the same rule, with more symbols at its end
abbrev pub followed_by : List Symbol → Rule → Rule
followed_by more no_rule = no_rule
followed_by more (takes then) = takes (then ++ more)
followed_by more (opens inside then) = opens inside (then ++ more)

abbrev pub taken_if : Bool → Rule
taken_if false = no_rule
taken_if true = takes []

-- a rule that begins with a type's word, or else another
abbrev pub typed_or : List Symbol → Option TypeName → Rule → Rule
typed_or then (Some t) other = takes then
typed_or then None other = other

abbrev pub unary_rule : TokenKind → Rule
unary_rule (Sign mark.Minus) = opens (level 0 ∷ []) []
unary_rule (Keyword word.Not) = opens (level 0 ∷ []) []
unary_rule (Number v) = takes []
unary_rule (Text t) = takes []
unary_rule (Sign mark.LeftParen) = opens (expression ∷ sign mark.RightParen ∷ []) []
unary_rule (Name x) = takes (suffix ∷ [])
unary_rule t = no_rule

abbrev pub suffix_rule : TokenKind → Rule
suffix_rule (Sign mark.LeftParen) = opens (arguments ∷ sign mark.RightParen ∷ []) []
suffix_rule (Sign mark.LeftBracket) = opens (expression ∷ sign mark.RightBracket ∷ []) []
suffix_rule t = no_rule

-- level 0 is Unary; a member of level n + 1 begins with a member of level n
abbrev pub level_rule : ℕ → TokenKind → Rule
level_rule zero t = unary_rule t
level_rule (suc n) t = followed_by (rest n ∷ []) (level_rule n t)

abbrev pub expression_rule : TokenKind → Rule
expression_rule t = level_rule 8 t

-- What joins one more member to a chain of group n: an operator of the group, or `:` with its hashes.
pub data Joint : Type 0 where
  no_joint : Joint
  by_operator : (operator : Operator) → Joint
  by_colon : Joint

abbrev pub operator_joint : ℕ → Option Operator → Joint
operator_joint n (Some op) = cond (eqb (group_of op) n) (by_operator op) no_joint
operator_joint n None = no_joint

abbrev pub joint : ℕ → TokenKind → Joint
joint n (Sign mark.Colon) = cond (eqb form_group n) by_colon no_joint
joint n t = operator_joint n (operator_of_token t)

abbrev pub joint_rule : ℕ → Joint → Rule
joint_rule n no_joint = no_rule
joint_rule n (by_operator op) = takes (level n ∷ rest n ∷ [])
joint_rule n by_colon = takes (hashes ∷ rest n ∷ [])

abbrev pub rest_rule : ℕ → TokenKind → Rule
rest_rule n t = joint_rule n (joint n t)

abbrev pub plain_statement_rule : TokenKind → Rule
plain_statement_rule (Sign mark.Semicolon) = takes []
plain_statement_rule (Name x) = takes (tail ∷ sign mark.Semicolon ∷ [])
plain_statement_rule (Keyword word.If) = opens (expression ∷ keyword word.Then ∷ body ∷ else ∷ keyword word.End ∷ []) []
plain_statement_rule (Keyword word.While) = opens (expression ∷ keyword word.Do ∷ body ∷ keyword word.End ∷ []) []
plain_statement_rule (Keyword word.For) = opens (name ∷ sign mark.Equal ∷ expression ∷ keyword word.To ∷ expression ∷ keyword word.Do ∷ body ∷ keyword word.End ∷ []) []
plain_statement_rule (Keyword word.Select) = opens (keyword word.Case ∷ expression ∷ cases ∷ []) []
plain_statement_rule (Keyword word.Return) = takes (returned ∷ sign mark.Semicolon ∷ [])
plain_statement_rule t = no_rule

abbrev pub statement_rule : TokenKind → Rule
statement_rule t = typed_or (name ∷ local_end ∷ more_locals ∷ sign mark.Semicolon ∷ []) (type_of_token t) (plain_statement_rule t)

abbrev pub tail_rule : TokenKind → Rule
tail_rule (Sign mark.LeftParen) = opens (arguments ∷ sign mark.RightParen ∷ []) []
tail_rule (Sign mark.LeftBracket) = opens (expression ∷ sign mark.RightBracket ∷ []) (sign mark.Equal ∷ expression ∷ [])
tail_rule (Sign mark.Equal) = takes (expression ∷ [])
tail_rule t = no_rule

abbrev pub function_rule : TokenKind → Rule
function_rule (Keyword word.Function) = takes (name ∷ sign mark.LeftParen ∷ parameters ∷ sign mark.RightParen ∷ body ∷ keyword word.End ∷ [])
function_rule t = no_rule

abbrev pub plain_item_rule : TokenKind → Rule
plain_item_rule (Sign mark.Semicolon) = takes []
plain_item_rule (Keyword word.Private) = takes (seen ∷ [])
plain_item_rule (Keyword word.Public) = takes (seen ∷ [])
plain_item_rule (Keyword word.Global) = takes (type ∷ name ∷ var_end ∷ more_vars ∷ sign mark.Semicolon ∷ [])
plain_item_rule (Keyword word.Module) = takes (type ∷ name ∷ var_end ∷ more_vars ∷ sign mark.Semicolon ∷ [])
plain_item_rule t = function_rule t

abbrev pub item_rule : TokenKind → Rule
item_rule t = typed_or (typed ∷ []) (type_of_token t) (plain_item_rule t)

abbrev pub parameter_rule : TokenKind → Rule
parameter_rule t = typed_or (name ∷ first_value ∷ []) (type_of_token t) no_rule

abbrev pub label_rule : TokenKind → Rule
label_rule (Keyword word.Is) = takes (relation ∷ expression ∷ [])
label_rule t = followed_by (label_end ∷ []) (expression_rule t)

abbrev pub relation_rule : Option Relation → Rule
relation_rule (Some r) = takes []
relation_rule None = no_rule

-- a rule that begins with a comma
abbrev pub comma_rule : List Symbol → TokenKind → Rule
comma_rule then (Sign mark.Comma) = takes then
comma_rule then t = no_rule

-- a rule that begins with `=`
abbrev pub equal_rule : List Symbol → TokenKind → Rule
equal_rule then (Sign mark.Equal) = takes then
equal_rule then t = no_rule

abbrev pub rule : Symbol → TokenKind → Rule
rule (keyword k) t = taken_if (is_keyword k t)
rule (sign s) t = taken_if (is_sign s t)
rule name (Name x) = takes []
rule name t = no_rule
rule number (Number v) = takes []
rule number t = no_rule
rule hashes (Hashes n) = takes []
rule hashes t = no_rule
rule type t = typed_or [] (type_of_token t) no_rule
rule items t = followed_by (items ∷ []) (item_rule t)
rule item t = item_rule t
rule seen t = typed_or (function ∷ []) (type_of_token t) (function_rule t)
rule typed (Name x) = takes (var_end ∷ more_vars ∷ sign mark.Semicolon ∷ [])
rule typed t = function_rule t
rule function t = function_rule t
rule parameters t = followed_by (more_parameters ∷ []) (parameter_rule t)
rule parameter t = parameter_rule t
rule more_parameters t = comma_rule (parameter ∷ more_parameters ∷ []) t
rule var_end (Sign mark.LeftBracket) = takes (number ∷ sign mark.RightBracket ∷ [])
rule var_end t = equal_rule (const ∷ []) t
rule more_vars t = comma_rule (name ∷ var_end ∷ more_vars ∷ []) t
rule first_value t = equal_rule (const ∷ []) t
rule const (Sign mark.Minus) = takes (number ∷ [])
rule const (Number v) = takes []
rule const (Text t) = takes []
rule const t = no_rule
rule body t = followed_by (body ∷ []) (statement_rule t)
rule statement t = statement_rule t
rule local_end t = equal_rule (expression ∷ []) t
rule more_locals t = comma_rule (name ∷ local_end ∷ more_locals ∷ []) t
rule tail t = tail_rule t
rule else (Keyword word.Else) = takes (body ∷ [])
rule else t = no_rule
rule returned t = expression_rule t
rule cases (Keyword word.End) = takes (keyword word.Select ∷ [])
rule cases (Keyword word.Case) = takes (case ∷ [])
rule cases t = no_rule
rule case (Keyword word.Else) = takes (body ∷ keyword word.End ∷ keyword word.Select ∷ [])
rule case t = followed_by (more_labels ∷ body ∷ cases ∷ []) (label_rule t)
rule label t = label_rule t
rule label_end (Keyword word.To) = takes (expression ∷ [])
rule label_end t = no_rule
rule more_labels t = comma_rule (label ∷ more_labels ∷ []) t
rule relation t = relation_rule (relation_of_token t)
rule arguments t = followed_by (more_arguments ∷ []) (expression_rule t)
rule more_arguments t = comma_rule (expression ∷ more_arguments ∷ []) t
rule (level n) t = level_rule n t
rule (rest n) t = rest_rule n t
rule suffix t = suffix_rule t

-- the symbol has a rule
abbrev pub has_rule : Rule → Bool
has_rule no_rule = false
has_rule (takes then) = true
has_rule (opens inside then) = true

-- The symbol has a rule that begins with the next token.
abbrev pub begins : Symbol → Tokens → Bool
begins s [] = false
begins s (t ∷ ts) = has_rule (rule s t)

-- The symbol can be empty.
abbrev pub can_be_empty : Symbol → Bool
can_be_empty items = true
can_be_empty parameters = true
can_be_empty more_parameters = true
can_be_empty var_end = true
can_be_empty more_vars = true
can_be_empty first_value = true
can_be_empty body = true
can_be_empty local_end = true
can_be_empty more_locals = true
can_be_empty else = true
can_be_empty returned = true
can_be_empty label_end = true
can_be_empty more_labels = true
can_be_empty arguments = true
can_be_empty more_arguments = true
can_be_empty (rest n) = true
can_be_empty suffix = true
can_be_empty s = false

-- the symbols that are still to be read, the next one first, with the levels that are free at their places
abbrev pub Stack : Type 0
Stack = List (Symbol × ℕ)

-- in front of a stack, these symbols
abbrev pub push : ℕ → List Symbol → Stack → Stack
push free [] stack = stack
push free (s ∷ ss) stack = (s, free) ∷ push free ss stack

-- what becomes of a stack when it meets a token
pub data Met : Type 0 where
  refused : Met
  deep : Met
  left : (stack : Stack) → Met

-- by the rule of the front symbol; where there is none, that symbol is dropped if it can be empty
abbrev pub by_rule : Rule → Bool → ℕ → Stack → Met → Met
by_rule no_rule true free stack dropped = dropped
by_rule no_rule false free stack dropped = refused
by_rule (takes then) empty free stack dropped = left (push free then stack)
by_rule (opens inside then) empty zero stack dropped = deep
by_rule (opens inside then) empty (suc free) stack dropped = left (push free inside (push (suc free) then stack))

abbrev pub meet : TokenKind → Stack → Met
meet t [] = refused
meet t (s ∷ stack) = by_rule (rule s.0 t) (can_be_empty s.0) s.1 stack (meet t stack)

-- All symbols can be empty.
abbrev pub all_empty : Stack → Bool
all_empty [] = true
all_empty (s ∷ stack) = can_be_empty s.0 && all_empty stack

-- the refusal at this token, or what comes of the tokens behind it
abbrev pub from_met : ℕ → (Stack → Option Refusal) → Met → Option Refusal
from_met i behind refused = Some (unexpected i)
from_met i behind deep = Some (too_deep i)
from_met i behind (left stack) = behind stack

-- what is refused of the tokens from this index on, where these symbols are still to be read
abbrev pub refused_from : ℕ → Tokens → Stack → Option Refusal
refused_from i [] stack = cond (all_empty stack) None (Some unexpected_end)
refused_from i (t ∷ ts) stack = from_met i (λ behind. refused_from (suc i) ts behind) (meet t stack)

-- what is refused first, if anything
abbrev pub refused_at : Tokens → Option Refusal
refused_at tokens = refused_from 0 tokens ((items, nesting) ∷ [])
