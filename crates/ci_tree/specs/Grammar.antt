-- The grammar: which tokens spell which tree.
--
-- A tree doesn't tell how it was spelled: parentheses, the `;` that stand alone, PUBLIC and MODULE, and which variables
-- were declared together are gone. So the grammar is the types of this file, which have one constructor for each rule,
-- and four functions on them, with one line for each rule:
--   spell_..  the tokens of a rule in order, in front of the tokens that follow it;
--   Is.._     what the rule asks beside its tokens: the groups of operators, and that levels are free for what opens one;
--   after_..  the index of the token behind it, where it begins at the token of this index;
--   tree_..   the tree that it means, where it begins at the token of this index.
-- A spelling is a function, and nothing has to be cut in pieces: so a spelling can be read back by computation.
use Rattle.std.specs.Prelude.{◌≡◌, ℕ, zero, suc, ℤ, Bool, true, false, List, [], ◌∷◌, ◌++◌, Option, Some, None}
use Rattle.std.specs.Int.{w32, int_wrapping_neg}
use Rattle.ci_base.specs.declared.bounds.TheConstants.{MOST_LEVELS}
use Rattle.ci_tree.specs.declared.token.TokenKind.{TokenKind}
use Rattle.ci_tree.specs.declared.token.TokenKind.TheVariants.{Name, Keyword, Number, Text, Hashes, Sign}
use Rattle.ci_tree.specs.declared.token.Keyword.TheVariants as word
use Rattle.ci_tree.specs.declared.token.Sign.TheVariants as sign
use Rattle.ci_tree.specs.declared.tree.TypeName.{TypeName}
use Rattle.ci_tree.specs.declared.tree.TypeName.TheVariants as type_name
use Rattle.ci_tree.specs.declared.tree.TypeAt.{TypeAt}
use Rattle.ci_tree.specs.declared.tree.Const.{Const}
use Rattle.ci_tree.specs.declared.tree.Const.TheVariants as const
use Rattle.ci_tree.specs.declared.tree.Param.{Param}
use Rattle.ci_tree.specs.declared.tree.Operator.{Operator}
use Rattle.ci_tree.specs.declared.tree.Operator.TheVariants as operator
use Rattle.ci_base.specs.declared.relation.Relation.{Relation}
use Rattle.ci_base.specs.declared.relation.Relation.TheVariants as relation
use Rattle.ci_tree.specs.Tree as to
use Rattle.ci_tree.specs.Tree.{Expr, Links, Exprs, Block, Other, Clauses, Item, Stmt}

abbrev pub Tokens : Type 0
Tokens = List TokenKind

-- the word of a type
abbrev pub type_token : TypeName → TokenKind
type_token type_name.Int = Keyword word.Int
type_token type_name.String = Keyword word.String
type_token type_name.Real = Keyword word.Real
type_token type_name.Object = Keyword word.Object
type_token type_name.Quality = Keyword word.Quality
type_token type_name.Timestamp = Keyword word.Timestamp

-- the token of an operator
abbrev pub operator_token : Operator → TokenKind
operator_token operator.BitAnd = Keyword word.BitAnd
operator_token operator.BitOr = Keyword word.BitOr
operator_token operator.BitXor = Keyword word.BitXor
operator_token operator.Or = Keyword word.Or
operator_token operator.And = Keyword word.And
operator_token operator.Equal = Sign sign.Equal
operator_token operator.Unequal = Sign sign.Unequal
operator_token operator.Less = Sign sign.Less
operator_token operator.Greater = Sign sign.Greater
operator_token operator.AtMost = Sign sign.AtMost
operator_token operator.AtLeast = Sign sign.AtLeast
operator_token operator.Plus = Sign sign.Plus
operator_token operator.Minus = Sign sign.Minus
operator_token operator.Times = Sign sign.Star
operator_token operator.Over = Sign sign.Slash
operator_token operator.Mod = Keyword word.Mod

-- The groups of operators are counted from the one that binds most tightly. `:` is group 1.
abbrev pub group_of : Operator → ℕ
group_of operator.Times = 0
group_of operator.Over = 0
group_of operator.Mod = 0
group_of operator.Plus = 2
group_of operator.Minus = 2
group_of operator.Less = 3
group_of operator.Greater = 3
group_of operator.AtMost = 3
group_of operator.AtLeast = 3
group_of operator.Equal = 4
group_of operator.Unequal = 4
group_of operator.And = 5
group_of operator.Or = 6
group_of operator.BitAnd = 7
group_of operator.BitOr = 7
group_of operator.BitXor = 7

-- the group of `:`
abbrev pub form_group : ℕ
form_group = 1

-- the token of a relation
abbrev pub relation_token : Relation → TokenKind
relation_token relation.Equal = Sign sign.Equal
relation_token relation.Unequal = Sign sign.Unequal
relation_token relation.Less = Sign sign.Less
relation_token relation.Greater = Sign sign.Greater
relation_token relation.AtMost = Sign sign.AtMost
relation_token relation.AtLeast = Sign sign.AtLeast

-- Expressions

mutual
  -- Level 0 is Unary. Level n + 1 is a member of level n, and then operators of group n with members of level n.
  pub data Level : Type 0 where
    single : (of : Unary) → Level
    group : (first : Level) (rest : Rest) → Level

  -- { operator member }
  pub data Rest : Type 0 where
    no_rest : Rest
    joined : (operator : Operator) (right : Level) (rest : Rest) → Rest
    formed : (count : ℕ) (rest : Rest) → Rest

  -- Unary and Prim
  pub data Unary : Type 0 where
    minus : (operand : Unary) → Unary
    not : (operand : Unary) → Unary
    number : (value : ℤ) → Unary
    text : (text : List ℕ) → Unary
    parens : (inner : Level) → Unary
    name : (name : List ℕ) → Unary
    called : (name : List ℕ) (args : Args) → Unary
    element : (name : List ℕ) (index : Level) → Unary

  -- [ Expr { "," Expr } ], between the parentheses of Args
  pub data Args : Type 0 where
    no_args : Args
    args : (first : Level) (rest : MoreArgs) → Args

  -- { "," Expr }
  pub data MoreArgs : Type 0 where
    no_more_args : MoreArgs
    comma_arg : (arg : Level) (rest : MoreArgs) → MoreArgs

abbrev mutual
  pub spell_level : Level → Tokens → Tokens
  spell_level (single u) k = spell_unary u k
  spell_level (group first rest) k = spell_level first (spell_rest rest k)

  pub spell_rest : Rest → Tokens → Tokens
  spell_rest no_rest k = k
  spell_rest (joined op right rest) k = operator_token op ∷ spell_level right (spell_rest rest k)
  spell_rest (formed count rest) k = Sign sign.Colon ∷ Hashes count ∷ spell_rest rest k

  pub spell_unary : Unary → Tokens → Tokens
  spell_unary (minus u) k = Sign sign.Minus ∷ spell_unary u k
  spell_unary (not u) k = Keyword word.Not ∷ spell_unary u k
  spell_unary (number v) k = Number v ∷ k
  spell_unary (text t) k = Text t ∷ k
  spell_unary (parens e) k = Sign sign.LeftParen ∷ spell_level e (Sign sign.RightParen ∷ k)
  spell_unary (name x) k = Name x ∷ k
  spell_unary (called x a) k = Name x ∷ Sign sign.LeftParen ∷ spell_args a (Sign sign.RightParen ∷ k)
  spell_unary (element x e) k = Name x ∷ Sign sign.LeftBracket ∷ spell_level e (Sign sign.RightBracket ∷ k)

  pub spell_args : Args → Tokens → Tokens
  spell_args no_args k = k
  spell_args (args e rest) k = spell_level e (spell_more_args rest k)

  pub spell_more_args : MoreArgs → Tokens → Tokens
  spell_more_args no_more_args k = k
  spell_more_args (comma_arg e rest) k = Sign sign.Comma ∷ spell_level e (spell_more_args rest k)

-- A level is free, and inside, where one fewer is free, this holds.
abbrev pub Opens : ℕ → (ℕ → Type 0) → Type 0
Opens zero inside = ⊥
Opens (suc free) inside = inside free

abbrev mutual
  pub IsLevel : ℕ → ℕ → Level → Type 0
  IsLevel zero free (single u) = IsUnary free u
  IsLevel zero free (group first rest) = ⊥
  IsLevel (suc n) free (single u) = ⊥
  IsLevel (suc n) free (group first rest) = IsLevel n free first × IsRest n free rest

  pub IsRest : ℕ → ℕ → Rest → Type 0
  IsRest n free no_rest = Unit {0}
  IsRest n free (joined op right rest) = (group_of op ≡ n) × IsLevel n free right × IsRest n free rest
  IsRest n free (formed count rest) = (form_group ≡ n) × IsRest n free rest

  pub IsUnary : ℕ → Unary → Type 0
  IsUnary free (minus u) = Opens free (λ inside. IsUnary inside u)
  IsUnary free (not u) = Opens free (λ inside. IsUnary inside u)
  IsUnary free (number v) = Unit {0}
  IsUnary free (text t) = Unit {0}
  IsUnary free (parens e) = Opens free (λ inside. IsLevel 8 inside e)
  IsUnary free (name x) = Unit {0}
  IsUnary free (called x a) = Opens free (λ inside. IsArgs inside a)
  IsUnary free (element x e) = Opens free (λ inside. IsLevel 8 inside e)

  pub IsArgs : ℕ → Args → Type 0
  IsArgs free no_args = Unit {0}
  IsArgs free (args e rest) = IsLevel 8 free e × IsMoreArgs free rest

  pub IsMoreArgs : ℕ → MoreArgs → Type 0
  IsMoreArgs free no_more_args = Unit {0}
  IsMoreArgs free (comma_arg e rest) = IsLevel 8 free e × IsMoreArgs free rest

abbrev pub IsExpr : ℕ → Level → Type 0
IsExpr free e = IsLevel 8 free e

abbrev mutual
  pub after_level : ℕ → Level → ℕ
  after_level i (single u) = after_unary i u
  after_level i (group first rest) = after_rest (after_level i first) rest

  pub after_rest : ℕ → Rest → ℕ
  after_rest i no_rest = i
  after_rest i (joined op right rest) = after_rest (after_level (suc i) right) rest
  after_rest i (formed count rest) = after_rest (suc (suc i)) rest

  pub after_unary : ℕ → Unary → ℕ
  after_unary i (minus u) = after_unary (suc i) u
  after_unary i (not u) = after_unary (suc i) u
  after_unary i (number v) = suc i
  after_unary i (text t) = suc i
  after_unary i (parens e) = suc (after_level (suc i) e)
  after_unary i (name x) = suc i
  after_unary i (called x a) = suc (after_args (suc (suc i)) a)
  after_unary i (element x e) = suc (after_level (suc (suc i)) e)

  pub after_args : ℕ → Args → ℕ
  after_args i no_args = i
  after_args i (args e rest) = after_more_args (after_level i e) rest

  pub after_more_args : ℕ → MoreArgs → ℕ
  after_more_args i no_more_args = i
  after_more_args i (comma_arg e rest) = after_more_args (after_level (suc i) e) rest

-- a member with what follows it in its chain: without a link it is the member itself
abbrev pub chained : ℕ → Expr → ℕ → Links → Expr
chained start first at to.no_link = first
chained start first at (to.operand i op right rest) = to.expr start at (to.chain first (to.operand i op right rest))
chained start first at (to.hashes i count rest) = to.expr start at (to.chain first (to.hashes i count rest))

-- the same expression, begun by a parenthesis
abbrev pub begun_at : ℕ → Expr → Expr
begun_at start (to.expr inner at what) = to.expr start at what

abbrev mutual
  pub tree_level : ℕ → Level → Expr
  tree_level i (single u) = tree_unary i u
  tree_level i (group first rest) = chained i (tree_level i first) (after_level i first) (tree_rest (after_level i first) rest)

  pub tree_rest : ℕ → Rest → Links
  tree_rest i no_rest = to.no_link
  tree_rest i (joined op right rest) = to.operand i op (tree_level (suc i) right) (tree_rest (after_level (suc i) right) rest)
  tree_rest i (formed count rest) = to.hashes i count (tree_rest (suc (suc i)) rest)

  pub tree_unary : ℕ → Unary → Expr
  tree_unary i (minus u) = to.expr i i (to.unary true (tree_unary (suc i) u))
  tree_unary i (not u) = to.expr i i (to.unary false (tree_unary (suc i) u))
  tree_unary i (number v) = to.expr i i (to.number v)
  tree_unary i (text t) = to.expr i i (to.literal t)
  tree_unary i (parens e) = begun_at i (tree_level (suc i) e)
  tree_unary i (name x) = to.expr i i (to.name x)
  tree_unary i (called x a) = to.expr i i (to.call x (tree_args (suc (suc i)) a))
  tree_unary i (element x e) = to.expr i i (to.element x (tree_level (suc (suc i)) e))

  pub tree_args : ℕ → Args → Exprs
  tree_args i no_args = to.no_expr
  tree_args i (args e rest) = to.more (tree_level i e) (tree_more_args (after_level i e) rest)

  pub tree_more_args : ℕ → MoreArgs → Exprs
  tree_more_args i no_more_args = to.no_expr
  tree_more_args i (comma_arg e rest) = to.more (tree_level (suc i) e) (tree_more_args (after_level (suc i) e) rest)

-- Locals and labels

-- name [ "=" Expr ]
pub data Local : Type 0 where
  plain_local : (name : List ℕ) → Local
  valued_local : (name : List ℕ) (value : Level) → Local

abbrev pub spell_local : Local → Tokens → Tokens
spell_local (plain_local x) k = Name x ∷ k
spell_local (valued_local x e) k = Name x ∷ Sign sign.Equal ∷ spell_level e k

abbrev pub IsLocal : ℕ → Local → Type 0
IsLocal free (plain_local x) = Unit {0}
IsLocal free (valued_local x e) = IsExpr free e

abbrev pub after_local : ℕ → Local → ℕ
after_local i (plain_local x) = suc i
after_local i (valued_local x e) = after_level (suc (suc i)) e

abbrev pub tree_local : ℕ → Local → to.Local
tree_local i (plain_local x) = record { at = i; name = x; value = None }
tree_local i (valued_local x e) = record { at = i; name = x; value = Some (tree_level (suc (suc i)) e) }

-- Expr [ "TO" Expr ] | "IS" Rel Expr
pub data Label : Type 0 where
  one : (value : Level) → Label
  range : (low high : Level) → Label
  compared : (relation : Relation) (value : Level) → Label

abbrev pub spell_label : Label → Tokens → Tokens
spell_label (one e) k = spell_level e k
spell_label (range a b) k = spell_level a (Keyword word.To ∷ spell_level b k)
spell_label (compared r e) k = Keyword word.Is ∷ relation_token r ∷ spell_level e k

abbrev pub IsLabel : ℕ → Label → Type 0
IsLabel free (one e) = IsExpr free e
IsLabel free (range a b) = IsExpr free a × IsExpr free b
IsLabel free (compared r e) = IsExpr free e

abbrev pub after_label : ℕ → Label → ℕ
after_label i (one e) = after_level i e
after_label i (range a b) = after_level (suc (after_level i a)) b
after_label i (compared r e) = after_level (suc (suc i)) e

abbrev pub tree_label : ℕ → Label → to.Label
tree_label i (one e) = to.one (tree_level i e)
tree_label i (range a b) = to.range (tree_level i a) (tree_level (suc (after_level i a)) b)
tree_label i (compared r e) = to.compared i r (tree_level (suc (suc i)) e)

-- { "," member }, for members of any kind
abbrev pub spell_others : {M : Type 0} → (M → Tokens → Tokens) → List M → Tokens → Tokens
spell_others spell [] k = k
spell_others spell (m ∷ ms) k = Sign sign.Comma ∷ spell m (spell_others spell ms k)

abbrev pub AreAll : {M : Type 0} → (M → Type 0) → List M → Type 0
AreAll Is [] = Unit {0}
AreAll Is (m ∷ ms) = Is m × AreAll Is ms

abbrev pub after_others : {M : Type 0} → (ℕ → M → ℕ) → ℕ → List M → ℕ
after_others after i [] = i
after_others after i (m ∷ ms) = after_others after (after (suc i) m) ms

abbrev pub tree_others : {M T : Type 0} → (ℕ → M → ℕ) → (ℕ → M → T) → ℕ → List M → List T
tree_others after tree i [] = []
tree_others after tree i (m ∷ ms) = tree (suc i) m ∷ tree_others after tree (after (suc i) m) ms

-- Statements

mutual
  pub data Statement : Type 0 where
    -- ";"
    empty : Statement
    -- Type Local { "," Local } ";"
    declared : (kind : TypeName) (first : Local) (others : List Local) → Statement
    -- name "(" [ Expr { "," Expr } ] ")" ";"
    call_of : (name : List ℕ) (args : Args) → Statement
    -- name "=" Expr ";"
    assigned : (name : List ℕ) (value : Level) → Statement
    -- name "[" Expr "]" "=" Expr ";"
    element_assigned : (name : List ℕ) (index value : Level) → Statement
    -- "IF" Expr "THEN" Body [ "ELSE" Body ] "END"
    choice : (test : Level) (body : Body) (otherwise : Else) → Statement
    -- "WHILE" Expr "DO" Body "END"
    loop : (test : Level) (body : Body) → Statement
    -- "FOR" name "=" Expr "TO" Expr "DO" Body "END"
    count : (name : List ℕ) (first last : Level) (body : Body) → Statement
    -- "SELECT" "CASE" Expr Cases
    selection : (subject : Level) (cases : Cases) → Statement
    -- "RETURN" ";"
    return_none : Statement
    -- "RETURN" Expr ";"
    return_value : (value : Level) → Statement

  -- [ "ELSE" Body ]
  pub data Else : Type 0 where
    no_else : Else
    else : (body : Body) → Else

  pub data Cases : Type 0 where
    -- "END" "SELECT"
    end_select : Cases
    -- "CASE" "ELSE" Body "END" "SELECT"
    case_else : (body : Body) → Cases
    -- "CASE" Label { "," Label } Body Cases
    case : (first : Label) (others : List Label) (body : Body) (rest : Cases) → Cases

  -- { Stmt }
  pub data Body : Type 0 where
    end : Body
    then : (first : Statement) (rest : Body) → Body

abbrev mutual
  pub spell_statement : Statement → Tokens → Tokens
  spell_statement empty k = Sign sign.Semicolon ∷ k
  spell_statement (declared t l ls) k = type_token t ∷ spell_local l (spell_others spell_local ls (Sign sign.Semicolon ∷ k))
  spell_statement (call_of x a) k = Name x ∷ Sign sign.LeftParen ∷ spell_args a (Sign sign.RightParen ∷ Sign sign.Semicolon ∷ k)
  spell_statement (assigned x e) k = Name x ∷ Sign sign.Equal ∷ spell_level e (Sign sign.Semicolon ∷ k)
  spell_statement (element_assigned x i e) k = Name x ∷ Sign sign.LeftBracket ∷ spell_level i (Sign sign.RightBracket ∷ Sign sign.Equal ∷ spell_level e (Sign sign.Semicolon ∷ k))
  spell_statement (choice e b o) k = Keyword word.If ∷ spell_level e (Keyword word.Then ∷ spell_body b (spell_else o (Keyword word.End ∷ k)))
  spell_statement (loop e b) k = Keyword word.While ∷ spell_level e (Keyword word.Do ∷ spell_body b (Keyword word.End ∷ k))
  spell_statement (count x e f b) k = Keyword word.For ∷ Name x ∷ Sign sign.Equal ∷ spell_level e (Keyword word.To ∷ spell_level f (Keyword word.Do ∷ spell_body b (Keyword word.End ∷ k)))
  spell_statement (selection e c) k = Keyword word.Select ∷ Keyword word.Case ∷ spell_level e (spell_cases c k)
  spell_statement return_none k = Keyword word.Return ∷ Sign sign.Semicolon ∷ k
  spell_statement (return_value e) k = Keyword word.Return ∷ spell_level e (Sign sign.Semicolon ∷ k)

  pub spell_else : Else → Tokens → Tokens
  spell_else no_else k = k
  spell_else (else b) k = Keyword word.Else ∷ spell_body b k

  pub spell_cases : Cases → Tokens → Tokens
  spell_cases end_select k = Keyword word.End ∷ Keyword word.Select ∷ k
  spell_cases (case_else b) k = Keyword word.Case ∷ Keyword word.Else ∷ spell_body b (Keyword word.End ∷ Keyword word.Select ∷ k)
  spell_cases (case l ls b c) k = Keyword word.Case ∷ spell_label l (spell_others spell_label ls (spell_body b (spell_cases c k)))

  pub spell_body : Body → Tokens → Tokens
  spell_body end k = k
  spell_body (then s b) k = spell_statement s (spell_body b k)

abbrev mutual
  pub IsStatement : ℕ → Statement → Type 0
  IsStatement free empty = Unit {0}
  IsStatement free (declared t l ls) = IsLocal free l × AreAll (IsLocal free) ls
  IsStatement free (call_of x a) = Opens free (λ inside. IsArgs inside a)
  IsStatement free (assigned x e) = IsExpr free e
  IsStatement free (element_assigned x i e) = Opens free (λ inside. IsExpr inside i) × IsExpr free e
  IsStatement free (choice e b o) = Opens free (λ inside. IsExpr inside e × IsBody inside b × IsElse inside o)
  IsStatement free (loop e b) = Opens free (λ inside. IsExpr inside e × IsBody inside b)
  IsStatement free (count x e f b) = Opens free (λ inside. IsExpr inside e × IsExpr inside f × IsBody inside b)
  IsStatement free (selection e c) = Opens free (λ inside. IsExpr inside e × IsCases inside c)
  IsStatement free return_none = Unit {0}
  IsStatement free (return_value e) = IsExpr free e

  pub IsElse : ℕ → Else → Type 0
  IsElse free no_else = Unit {0}
  IsElse free (else b) = IsBody free b

  pub IsCases : ℕ → Cases → Type 0
  IsCases free end_select = Unit {0}
  IsCases free (case_else b) = IsBody free b
  IsCases free (case l ls b c) = IsLabel free l × AreAll (IsLabel free) ls × IsBody free b × IsCases free c

  pub IsBody : ℕ → Body → Type 0
  IsBody free end = Unit {0}
  IsBody free (then s b) = IsStatement free s × IsBody free b

abbrev mutual
  pub after_statement : ℕ → Statement → ℕ
  after_statement i empty = suc i
  after_statement i (declared t l ls) = suc (after_others after_local (after_local (suc i) l) ls)
  after_statement i (call_of x a) = suc (suc (after_args (suc (suc i)) a))
  after_statement i (assigned x e) = suc (after_level (suc (suc i)) e)
  after_statement i (element_assigned x j e) = suc (after_level (suc (suc (after_level (suc (suc i)) j))) e)
  after_statement i (choice e b o) = suc (after_else (after_body (suc (after_level (suc i) e)) b) o)
  after_statement i (loop e b) = suc (after_body (suc (after_level (suc i) e)) b)
  after_statement i (count x e f b) = suc (after_body (suc (after_level (suc (after_level (suc (suc (suc i))) e)) f)) b)
  after_statement i (selection e c) = after_cases (after_level (suc (suc i)) e) c
  after_statement i return_none = suc (suc i)
  after_statement i (return_value e) = suc (after_level (suc i) e)

  pub after_else : ℕ → Else → ℕ
  after_else i no_else = i
  after_else i (else b) = after_body (suc i) b

  pub after_cases : ℕ → Cases → ℕ
  after_cases i end_select = suc (suc i)
  after_cases i (case_else b) = suc (suc (after_body (suc (suc i)) b))
  after_cases i (case l ls b c) = after_cases (after_body (after_others after_label (after_label (suc i) l) ls) b) c

  pub after_body : ℕ → Body → ℕ
  after_body i end = i
  after_body i (then s b) = after_body (after_statement i s) b

-- the ELSE part of SELECT belongs to its last clause's place: what the cases mean is their clauses and that part
pub record CasesTree : Type 0 where
  pub clauses : Clauses
  pub other : Other

-- one clause more, in front
abbrev pub with_clause : ℕ → List to.Label → Block → CasesTree → CasesTree
with_clause at labels body rest = record { clauses = to.clause at labels body rest.clauses; other = rest.other }

-- what stands in front of the statements of a body: nothing for a `;` that stands alone
abbrev pub stmt_then : Option Stmt → Block → Block
stmt_then None b = b
stmt_then (Some s) b = to.then s b

abbrev mutual
  -- `;` alone leaves nothing
  pub tree_statement : ℕ → Statement → Option Stmt
  tree_statement i empty = None
  tree_statement i (declared t l ls) = Some (to.declare i (record { at = i; name = t }) (tree_local (suc i) l ∷ tree_others after_local tree_local (after_local (suc i) l) ls))
  tree_statement i (call_of x a) = Some (to.call_of i x (tree_args (suc (suc i)) a))
  tree_statement i (assigned x e) = Some (to.assign i x None (suc i) (tree_level (suc (suc i)) e))
  tree_statement i (element_assigned x j e) =
      let closes = after_level (suc (suc i)) j in
      Some (to.assign i x (Some (tree_level (suc (suc i)) j)) (suc closes) (tree_level (suc (suc closes)) e))
  tree_statement i (choice e b o) =
      let then_at = after_level (suc i) e in
      Some (to.choose i (tree_level (suc i) e) (tree_body (suc then_at) b) (tree_else (after_body (suc then_at) b) o))
  tree_statement i (loop e b) = Some (to.while i (tree_level (suc i) e) (tree_body (suc (after_level (suc i) e)) b))
  tree_statement i (count x e f b) =
      let to_at = after_level (suc (suc (suc i))) e in
      let do_at = after_level (suc to_at) f in
      Some (to.for i (suc i) x (tree_level (suc (suc (suc i))) e) (tree_level (suc to_at) f) (tree_body (suc do_at) b))
  tree_statement i (selection e c) =
      let cases = tree_cases (after_level (suc (suc i)) e) c in
      Some (to.select i (tree_level (suc (suc i)) e) cases.clauses cases.other)
  tree_statement i return_none = Some (to.return i None)
  tree_statement i (return_value e) = Some (to.return i (Some (tree_level (suc i) e)))

  pub tree_else : ℕ → Else → Other
  tree_else i no_else = to.no_other
  tree_else i (else b) = to.other (tree_body (suc i) b)

  pub tree_cases : ℕ → Cases → CasesTree
  tree_cases i end_select = record { clauses = to.no_clause; other = to.no_other }
  tree_cases i (case_else b) = record { clauses = to.no_clause; other = to.other (tree_body (suc (suc i)) b) }
  tree_cases i (case l ls b c) =
      let body_at = after_others after_label (after_label (suc i) l) ls in
      with_clause i (tree_label (suc i) l ∷ tree_others after_label tree_label (after_label (suc i) l) ls) (tree_body body_at b) (tree_cases (after_body body_at b) c)

  pub tree_body : ℕ → Body → Block
  tree_body i end = to.done
  tree_body i (then s b) = stmt_then (tree_statement i s) (tree_body (after_statement i s) b)

-- First values, variables and parameters

-- [ "-" ] number | text
pub data FirstValue : Type 0 where
  positive : (value : ℤ) → FirstValue
  negative : (value : ℤ) → FirstValue
  literal : (text : List ℕ) → FirstValue

abbrev pub spell_first : FirstValue → Tokens → Tokens
spell_first (positive v) k = Number v ∷ k
spell_first (negative v) k = Sign sign.Minus ∷ Number v ∷ k
spell_first (literal t) k = Text t ∷ k

abbrev pub after_first : ℕ → FirstValue → ℕ
after_first i (positive v) = suc i
after_first i (negative v) = suc (suc i)
after_first i (literal t) = suc i

abbrev pub tree_first : ℕ → FirstValue → Const
tree_first i (positive v) = const.Number i v
tree_first i (negative v) = const.Number i (int_wrapping_neg w32 v)
tree_first i (literal t) = const.Literal i t

-- name [ "[" number "]" | "=" Const ]
pub data Var : Type 0 where
  plain_var : (name : List ℕ) → Var
  array_var : (name : List ℕ) (length : ℤ) → Var
  valued_var : (name : List ℕ) (first : FirstValue) → Var

abbrev pub spell_var : Var → Tokens → Tokens
spell_var (plain_var x) k = Name x ∷ k
spell_var (array_var x n) k = Name x ∷ Sign sign.LeftBracket ∷ Number n ∷ Sign sign.RightBracket ∷ k
spell_var (valued_var x v) k = Name x ∷ Sign sign.Equal ∷ spell_first v k

abbrev pub after_var : ℕ → Var → ℕ
after_var i (plain_var x) = suc i
after_var i (array_var x n) = suc (suc (suc (suc i)))
after_var i (valued_var x v) = after_first (suc (suc i)) v

-- a variable of this scope and type
abbrev pub tree_var : Bool → TypeAt → ℕ → Var → Item
tree_var global kind i (plain_var x) = to.variable i x global kind None None
tree_var global kind i (array_var x n) = to.variable i x global kind (Some (record { at = suc (suc i); value = n })) None
tree_var global kind i (valued_var x v) = to.variable i x global kind None (Some (tree_first (suc (suc i)) v))

-- Type name [ "=" Const ]
pub data Parameter : Type 0 where
  plain_parameter : (kind : TypeName) (name : List ℕ) → Parameter
  valued_parameter : (kind : TypeName) (name : List ℕ) (first : FirstValue) → Parameter

abbrev pub spell_parameter : Parameter → Tokens → Tokens
spell_parameter (plain_parameter t x) k = type_token t ∷ Name x ∷ k
spell_parameter (valued_parameter t x v) k = type_token t ∷ Name x ∷ Sign sign.Equal ∷ spell_first v k

abbrev pub after_parameter : ℕ → Parameter → ℕ
after_parameter i (plain_parameter t x) = suc (suc i)
after_parameter i (valued_parameter t x v) = after_first (suc (suc (suc i))) v

abbrev pub tree_parameter : ℕ → Parameter → Param
tree_parameter i (plain_parameter t x) = record { at = suc i; name = x; kind = record { at = i; name = t }; first = None }
tree_parameter i (valued_parameter t x v) = record { at = suc i; name = x; kind = record { at = i; name = t }; first = Some (tree_first (suc (suc (suc i))) v) }

-- Functions and files

-- [ Param { "," Param } ]
pub data Parameters : Type 0 where
  no_parameters : Parameters
  parameters : (first : Parameter) (others : List Parameter) → Parameters

abbrev pub spell_parameters : Parameters → Tokens → Tokens
spell_parameters no_parameters k = k
spell_parameters (parameters p ps) k = spell_parameter p (spell_others spell_parameter ps k)

abbrev pub after_parameters : ℕ → Parameters → ℕ
after_parameters i no_parameters = i
after_parameters i (parameters p ps) = after_others after_parameter (after_parameter i p) ps

abbrev pub tree_parameters : ℕ → Parameters → List Param
tree_parameters i no_parameters = []
tree_parameters i (parameters p ps) = tree_parameter i p ∷ tree_others after_parameter tree_parameter (after_parameter i p) ps

-- "FUNCTION" name "(" [ Param { "," Param } ] ")" Body "END"
pub data Function : Type 0 where
  function : (name : List ℕ) (parameters : Parameters) (body : Body) → Function

abbrev pub spell_function : Function → Tokens → Tokens
spell_function (function x ps b) k = Keyword word.Function ∷ Name x ∷ Sign sign.LeftParen ∷ spell_parameters ps (Sign sign.RightParen ∷ spell_body b (Keyword word.End ∷ k))

abbrev pub IsFunction : ℕ → Function → Type 0
IsFunction free (function x ps b) = IsBody free b

abbrev pub after_function : ℕ → Function → ℕ
after_function i (function x ps b) = suc (after_body (suc (after_parameters (suc (suc (suc i))) ps)) b)

abbrev pub tree_function : Bool → Option TypeAt → ℕ → Function → Item
tree_function private gives i (function x ps b) =
    let closes = after_parameters (suc (suc (suc i))) ps in
    to.function (suc i) x private gives (tree_parameters (suc (suc (suc i))) ps) (tree_body (suc closes) b)

pub data Definition : Type 0 where
  -- ";"
  blank : Definition
  -- Func
  plain_function : (of : Function) → Definition
  -- Type Func
  typed_function : (gives : TypeName) (of : Function) → Definition
  -- ("PRIVATE"|"PUBLIC") Func
  seen_function : (private : Bool) (of : Function) → Definition
  -- ("PRIVATE"|"PUBLIC") Type Func
  seen_typed_function : (private : Bool) (gives : TypeName) (of : Function) → Definition
  -- Type Var { "," Var } ";"
  variables : (kind : TypeName) (first : Var) (others : List Var) → Definition
  -- ("GLOBAL"|"MODULE") Type Var { "," Var } ";"
  scoped_variables : (global : Bool) (kind : TypeName) (first : Var) (others : List Var) → Definition

-- PRIVATE or PUBLIC
abbrev pub seen_token : Bool → TokenKind
seen_token true = Keyword word.Private
seen_token false = Keyword word.Public

-- GLOBAL or MODULE
abbrev pub scope_token : Bool → TokenKind
scope_token true = Keyword word.Global
scope_token false = Keyword word.Module

abbrev pub spell_definition : Definition → Tokens → Tokens
spell_definition blank k = Sign sign.Semicolon ∷ k
spell_definition (plain_function f) k = spell_function f k
spell_definition (typed_function t f) k = type_token t ∷ spell_function f k
spell_definition (seen_function p f) k = seen_token p ∷ spell_function f k
spell_definition (seen_typed_function p t f) k = seen_token p ∷ type_token t ∷ spell_function f k
spell_definition (variables t v vs) k = type_token t ∷ spell_var v (spell_others spell_var vs (Sign sign.Semicolon ∷ k))
spell_definition (scoped_variables g t v vs) k = scope_token g ∷ type_token t ∷ spell_var v (spell_others spell_var vs (Sign sign.Semicolon ∷ k))

abbrev pub IsDefinition : ℕ → Definition → Type 0
IsDefinition free blank = Unit {0}
IsDefinition free (plain_function f) = IsFunction free f
IsDefinition free (typed_function t f) = IsFunction free f
IsDefinition free (seen_function p f) = IsFunction free f
IsDefinition free (seen_typed_function p t f) = IsFunction free f
IsDefinition free (variables t v vs) = Unit {0}
IsDefinition free (scoped_variables g t v vs) = Unit {0}

abbrev pub after_definition : ℕ → Definition → ℕ
after_definition i blank = suc i
after_definition i (plain_function f) = after_function i f
after_definition i (typed_function t f) = after_function (suc i) f
after_definition i (seen_function p f) = after_function (suc i) f
after_definition i (seen_typed_function p t f) = after_function (suc (suc i)) f
after_definition i (variables t v vs) = suc (after_others after_var (after_var (suc i) v) vs)
after_definition i (scoped_variables g t v vs) = suc (after_others after_var (after_var (suc (suc i)) v) vs)

-- a function is PUBLIC and a variable is MODULE unless it says otherwise
abbrev pub tree_definition : ℕ → Definition → List Item
tree_definition i blank = []
tree_definition i (plain_function f) = tree_function false None i f ∷ []
tree_definition i (typed_function t f) = tree_function false (Some (record { at = i; name = t })) (suc i) f ∷ []
tree_definition i (seen_function p f) = tree_function p None (suc i) f ∷ []
tree_definition i (seen_typed_function p t f) = tree_function p (Some (record { at = suc i; name = t })) (suc (suc i)) f ∷ []
tree_definition i (variables t v vs) =
    let kind : TypeAt = record { at = i; name = t } in
    tree_var false kind (suc i) v ∷ tree_others after_var (tree_var false kind) (after_var (suc i) v) vs
tree_definition i (scoped_variables g t v vs) =
    let kind : TypeAt = record { at = suc i; name = t } in
    tree_var g kind (suc (suc i)) v ∷ tree_others after_var (tree_var g kind) (after_var (suc (suc i)) v) vs

-- { Item }
abbrev pub spell_file : List Definition → Tokens
spell_file [] = []
spell_file (d ∷ ds) = spell_definition d (spell_file ds)

abbrev pub tree_file : ℕ → List Definition → List Item
tree_file i [] = []
tree_file i (d ∷ ds) = tree_definition i d ++ tree_file (after_definition i d) ds

-- how many levels may be open at once
abbrev pub nesting : ℕ
nesting = MOST_LEVELS

-- The tokens spell the tree, with no more levels open at once than there may be.
pub record derives (tokens : Tokens) (tree : List Item) : Type 0 where
  pub file : List Definition
  pub within : AreAll (IsDefinition nesting) file
  pub spelled : tokens ≡ spell_file file
  pub means : tree ≡ tree_file 0 file
