-- Syntax trees, as definitions speak of them.
--
-- The types of the code lead back to themselves through lists and boxes, and a definition can't go down them by cases.
-- So definitions speak of these trees, in which each list that leads back is a type of its own, and Seen says which
-- of them a value of the code is. What doesn't lead back (types, lengths, first values, parameters) is the code's own.
-- Each number `at`, `start`, `equals` or `name_at` is the index of a token.
use Rattle.std.specs.Prelude.{ℕ, ℤ, Bool, List, [], ◌∷◌, Option, Some, None}
use Rattle.ci_tree.specs.declared.tree.TypeAt.{TypeAt}
use Rattle.ci_tree.specs.declared.tree.Length.{Length}
use Rattle.ci_tree.specs.declared.tree.Const.{Const}
use Rattle.ci_tree.specs.declared.tree.Operator.{Operator}
use Rattle.ci_base.specs.declared.relation.Relation.{Relation}
use Rattle.ci_tree.specs.declared.tree.Param.{Param}

mutual
  -- an expression: its first token, parentheses included, and the token that tells what it is
  pub data Expr : Type 0 where
    expr : (start at : ℕ) (what : What) → Expr

  -- what an expression is
  pub data What : Type 0 where
    number : (value : ℤ) → What
    literal : (text : List ℕ) → What
    name : (name : List ℕ) → What
    element : (name : List ℕ) (index : Expr) → What
    call : (name : List ℕ) (args : Exprs) → What
    unary : (minus : Bool) (operand : Expr) → What
    chain : (first : Expr) (rest : Links) → What

  -- the members of a chain behind the first
  pub data Links : Type 0 where
    no_link : Links
    operand : (at : ℕ) (operator : Operator) (right : Expr) (rest : Links) → Links
    hashes : (at : ℕ) (count : ℕ) (rest : Links) → Links

  -- arguments
  pub data Exprs : Type 0 where
    no_expr : Exprs
    more : (first : Expr) (rest : Exprs) → Exprs

-- one member of a chain
pub data Link : Type 0 where
  operand_link : (at : ℕ) (operator : Operator) (right : Expr) → Link
  hashes_link : (at : ℕ) (count : ℕ) → Link

-- a local of a declaration
pub record Local : Type 0 where
  pub at : ℕ
  pub name : List ℕ
  pub value : Option Expr

-- a label of a clause
pub data Label : Type 0 where
  one : (value : Expr) → Label
  range : (low high : Expr) → Label
  compared : (at : ℕ) (relation : Relation) (value : Expr) → Label

mutual
  -- a statement, with its first token
  pub data Stmt : Type 0 where
    declare : (at : ℕ) (kind : TypeAt) (locals : List Local) → Stmt
    assign : (at : ℕ) (name : List ℕ) (index : Option Expr) (equals : ℕ) (value : Expr) → Stmt
    call_of : (at : ℕ) (name : List ℕ) (args : Exprs) → Stmt
    choose : (at : ℕ) (test : Expr) (body : Block) (other : Other) → Stmt
    while : (at : ℕ) (test : Expr) (body : Block) → Stmt
    for : (at name_at : ℕ) (name : List ℕ) (first last : Expr) (body : Block) → Stmt
    select : (at : ℕ) (subject : Expr) (clauses : Clauses) (other : Other) → Stmt
    return : (at : ℕ) (value : Option Expr) → Stmt

  -- an ELSE part, where there is one
  pub data Other : Type 0 where
    no_other : Other
    other : (body : Block) → Other

  -- the clauses of SELECT, each with its CASE
  pub data Clauses : Type 0 where
    no_clause : Clauses
    clause : (at : ℕ) (labels : List Label) (body : Block) (rest : Clauses) → Clauses

  -- the statements of a body
  pub data Block : Type 0 where
    done : Block
    then : (first : Stmt) (rest : Block) → Block

-- one clause of SELECT
pub record Clause : Type 0 where
  pub at : ℕ
  pub labels : List Label
  pub body : Block

-- a function or a variable, with its name's token
pub data Item : Type 0 where
  function : (at : ℕ) (name : List ℕ) (private : Bool) (gives : Option TypeAt) (params : List Param) (body : Block) → Item
  variable : (at : ℕ) (name : List ℕ) (global : Bool) (kind : TypeAt) (length : Option Length) (first : Option Const) → Item

-- lists of members
abbrev pub links_from : List Link → Links
links_from [] = no_link
links_from ((operand_link at operator right) ∷ links) = operand at operator right (links_from links)
links_from ((hashes_link at count) ∷ links) = hashes at count (links_from links)

abbrev pub exprs_from : List Expr → Exprs
exprs_from [] = no_expr
exprs_from (e ∷ es) = more e (exprs_from es)

abbrev pub block_from : List Stmt → Block
block_from [] = done
block_from (s ∷ ss) = then s (block_from ss)

abbrev pub clauses_from : List Clause → Clauses
clauses_from [] = no_clause
clauses_from (c ∷ cs) = clause c.at c.labels c.body (clauses_from cs)

abbrev pub other_from : Option Block → Other
other_from None = no_other
other_from (Some b) = other b
