-- Bound projects, as definitions speak of them: trees whose names are replaced by the numbers of what they mean.
--
-- Meaning and translation read these trees, so what is the same to both is the same here: each local of a declaration
-- that has a first value is an assignment, a call has all its arguments, and a RETURN has its value. Functions, cells and arrays are numbered from 0 in the order of files and places, and the
-- locals of a function in their order, its parameters first. Each `at` is the index of a statement's token in its file.
use Rattle.std.specs.Prelude.{ℕ, ℤ, Bool, List, [], ◌∷◌, Option, Some, None}
use Rattle.ci_base.specs.declared.value.Kind.{Kind}
use Rattle.ci_base.specs.declared.value.Value.{Value}
use Rattle.ci_base.specs.declared.function.PrivateName.{PrivateName}
use Rattle.ci_base.specs.declared.function.SharedName.{SharedName}
use Rattle.ci_tree.specs.declared.tree.Operator.{Operator}
use Rattle.ci_base.specs.declared.relation.Relation.{Relation}

-- a variable without an index: a local of the function, or a shared cell
pub data Scalar : Type 0 where
  local : (i : ℕ) → Scalar
  cell : (c : ℕ) → Scalar

-- what is called
pub data Callee : Type 0 where
  function : (f : ℕ) → Callee
  private : (p : PrivateName) → Callee
  shared : (q : SharedName) → Callee

mutual
  pub data Expr : Type 0 where
    number : (value : ℤ) → Expr
    literal : (text : List ℕ) → Expr
    scalar : (of : Scalar) → Expr
    element : (a : ℕ) (index : Expr) → Expr
    called : (call : Call) → Expr
    -- `-` or NOT
    unary : (minus : Bool) (operand : Expr) → Expr
    chain : (first : Expr) (rest : Links) → Expr

  -- A call: the first `given` of its arguments stand in the source, and the others are the values for those that were left
  -- out. QueRead is apart, since its second and third argument are set.
  pub data Call : Type 0 where
    call : (callee : Callee) (given : ℕ) (args : Exprs) → Call
    que_read : (queue : Expr) (sort text : Scalar) (mode : Expr) → Call

  -- the members of a chain behind the first
  pub data Links : Type 0 where
    no_link : Links
    operand : (operator : Operator) (right : Expr) (rest : Links) → Links
    hashes : (count : ℕ) (rest : Links) → Links

  -- arguments
  pub data Exprs : Type 0 where
    no_expr : Exprs
    more : (first : Expr) (rest : Exprs) → Exprs

-- one member of a chain
pub data Link : Type 0 where
  operand_link : (operator : Operator) (right : Expr) → Link
  hashes_link : (count : ℕ) → Link

-- a label of a clause
pub data Label : Type 0 where
  one : (value : Expr) → Label
  range : (low high : Expr) → Label
  compared : (relation : Relation) (value : Expr) → Label

mutual
  -- a statement, with its first token; an assignment of a declaration has its local's
  pub data Stmt : Type 0 where
    assign : (at : ℕ) (to : Scalar) (value : Expr) → Stmt
    assign_element : (at a : ℕ) (index value : Expr) → Stmt
    call_of : (at : ℕ) (call : Call) → Stmt
    choose : (at : ℕ) (test : Expr) (body : Block) (other : Other) → Stmt
    while : (at : ℕ) (test : Expr) (body : Block) → Stmt
    for : (at : ℕ) (counter : Scalar) (first last : Expr) (body : Block) → Stmt
    -- without ELSE the last block is empty
    select : (at : ℕ) (subject : Expr) (clauses : Clauses) (other : Block) → Stmt
    return : (at : ℕ) (value : Expr) → Stmt

  -- the ELSE part of IF, where there is one
  pub data Other : Type 0 where
    no_other : Other
    other : (body : Block) → Other

  -- the clauses of SELECT
  pub data Clauses : Type 0 where
    no_clause : Clauses
    clause : (labels : List Label) (body : Block) (rest : Clauses) → Clauses

  -- the statements of a body
  pub data Block : Type 0 where
    done : Block
    then : (first : Stmt) (rest : Block) → Block

-- one clause of SELECT
pub record Clause : Type 0 where
  pub labels : List Label
  pub body : Block

-- a parameter, and the value that stands for its argument where that is left out
pub record Param : Type 0 where
  pub kind : Kind
  pub first : Option Value

-- a function of a file
pub record Function : Type 0 where
  pub file : ℕ
  pub name : List ℕ
  -- seen in every file
  pub public : Bool
  pub gives : Option Kind
  pub params : List Param
  -- the kinds of the locals behind the parameters
  pub others : List Kind
  pub body : Block

-- a shared cell, and what it holds at first
pub record Cell : Type 0 where
  pub kind : Kind
  pub first : Value

-- an array: its first cell, the kind of its cells, and how many there are
pub record Array : Type 0 where
  pub first : ℕ
  pub kind : Kind
  pub length : ℕ

-- a GLOBAL scalar
pub record Global : Type 0 where
  pub name : List ℕ
  pub cell : ℕ

-- a bound project
pub record Project : Type 0 where
  pub functions : List Function
  pub cells : List Cell
  pub arrays : List Array
  pub globals : List Global

-- lists of members
abbrev pub links_from : List Link → Links
links_from [] = no_link
links_from ((operand_link operator right) ∷ links) = operand operator right (links_from links)
links_from ((hashes_link count) ∷ links) = hashes count (links_from links)

abbrev pub exprs_from : List Expr → Exprs
exprs_from [] = no_expr
exprs_from (e ∷ es) = more e (exprs_from es)

abbrev pub block_from : List Stmt → Block
block_from [] = done
block_from (s ∷ ss) = then s (block_from ss)

abbrev pub clauses_from : List Clause → Clauses
clauses_from [] = no_clause
clauses_from (c ∷ cs) = clause c.labels c.body (clauses_from cs)

abbrev pub other_from : Option Block → Other
other_from None = no_other
other_from (Some b) = other b
