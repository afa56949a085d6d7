-- Where one task stands on the tree: the part in hand, what its value is wanted for, and what is left to do behind it.
use Rattle.std.specs.Prelude.{ℕ, Bool, false, List, [], ◌∷◌, ◌++◌, map, slice_get, unwrap_or}
use Rattle.ci_base.specs.declared.relation.Relation.{Relation}
use Rattle.ci_base.specs.declared.value.Value.{Value}
use Rattle.ci_base.specs.Heard.{Element, no_element}
use Rattle.ci_base.specs.Values.{first_of_kind}
use Rattle.ci_tree.specs.declared.tree.Operator.{Operator}
use Rattle.ci_tree.specs.Bound.{Scalar, Callee, Expr, Links, Exprs, Label, Other, Clauses, Block, Function, Project, done}
use Rattle.std.specs.Prelude.{None}

-- the two variables that QueRead sets
pub record Targets : Type 0 where
  pub sort : Scalar
  pub text : Scalar

-- a FOR that runs: its counter, its last value and its body
pub record Counting : Type 0 where
  pub counter : Scalar
  pub last : Value
  pub body : Block

-- a clause of SELECT that is tried: its body, the clauses behind it, and the ELSE part
pub record Branch : Type 0 where
  pub body : Block
  pub rest : Clauses
  pub other : Block

-- what the value in hand is wanted for, inside its expression
pub data Want : Type 0 where
  -- it is the operand of `-`, where minus, or of NOT
  as_operand : (minus : Bool) → Want
  -- it is the front of a chain: the members behind it
  as_front : (rest : Links) → Want
  -- it is a right operand: the left one, the operator, and the members behind it
  as_right : (left : Value) (op : Operator) (rest : Links) → Want
  -- it is the index of an element of this array
  as_index : (a : ℕ) → Want
  -- it is an argument: those before it, the latest first, and those behind it
  as_argument : (callee : Callee) (before : List Value) (rest : Exprs) → Want
  -- it is QueRead's number of a queue; its mode; its answer, with the sort and then the text to be set
  as_queue : (mode : Expr) (targets : Targets) → Want
  as_mode : (queue : Value) (targets : Targets) → Want
  as_answer : (targets : Targets) → Want
  as_kept : (target : Scalar) → Want

-- what the whole expression is for
pub data Aim : Type 0 where
  -- it is assigned
  to_store : (to : Scalar) → Aim
  -- it is the index of an element that is assigned; or the value, behind the index
  to_index : (a : ℕ) (value : Expr) → Aim
  to_element : (a : ℕ) (index : Value) → Aim
  -- it is the test of IF, or of WHILE
  to_choose : (body : Block) (other : Other) → Aim
  to_turn : (test : Expr) (body : Block) → Aim
  -- it is the first value of FOR, or the last; or the counter, at a test and behind the body
  to_begin : (counter : Scalar) (last : Expr) (body : Block) → Aim
  to_count : (first : Value) (counter : Scalar) (body : Block) → Aim
  to_compare : (counting : Counting) → Aim
  to_raise : (counting : Counting) → Aim
  -- it is the subject of SELECT; or a label to which the subject is to stand so, or the low or the high end of one
  to_select : (clauses : Clauses) (other : Block) → Aim
  to_match : (of : Value) (relation : Relation) (labels : List Label) (branch : Branch) → Aim
  to_low : (of : Value) (high : Expr) (labels : List Label) (branch : Branch) → Aim
  to_high : (of low : Value) (labels : List Label) (branch : Branch) → Aim
  -- the function gives it; or it is dropped
  to_return : Aim
  to_drop : Aim

-- what is left to do in the function, behind what is in hand
pub data Left : Type 0 where
  run : (rest : Block) → Left
  -- WHILE's next test
  again : (test : Expr) (body : Block) → Left
  -- FOR's next test; and the end of its body
  round : (counting : Counting) → Left
  bump : (counting : Counting) → Left
  -- the clauses of SELECT; and the labels of one
  sift : (of : Value) (clauses : Clauses) (other : Block) → Left
  pick : (of : Value) (labels : List Label) (branch : Branch) → Left

-- the part in hand
pub data Hand : Type 0 where
  -- an expression that is to be evaluated
  eval : (e : Expr) (wants : List Want) (aim : Aim) → Hand
  -- its value
  give : (v : Value) (wants : List Want) (aim : Aim) → Hand
  -- a shared cell that is to be written, and the hand after that
  write : (c : ℕ) (v : Value) (after : Hand) → Hand
  -- a function that is to be entered
  enter : Hand
  -- nothing
  go : Hand

-- a function that waits for the value of a call
pub record Caller : Type 0 where
  pub function : ℕ
  pub locals : List Value
  pub wants : List Want
  pub aim : Aim
  pub left : List Left

-- a task, but for what is in hand: the function that runs, its locals, what is left of it, and the functions that wait, the latest first;
-- the last error, the last element read, and whether the task goes on after run errors
pub record Task : Type 0 where
  pub function : ℕ
  pub locals : List Value
  pub left : List Left
  pub callers : List Caller
  pub error : ℕ
  pub last : Element
  pub goes_on : Bool

-- where a task stands
pub record Configuration : Type 0 where
  pub hand : Hand
  pub task : Task

abbrev pub with : Hand → Task → Configuration
with hand task = record { hand = hand; task = task }

-- what stands for a function that isn't there; no project names such
abbrev pub no_function : Function
no_function = record { file = 0; name = []; public = false; gives = None; params = []; others = []; body = done }

-- the function of this number
abbrev pub function_in : List Function → ℕ → Function
function_in fs f = unwrap_or (slice_get fs f) no_function

abbrev pub function_at : Project → ℕ → Function
function_at p f = function_in p.functions f

-- the locals of a function that is called with these arguments: the others hold 0 or the empty text
abbrev pub locals_with : Function → List Value → List Value
locals_with f args = args ++ map first_of_kind f.others

-- where a task stands that is started from a function with these arguments
abbrev pub opening : Project → ℕ → List Value → Configuration
opening p f args = with enter (record {
  function = f;
  locals = locals_with (function_at p f) args;
  left = run (function_at p f).body ∷ [];
  callers = [];
  error = 0;
  last = no_element;
  goes_on = false;
})
