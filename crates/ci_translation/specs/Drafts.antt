-- The code of a tree, as the list of its instructions. Shapes and texts stand in it themselves, and not yet by number.
--
-- A part's code stands over operands of the kinds `below`, and its first instruction at a place p, which jumps within it need.
use Rattle.std.specs.Prelude.{ℕ, ◌+◌, pos, List, [], ◌∷◌, ◌++◌}
use Rattle.ci_base.specs.declared.function.SharedName.TheVariants as shared
use Rattle.ci_base.specs.declared.relation.Relation.{Relation}
use Rattle.ci_base.specs.declared.relation.Relation.TheVariants as relation
use Rattle.ci_base.specs.declared.value.Kind.{Kind}
use Rattle.ci_base.specs.declared.value.Kind.TheVariants.{Int, Str}
use Rattle.ci_code.specs.declared.instruction.Instruction.{Instruction}
use Rattle.ci_code.specs.declared.instruction.Instruction.TheVariants as does
use Rattle.ci_tree.specs.Bound as to
use Rattle.ci_tree.specs.Bound.{Scalar, Expr, Call, Links, Exprs, Label, Stmt, Other, Clauses, Block, Function, Project}
use Rattle.ci_tree.specs.Sound.{Context, scalar_kind, array_kind, call_kind, context_of}
use Rattle.ci_translation.specs.Instructions.{past, comparing, within, operating, operated, turning, reading, writing, calling, left_kind, largest}

-- what is done at a place: a text is left, or another instruction stands there
pub data Doing : Type 0 where
  push_text : (text : List ℕ) → Doing
  plain : (what : Instruction) → Doing

-- a place: the kinds of the operands that stand before it, the latest last, and what is done there
pub record Draft : Type 0 where
  pub before : List Kind
  pub doing : Doing

abbrev pub step : List Kind → Instruction → Draft
step before what = record { before = before; doing = plain what }

abbrev pub text_step : List Kind → List ℕ → Draft
text_step before text = record { before = before; doing = push_text text }

-- 0 or the empty text is left
abbrev pub first_step : List Kind → Kind → Draft
first_step before Int = step before (does.PushInt (pos 0))
first_step before Str = text_step before []

-- The kind of what an expression leaves. It looks for nothing that is wrong; where nothing is, it is the kind of the expression.
abbrev pub links_leave : Kind → Links → Kind
links_leave k to.no_link = k
links_leave k (to.operand op right rest) = links_leave (left_kind (operated op k)) rest
links_leave k (to.hashes count rest) = links_leave Str rest

abbrev pub kind_in : Context → Expr → Kind
kind_in c (to.number n) = Int
kind_in c (to.literal text) = Str
kind_in c (to.scalar of) = left_kind (scalar_kind c of)
kind_in c (to.element a index) = left_kind (array_kind c a)
kind_in c (to.called what) = left_kind (call_kind c what)
kind_in c (to.unary minus operand) = Int
kind_in c (to.chain first rest) = links_leave (kind_in c first) rest

-- How many instructions a part takes

-- those behind QueRead's mode: the request, and the assignment of the element
abbrev pub que_size : ℕ
que_size = 8

abbrev mutual
  pub expr_size : Expr → ℕ
  expr_size (to.number n) = 1
  expr_size (to.literal text) = 1
  expr_size (to.scalar of) = 1
  expr_size (to.element a index) = expr_size index + 1
  expr_size (to.called what) = call_size what
  expr_size (to.unary minus operand) = expr_size operand + 1
  expr_size (to.chain first rest) = expr_size first + links_size rest

  pub call_size : Call → ℕ
  call_size (to.call callee given args) = args_size args + 1
  call_size (to.que_read queue sort text mode) = expr_size queue + expr_size mode + que_size

  pub links_size : Links → ℕ
  links_size to.no_link = 0
  links_size (to.operand op right rest) = expr_size right + 1 + links_size rest
  links_size (to.hashes count rest) = 1 + links_size rest

  pub args_size : Exprs → ℕ
  args_size to.no_expr = 0
  args_size (to.more first rest) = expr_size first + args_size rest

-- a label is tried: its value or values behind Dup, its test, and two jumps
abbrev pub label_size : Label → ℕ
label_size (to.one e) = 1 + expr_size e + 3
label_size (to.range low high) = 1 + expr_size low + expr_size high + 3
label_size (to.compared r e) = 1 + expr_size e + 3

abbrev pub labels_size : List Label → ℕ
labels_size [] = 0
labels_size (label ∷ labels) = label_size label + labels_size labels

abbrev mutual
  pub stmt_size : Stmt → ℕ
  stmt_size (to.assign at target value) = 1 + expr_size value + 1
  stmt_size (to.assign_element at a index value) = 1 + expr_size index + expr_size value + 1
  stmt_size (to.call_of at what) = 1 + call_size what + 1
  stmt_size (to.choose at test body last) = 1 + expr_size test + 1 + block_size body + other_size last
  stmt_size (to.while at test body) = 2 + expr_size test + 1 + block_size body + 1
  stmt_size (to.for at counter begin last body) = 1 + expr_size begin + expr_size last + 7 + block_size body + 11
  stmt_size (to.select at subject clauses last) = 1 + expr_size subject + clauses_size clauses + 1 + block_size last
  stmt_size (to.return at value) = 1 + expr_size value + 1

  pub other_size : Other → ℕ
  other_size to.no_other = 0
  other_size (to.other body) = 1 + block_size body

  pub clauses_size : Clauses → ℕ
  clauses_size to.no_clause = 0
  clauses_size (to.clause labels body rest) = labels_size labels + 2 + block_size body + 1 + clauses_size rest

  pub block_size : Block → ℕ
  block_size to.done = 0
  block_size (to.then s rest) = stmt_size s + block_size rest

-- Expressions

-- the request of QueRead over its two operands, and the assignment of the element where the answer is 0
abbrev pub que_code : List Kind → ℕ → Scalar → Scalar → List Draft
que_code below p sort text =
    step (below ++ Int ∷ Int ∷ []) (does.Ask shared.QueRead)
    ∷ step (below ++ Int ∷ []) does.Dup
    ∷ step (below ++ Int ∷ Int ∷ []) (does.JumpIfZero (past 4 p))
    ∷ step (below ++ Int ∷ []) (does.Jump (past 8 p))
    ∷ step (below ++ Int ∷ []) does.TakeSort
    ∷ step (below ++ Int ∷ Int ∷ []) (writing sort)
    ∷ step (below ++ Int ∷ []) does.TakeText
    ∷ step (below ++ Int ∷ Str ∷ []) (writing text)
    ∷ []

-- the kinds of arguments
abbrev pub kinds_in : Context → Exprs → List Kind
kinds_in c to.no_expr = []
kinds_in c (to.more e rest) = kind_in c e ∷ kinds_in c rest

abbrev mutual
  pub expr_code : Context → List Kind → ℕ → Expr → List Draft
  expr_code c below p (to.number n) = step below (does.PushInt n) ∷ []
  expr_code c below p (to.literal text) = text_step below text ∷ []
  expr_code c below p (to.scalar of) = step below (reading of) ∷ []
  expr_code c below p (to.element a index) = expr_code c below p index ++ step (below ++ Int ∷ []) (does.ReadAt a) ∷ []
  expr_code c below p (to.called what) = call_code c below p what
  expr_code c below p (to.unary minus operand) = expr_code c below p operand ++ step (below ++ Int ∷ []) (turning minus) ∷ []
  expr_code c below p (to.chain e rest) = expr_code c below p e ++ links_code c below (kind_in c e) (p + expr_size e) rest

  pub call_code : Context → List Kind → ℕ → Call → List Draft
  call_code c below p (to.call callee given args) = args_code c below p args ++ step (below ++ kinds_in c args) (calling callee) ∷ []
  call_code c below p (to.que_read queue sort text mode) =
      expr_code c below p queue
      ++ (expr_code c (below ++ Int ∷ []) (p + expr_size queue) mode
      ++ que_code below (p + expr_size queue + expr_size mode) sort text)

  -- what follows behind a value of kind k
  pub links_code : Context → List Kind → Kind → ℕ → Links → List Draft
  links_code c below k p to.no_link = []
  links_code c below k p (to.operand op right rest) =
      expr_code c (below ++ k ∷ []) p right
      ++ step (below ++ k ∷ k ∷ []) (operating op k)
      ∷ links_code c below (left_kind (operated op k)) (p + expr_size right + 1) rest
  links_code c below k p (to.hashes count rest) = step (below ++ Int ∷ []) (does.Form count) ∷ links_code c below Str (p + 1) rest

  pub args_code : Context → List Kind → ℕ → Exprs → List Draft
  args_code c below p to.no_expr = []
  args_code c below p (to.more e rest) = expr_code c below p e ++ args_code c (below ++ kind_in c e ∷ []) (p + expr_size e) rest

-- Labels and clauses of SELECT, over a subject of kind k

-- behind a label's test: where it holds, on to the place b, and else to the next label
abbrev pub pick_code : List Kind → ℕ → ℕ → List Draft
pick_code below b p = step (below ++ Int ∷ []) (does.JumpIfZero (past 2 p)) ∷ step below (does.Jump b) ∷ []

-- a label with one value, which the subject is to stand to so
abbrev pub match_code : Context → List Kind → Kind → Relation → ℕ → ℕ → Expr → List Draft
match_code c below k r b p e =
    step (below ++ k ∷ []) does.Dup
    ∷ (expr_code c (below ++ k ∷ k ∷ []) (p + 1) e
    ++ step (below ++ k ∷ k ∷ k ∷ []) (comparing r k)
    ∷ pick_code (below ++ k ∷ []) b (p + 1 + expr_size e + 1))

abbrev pub label_code : Context → List Kind → Kind → ℕ → ℕ → Label → List Draft
label_code c below k b p (to.one e) = match_code c below k relation.Equal b p e
label_code c below k b p (to.compared r e) = match_code c below k r b p e
label_code c below k b p (to.range low high) =
    step (below ++ k ∷ []) does.Dup
    ∷ (expr_code c (below ++ k ∷ k ∷ []) (p + 1) low
    ++ (expr_code c (below ++ k ∷ k ∷ k ∷ []) (p + 1 + expr_size low) high
    ++ step (below ++ k ∷ k ∷ k ∷ k ∷ []) (within k)
    ∷ pick_code (below ++ k ∷ []) b (p + 1 + expr_size low + expr_size high + 1)))

abbrev pub labels_code : Context → List Kind → Kind → ℕ → ℕ → List Label → List Draft
labels_code c below k b p [] = []
labels_code c below k b p (label ∷ labels) = label_code c below k b p label ++ labels_code c below k b (p + label_size label) labels

-- Statements

-- the test of FOR, which leads to e where the counter is above the last value
abbrev pub count_code : List Kind → Scalar → ℕ → List Draft
count_code below counter e =
    step (below ++ Int ∷ []) does.Tick
    ∷ step (below ++ Int ∷ []) does.Dup
    ∷ step (below ++ Int ∷ Int ∷ []) (reading counter)
    ∷ step (below ++ Int ∷ Int ∷ Int ∷ []) (does.CmpInt relation.AtLeast)
    ∷ step (below ++ Int ∷ Int ∷ []) (does.JumpIfZero e)
    ∷ []

-- behind the body of FOR, from p on: the counter goes up, and the test at l is next
abbrev pub raise_code : List Kind → Scalar → ℕ → ℕ → List Draft
raise_code below counter p l =
    step (below ++ Int ∷ []) (reading counter)
    ∷ step (below ++ Int ∷ Int ∷ []) does.Dup
    ∷ step (below ++ Int ∷ Int ∷ Int ∷ []) largest
    ∷ step (below ++ Int ∷ Int ∷ Int ∷ Int ∷ []) (does.CmpInt relation.Unequal)
    ∷ step (below ++ Int ∷ Int ∷ Int ∷ []) (does.JumpIfZero (past 9 p))
    ∷ step (below ++ Int ∷ Int ∷ []) (does.PushInt (pos 1))
    ∷ step (below ++ Int ∷ Int ∷ Int ∷ []) does.Add
    ∷ step (below ++ Int ∷ Int ∷ []) (writing counter)
    ∷ step (below ++ Int ∷ []) (does.Jump l)
    ∷ step (below ++ Int ∷ Int ∷ []) does.Drop
    ∷ step (below ++ Int ∷ []) does.Drop
    ∷ []

abbrev mutual
  pub stmt_code : Context → List Kind → ℕ → Stmt → List Draft
  stmt_code c below p (to.assign at target value) =
      step below does.Tick ∷ (expr_code c below (p + 1) value ++ step (below ++ kind_in c value ∷ []) (writing target) ∷ [])
  stmt_code c below p (to.assign_element at a index value) =
      step below does.Tick
      ∷ (expr_code c below (p + 1) index
      ++ (expr_code c (below ++ Int ∷ []) (p + 1 + expr_size index) value ++ step (below ++ Int ∷ kind_in c value ∷ []) (does.WriteAt a) ∷ []))
  stmt_code c below p (to.call_of at what) =
      step below does.Tick ∷ (call_code c below (p + 1) what ++ step (below ++ left_kind (call_kind c what) ∷ []) does.Drop ∷ [])
  stmt_code c below p (to.choose at test body last) =
      let x : ℕ = p + 1 + expr_size test in
      let y : ℕ = x + 1 + block_size body in
      step below does.Tick ∷ (expr_code c below (p + 1) test ++ step (below ++ Int ∷ []) (does.JumpIfZero (else_place last y)) ∷ (block_code c below (x + 1) body ++ other_code c below y last))
  stmt_code c below p (to.while at test body) =
      let x : ℕ = past 2 p + expr_size test in
      let y : ℕ = x + 1 + block_size body in
      step below does.Tick
      ∷ step below does.Tick
      ∷ (expr_code c below (past 2 p) test
      ++ step (below ++ Int ∷ []) (does.JumpIfZero (y + 1))
      ∷ (block_code c below (x + 1) body ++ step below (does.Jump (p + 1)) ∷ []))
  stmt_code c below p (to.for at counter begin last body) =
      let y : ℕ = p + 1 + expr_size begin + expr_size last in
      let l : ℕ = past 2 y in
      let r : ℕ = past 5 l + block_size body in
      step below does.Tick
      ∷ (expr_code c below (p + 1) begin
      ++ (expr_code c (below ++ Int ∷ []) (p + 1 + expr_size begin) last
      ++ step (below ++ Int ∷ Int ∷ []) does.Swap
      ∷ step (below ++ Int ∷ Int ∷ []) (writing counter)
      ∷ (count_code below counter (past 10 r) ++ (block_code c (below ++ Int ∷ []) (past 5 l) body ++ raise_code below counter r l))))
  stmt_code c below p (to.select at subject clauses last) =
      let x : ℕ = p + 1 + expr_size subject in
      let y : ℕ = x + clauses_size clauses in
      step below does.Tick
      ∷ (expr_code c below (p + 1) subject
      ++ (clauses_code c below (kind_in c subject) (y + 1 + block_size last) x clauses
      ++ step (below ++ kind_in c subject ∷ []) does.Drop
      ∷ block_code c below (y + 1) last))
  stmt_code c below p (to.return at value) =
      step below does.Tick ∷ (expr_code c below (p + 1) value ++ step (below ++ left_kind c.gives ∷ []) does.Return ∷ [])

  -- where a test that fails leads to, when the body of IF ends at y
  pub else_place : Other → ℕ → ℕ
  else_place to.no_other y = y
  else_place (to.other body) y = y + 1

  pub other_code : Context → List Kind → ℕ → Other → List Draft
  other_code c below y to.no_other = []
  other_code c below y (to.other body) = step below (does.Jump (y + 1 + block_size body)) ∷ block_code c below (y + 1) body

  -- the clauses of SELECT, which ends at z
  pub clauses_code : Context → List Kind → Kind → ℕ → ℕ → Clauses → List Draft
  clauses_code c below k z p to.no_clause = []
  clauses_code c below k z p (to.clause labels body rest) =
      let x : ℕ = p + labels_size labels in
      let y : ℕ = past 2 x + block_size body in
      labels_code c below k (x + 1) p labels
      ++ step (below ++ k ∷ []) (does.Jump (y + 1))
      ∷ step (below ++ k ∷ []) does.Drop
      ∷ (block_code c below (past 2 x) body ++ step below (does.Jump z) ∷ clauses_code c below k z (y + 1) rest)

  pub block_code : Context → List Kind → ℕ → Block → List Draft
  block_code c below p to.done = []
  block_code c below p (to.then s rest) = stmt_code c below p s ++ block_code c below (p + stmt_size s) rest

-- The code of a function: its entry, its body, and its END, which gives 0 or the empty text.
abbrev pub function_code : Project → Function → List Draft
function_code p f =
    step [] does.Tick
    ∷ (block_code (context_of p f) [] 1 f.body
    ++ first_step [] (left_kind f.gives)
    ∷ step (left_kind f.gives ∷ []) does.Return
    ∷ [])
