-- The code of a tree, as a relation between two places of a function: from the first up to the second stands the code of a part,
-- over operands of certain kinds. Each place between is such that the parts fit, and so is each place that a jump leads to.
use Rattle.std.specs.Prelude.{◌≡◌, ℕ, ◌+◌, pos, List, [], ◌∷◌, ◌++◌, length, map, Option, Some, slice_get}
use Rattle.ci_base.specs.declared.function.SharedName.TheVariants as shared
use Rattle.ci_base.specs.declared.relation.Relation.TheVariants as relation
use Rattle.ci_base.specs.declared.value.Kind.{Kind}
use Rattle.ci_base.specs.declared.value.Kind.TheVariants.{Int, Str}
use Rattle.ci_code.specs.declared.instruction.Instruction.{Instruction}
use Rattle.ci_code.specs.declared.instruction.Instruction.TheVariants as does
use Rattle.ci_code.specs.declared.raw.Cells.{Cells}
use Rattle.ci_code.specs.declared.raw.RawFunction.{RawFunction}
use Rattle.ci_code.specs.declared.raw.RawParts.{RawParts}
use Rattle.ci_tree.specs.Bound as to
use Rattle.ci_tree.specs.Bound.{Scalar, Callee, Expr, Call, Links, Exprs, Label, Stmt, Other, Clauses, Block, Function, Array, Project}
use Rattle.ci_tree.specs.Layouts.{layout_of}
use Rattle.ci_tree.specs.Rooms.{room}
use Rattle.ci_tree.specs.Sound.{Context, Signature, signature, scalar_kind, array_kind, context_of, param_kinds}
use Rattle.ci_translation.specs.Instructions.{past, comparing, within, operating, operated, turning, reading, writing, calling, left_kind, largest}

-- the function whose code is looked at: in which code, and what its tree stands in
pub record Scope : Type 0 where
  pub code : RawParts
  pub function : RawFunction
  pub context : Context

-- at a place stands an instruction, with that shape before it
pub record Is (s : Scope) (before : List Kind) (p : ℕ) (what : Instruction) : Type 0 where
  pub shape : ℕ
  pub found : slice_get s.function.steps p ≡ Some (record { shape = shape; what = what })
  pub shaped : slice_get s.code.shapes shape ≡ Some before

-- at a place a text is left
pub record Pushes (s : Scope) (before : List Kind) (p : ℕ) (text : List ℕ) : Type 0 where
  pub number : ℕ
  pub is : Is s before p (does.PushStr number)
  pub named : slice_get s.code.texts number ≡ Some text

-- at a place 0 or the empty text is left
abbrev pub PushesFirst : Scope → List Kind → ℕ → Kind → Type 0
PushesFirst s before p Int = Is s before p (does.PushInt (pos 0))
PushesFirst s before p Str = Pushes s before p []

-- the answer to QueRead is an operand: where it is 0 the element is assigned, its sort first
pub record KeepsAt (s : Scope) (below : List Kind) (sort text : Scalar) (p q : ℕ) : Type 0 where
  pub sort_kind : scalar_kind s.context sort ≡ Some Int
  pub text_kind : scalar_kind s.context text ≡ Some Str
  pub twice : Is s (below ++ Int ∷ []) p does.Dup
  pub zero : Is s (below ++ Int ∷ Int ∷ []) (past 1 p) (does.JumpIfZero (past 3 p))
  pub leave : Is s (below ++ Int ∷ []) (past 2 p) (does.Jump q)
  pub take_sort : Is s (below ++ Int ∷ []) (past 3 p) does.TakeSort
  pub write_sort : Is s (below ++ Int ∷ Int ∷ []) (past 4 p) (writing sort)
  pub take_text : Is s (below ++ Int ∷ []) (past 5 p) does.TakeText
  pub write_text : Is s (below ++ Int ∷ Str ∷ []) (past 6 p) (writing text)
  pub over : q ≡ past 7 p

abbrev mutual
  -- an expression, which leaves a value of that kind; without a kind it leaves an INT that nobody reads
  pub ExprAt : Scope → List Kind → Expr → Option Kind → ℕ → ℕ → Type 0
  ExprAt s below (to.number n) kind p q = (kind ≡ Some Int) × Is s below p (does.PushInt n) × (q ≡ p + 1)
  ExprAt s below (to.literal text) kind p q = (kind ≡ Some Str) × Pushes s below p text × (q ≡ p + 1)
  ExprAt s below (to.scalar of) kind p q = (k : Kind) × (kind ≡ Some k) × (scalar_kind s.context of ≡ Some k) × Is s below p (reading of) × (q ≡ p + 1)
  ExprAt s below (to.element a index) kind p q =
      (k : Kind) × (x : ℕ) × (kind ≡ Some k) × (array_kind s.context a ≡ Some k) × ExprAt s below index (Some Int) p x × Is s (below ++ Int ∷ []) x (does.ReadAt a) × (q ≡ x + 1)
  ExprAt s below (to.called what) kind p q = CallAt s below what kind p q
  ExprAt s below (to.unary minus operand) kind p q =
      (x : ℕ) × (kind ≡ Some Int) × ExprAt s below operand (Some Int) p x × Is s (below ++ Int ∷ []) x (turning minus) × (q ≡ x + 1)
  ExprAt s below (to.chain first rest) kind p q = (k : Kind) × (x : ℕ) × ExprAt s below first (Some k) p x × LinksAt s below rest k kind x q

  -- a call: its arguments, those for what was left out among them, and the call itself
  pub CallAt : Scope → List Kind → Call → Option Kind → ℕ → ℕ → Type 0
  CallAt s below (to.call callee given args) kind p q =
      (x : ℕ) × (head : Signature) × (signature s.context callee ≡ Some head) × ArgsAt s below args head.takes p x × Is s (below ++ head.takes) x (calling callee) × (kind ≡ head.gives) × (q ≡ x + 1)
  CallAt s below (to.que_read queue sort text mode) kind p q =
      (x : ℕ) × (y : ℕ) × (kind ≡ Some Int) × ExprAt s below queue (Some Int) p x × ExprAt s (below ++ Int ∷ []) mode (Some Int) x y × Is s (below ++ Int ∷ Int ∷ []) y (does.Ask shared.QueRead) × KeepsAt s below sort text (y + 1) q

  -- what follows in a chain behind a value of kind k
  pub LinksAt : Scope → List Kind → Links → Kind → Option Kind → ℕ → ℕ → Type 0
  LinksAt s below to.no_link k kind p q = (kind ≡ Some k) × (p ≡ q)
  LinksAt s below (to.operand op right rest) k kind p q =
      (x : ℕ) × (j : Kind) × (operated op k ≡ Some j) × ExprAt s (below ++ k ∷ []) right (Some k) p x × Is s (below ++ k ∷ k ∷ []) x (operating op k) × LinksAt s below rest j kind (x + 1) q
  LinksAt s below (to.hashes count rest) k kind p q = (k ≡ Int) × Is s (below ++ Int ∷ []) p (does.Form count) × LinksAt s below rest Str kind (p + 1) q

  -- arguments of these kinds
  pub ArgsAt : Scope → List Kind → Exprs → List Kind → ℕ → ℕ → Type 0
  ArgsAt s below to.no_expr [] p q = p ≡ q
  ArgsAt s below to.no_expr (k ∷ kinds) p q = ⊥
  ArgsAt s below (to.more first rest) [] p q = ⊥
  ArgsAt s below (to.more first rest) (k ∷ kinds) p q = (x : ℕ) × ExprAt s below first (Some k) p x × ArgsAt s (below ++ k ∷ []) rest kinds x q

-- The parts of statements. The code of what stands inside, from place to place, is given.

-- the test of WHILE, at l, and its body
pub record TurnsAt (s : Scope) (below : List Kind) (test body : ℕ → ℕ → Type 0) (l q : ℕ) : Type 0 where
  pub x : ℕ
  pub y : ℕ
  pub tick : Is s below l does.Tick
  pub tested : test (l + 1) x
  pub leave : Is s (below ++ Int ∷ []) x (does.JumpIfZero q)
  pub ran : body (x + 1) y
  pub back : Is s below y (does.Jump l)
  pub over : q ≡ y + 1

-- behind the body of FOR the counter goes up, and the test at l is next; a counter that is the largest INT leads to q
pub record RaisesAt (s : Scope) (below : List Kind) (counter : Scalar) (p l q : ℕ) : Type 0 where
  pub load : Is s (below ++ Int ∷ []) p (reading counter)
  pub twice : Is s (below ++ Int ∷ Int ∷ []) (past 1 p) does.Dup
  pub most : Is s (below ++ Int ∷ Int ∷ Int ∷ []) (past 2 p) largest
  pub differs : Is s (below ++ Int ∷ Int ∷ Int ∷ Int ∷ []) (past 3 p) (does.CmpInt relation.Unequal)
  pub leave : Is s (below ++ Int ∷ Int ∷ Int ∷ []) (past 4 p) (does.JumpIfZero (past 9 p))
  pub one : Is s (below ++ Int ∷ Int ∷ []) (past 5 p) (does.PushInt (pos 1))
  pub add : Is s (below ++ Int ∷ Int ∷ Int ∷ []) (past 6 p) does.Add
  pub store : Is s (below ++ Int ∷ Int ∷ []) (past 7 p) (writing counter)
  pub back : Is s (below ++ Int ∷ []) (past 8 p) (does.Jump l)
  pub drop : Is s (below ++ Int ∷ Int ∷ []) (past 9 p) does.Drop
  pub drop_last : Is s (below ++ Int ∷ []) (past 10 p) does.Drop
  pub over : q ≡ past 11 p

-- the test of FOR, at l, over its last value, and its body; e is where that value is dropped
pub record CountsAt (s : Scope) (below : List Kind) (counter : Scalar) (body : ℕ → ℕ → Type 0) (l q : ℕ) : Type 0 where
  pub y : ℕ
  pub e : ℕ
  pub kind : scalar_kind s.context counter ≡ Some Int
  pub tick : Is s (below ++ Int ∷ []) l does.Tick
  pub twice : Is s (below ++ Int ∷ []) (past 1 l) does.Dup
  pub load : Is s (below ++ Int ∷ Int ∷ []) (past 2 l) (reading counter)
  pub compare : Is s (below ++ Int ∷ Int ∷ Int ∷ []) (past 3 l) (does.CmpInt relation.AtLeast)
  pub leave : Is s (below ++ Int ∷ Int ∷ []) (past 4 l) (does.JumpIfZero e)
  pub ran : body (past 5 l) y
  pub raises : RaisesAt s below counter y l q
  pub drop : Is s (below ++ Int ∷ []) e does.Drop
  pub over : q ≡ e + 1

-- behind a label's test: where it holds, on to b, and else to the next label
pub record PicksAt (s : Scope) (below : List Kind) (b p : ℕ) : Type 0 where
  pub fails : Is s (below ++ Int ∷ []) p (does.JumpIfZero (past 2 p))
  pub holds : Is s below (past 1 p) (does.Jump b)

-- labels of a clause, where a subject of kind k stands on top; the one that is met leads to b
abbrev pub LabelsAt : Scope → List Kind → Kind → List Label → ℕ → ℕ → ℕ → Type 0
LabelsAt s below k [] b p q = p ≡ q
LabelsAt s below k (to.one e ∷ labels) b p q =
    (x : ℕ) × Is s (below ++ k ∷ []) p does.Dup × ExprAt s (below ++ k ∷ k ∷ []) e (Some k) (p + 1) x × Is s (below ++ k ∷ k ∷ k ∷ []) x (comparing relation.Equal k) × PicksAt s (below ++ k ∷ []) b (x + 1) × LabelsAt s below k labels b (past 2 (x + 1)) q
LabelsAt s below k (to.range low high ∷ labels) b p q =
    (x : ℕ) × (y : ℕ) × Is s (below ++ k ∷ []) p does.Dup × ExprAt s (below ++ k ∷ k ∷ []) low (Some k) (p + 1) x × ExprAt s (below ++ k ∷ k ∷ k ∷ []) high (Some k) x y × Is s (below ++ k ∷ k ∷ k ∷ k ∷ []) y (within k) × PicksAt s (below ++ k ∷ []) b (y + 1) × LabelsAt s below k labels b (past 2 (y + 1)) q
LabelsAt s below k (to.compared r e ∷ labels) b p q =
    (x : ℕ) × Is s (below ++ k ∷ []) p does.Dup × ExprAt s (below ++ k ∷ k ∷ []) e (Some k) (p + 1) x × Is s (below ++ k ∷ k ∷ k ∷ []) x (comparing r k) × PicksAt s (below ++ k ∷ []) b (x + 1) × LabelsAt s below k labels b (past 2 (x + 1)) q

abbrev mutual
  pub BlockAt : Scope → List Kind → Block → ℕ → ℕ → Type 0
  BlockAt s below to.done p q = p ≡ q
  BlockAt s below (to.then first rest) p q = (x : ℕ) × StmtAt s below first p x × BlockAt s below rest x q

  pub StmtAt : Scope → List Kind → Stmt → ℕ → ℕ → Type 0
  StmtAt s below (to.assign at target value) p q =
      (x : ℕ) × (k : Kind) × (scalar_kind s.context target ≡ Some k) × Is s below p does.Tick × ExprAt s below value (Some k) (p + 1) x × Is s (below ++ k ∷ []) x (writing target) × (q ≡ x + 1)
  StmtAt s below (to.assign_element at a index value) p q =
      (x : ℕ) × (y : ℕ) × (k : Kind) × (array_kind s.context a ≡ Some k) × Is s below p does.Tick × ExprAt s below index (Some Int) (p + 1) x × ExprAt s (below ++ Int ∷ []) value (Some k) x y × Is s (below ++ Int ∷ k ∷ []) y (does.WriteAt a) × (q ≡ y + 1)
  StmtAt s below (to.call_of at what) p q =
      (x : ℕ) × (kind : Option Kind) × Is s below p does.Tick × CallAt s below what kind (p + 1) x × Is s (below ++ left_kind kind ∷ []) x does.Drop × (q ≡ x + 1)
  StmtAt s below (to.choose at test body last) p q =
      (x : ℕ) × (y : ℕ) × (e : ℕ) × Is s below p does.Tick × ExprAt s below test (Some Int) (p + 1) x × Is s (below ++ Int ∷ []) x (does.JumpIfZero e) × BlockAt s below body (x + 1) y × OtherAt s below last y e q
  StmtAt s below (to.while at test body) p q = Is s below p does.Tick × TurnsAt s below (ExprAt s below test (Some Int)) (BlockAt s below body) (p + 1) q
  StmtAt s below (to.for at counter first last body) p q =
      (x : ℕ) × (y : ℕ) × Is s below p does.Tick × ExprAt s below first (Some Int) (p + 1) x × ExprAt s (below ++ Int ∷ []) last (Some Int) x y × Is s (below ++ Int ∷ Int ∷ []) y does.Swap × Is s (below ++ Int ∷ Int ∷ []) (y + 1) (writing counter) × CountsAt s below counter (BlockAt s (below ++ Int ∷ []) body) (past 2 y) q
  StmtAt s below (to.select at subject clauses last) p q =
      (x : ℕ) × (y : ℕ) × (k : Kind) × Is s below p does.Tick × ExprAt s below subject (Some k) (p + 1) x × ClausesAt s below k clauses q x y × Is s (below ++ k ∷ []) y does.Drop × BlockAt s below last (y + 1) q
  StmtAt s below (to.return at value) p q =
      (x : ℕ) × Is s below p does.Tick × ExprAt s below value (Some (left_kind s.context.gives)) (p + 1) x × Is s (below ++ left_kind s.context.gives ∷ []) x does.Return × (q ≡ x + 1)

  -- behind the body of IF, which ends at y: the ELSE part stands at e
  pub OtherAt : Scope → List Kind → Other → ℕ → ℕ → ℕ → Type 0
  OtherAt s below to.no_other y e q = (y ≡ q) × (e ≡ q)
  OtherAt s below (to.other body) y e q = Is s below y (does.Jump q) × (e ≡ y + 1) × BlockAt s below body (y + 1) q

  -- the clauses of SELECT, which ends at z
  pub ClausesAt : Scope → List Kind → Kind → Clauses → ℕ → ℕ → ℕ → Type 0
  ClausesAt s below k to.no_clause z p q = p ≡ q
  ClausesAt s below k (to.clause labels body rest) z p q =
      (x : ℕ) × (y : ℕ) × LabelsAt s below k labels (x + 1) p x × Is s (below ++ k ∷ []) x (does.Jump (y + 1)) × Is s (below ++ k ∷ []) (x + 1) does.Drop × BlockAt s below body (past 2 x) y × Is s below y (does.Jump z) × ClausesAt s below k rest z (y + 1) q

-- The whole

-- the scope of a function and its code
abbrev pub scope_of : Project → RawParts → Function → RawFunction → Scope
scope_of project code f function = record { code = code; function = function; context = context_of project f }

-- the code of a function: its entry, its body, and its END
pub record IsFunctionOf (project : Project) (code : RawParts) (f : Function) (function : RawFunction) : Type 0 where
  pub gives : function.gives ≡ f.gives
  pub room : function.room ≡ room f
  pub locals : function.locals ≡ param_kinds f ++ f.others
  pub entry : Is (scope_of project code f function) [] 0 does.Tick
  pub over : ℕ
  pub body : BlockAt (scope_of project code f function) [] f.body 1 over
  pub first : PushesFirst (scope_of project code f function) [] over (left_kind f.gives)
  pub back : Is (scope_of project code f function) (left_kind f.gives ∷ []) (over + 1) does.Return
  -- and nothing behind it
  pub whole : length function.steps ≡ past 2 over

abbrev pub cells_of : Array → Cells
cells_of a = record { first = a.first; kind = a.kind; length = a.length }

-- The code is that of the project, place by place.
pub record IsCodeOf (project : Project) (code : RawParts) : Type 0 where
  pub layout : code.layout ≡ layout_of project
  pub arrays : code.arrays ≡ map cells_of project.arrays
  pub many : length code.functions ≡ length project.functions
  pub functions : (n : ℕ) (f : Function) → slice_get project.functions n ≡ Some f → (function : RawFunction) × (slice_get code.functions n ≡ Some function) × IsFunctionOf project code f function
