-- What the tree has left to do stands in the code, and its values in hand are the operands.
use Rattle.std.proofs.Common.{◌≡◌, ℕ, zero, suc, ◌+◌, ◌⊎◌, List, [], ◌∷◌, ◌++◌, Option, Some, map}
use Rattle.std.specs.Prelude.{IsTrue, slice_get}
use Rattle.ci_base.specs.declared.function.SharedName.TheVariants as shared
use Rattle.ci_base.specs.declared.value.Kind.{Kind}
use Rattle.ci_base.specs.declared.value.Kind.TheVariants.{Int, Str}
use Rattle.ci_base.specs.declared.value.Value.{Value}
use Rattle.ci_base.specs.Values.{kind_of}
use Rattle.ci_code.specs.declared.instruction.Instruction.{Instruction}
use Rattle.ci_code.specs.declared.instruction.Instruction.TheVariants as does
use Rattle.ci_code.specs.declared.raw.RawFunction.{RawFunction}
use Rattle.ci_code.specs.declared.raw.RawParts.{RawParts}
use Rattle.ci_code.specs.Machine.{instruction_in}
use Rattle.ci_code.specs.Moves.{Frame, Machine}
use Rattle.ci_meaning.specs.Configuration.{Branch, Want, as_operand, as_front, as_right, as_index, as_argument, as_queue, as_mode, as_answer, as_kept, Aim, to_store, to_index, to_element, to_choose, to_turn, to_begin, to_count, to_compare, to_raise, to_select, to_match, to_low, to_high, to_return, to_drop, Left, run, again, round, bump, sift, pick, Hand, eval, give, write, enter, go, Caller, Task, Configuration}
use Rattle.ci_tree.specs.Bound as to
use Rattle.ci_tree.specs.Bound.{Scalar, Label, Clauses, Block, Function, Project}
use Rattle.ci_tree.specs.Sound.{Signature, signature, scalar_kind, array_kind, param_kinds, is_sound}
use Rattle.ci_translation.specs.Instructions as instructions
use Rattle.ci_translation.specs.Instructions.{past, comparing, operating, operated, turning, writing, calling, left_kind}
use Rattle.ci_translation.specs.Stands.{Scope, PushesFirst, KeepsAt, ExprAt, LinksAt, ArgsAt, TurnsAt, CountsAt, PicksAt, LabelsAt, BlockAt, OtherAt, ClausesAt, scope_of, IsFunctionOf, IsCodeOf}
use Rattle.ci_translation.proofs.Lists.{back_onto}

-- Operands: the values in hand

abbrev pub held : List Want → List Value → List Value
held [] below = below
held (as_operand minus ∷ wants) below = held wants below
held (as_front rest ∷ wants) below = held wants below
held (as_right u op rest ∷ wants) below = u ∷ held wants below
held (as_index a ∷ wants) below = held wants below
held (as_argument callee before rest ∷ wants) below = before ++ held wants below
held (as_queue mode targets ∷ wants) below = held wants below
held (as_mode queue targets ∷ wants) below = queue ∷ held wants below
held (as_answer targets ∷ wants) below = held wants below
held (as_kept target ∷ wants) below = held wants below

abbrev pub aim_held : Aim → List Value → List Value
aim_held (to_store target) below = below
aim_held (to_index a e) below = below
aim_held (to_element a i) below = i ∷ below
aim_held (to_choose body last) below = below
aim_held (to_turn test body) below = below
aim_held (to_begin counter e body) below = below
aim_held (to_count u counter body) below = u ∷ below
aim_held (to_compare c) below = c.last ∷ c.last ∷ below
aim_held (to_raise c) below = c.last ∷ below
aim_held (to_select clauses other) below = below
aim_held (to_match of r labels branch) below = of ∷ of ∷ below
aim_held (to_low of e labels branch) below = of ∷ of ∷ below
aim_held (to_high of low labels branch) below = low ∷ of ∷ of ∷ below
aim_held to_return below = below
aim_held to_drop below = below

abbrev pub left_held : List Left → List Value
left_held [] = []
left_held (run b ∷ left) = left_held left
left_held (again test body ∷ left) = left_held left
left_held (round c ∷ left) = c.last ∷ left_held left
left_held (bump c ∷ left) = c.last ∷ left_held left
left_held (sift of clauses other ∷ left) = of ∷ left_held left
left_held (pick of labels branch ∷ left) = of ∷ left_held left

abbrev pub operands : List Want → Aim → List Left → List Value
operands wants aim left = held wants (aim_held aim (left_held left))

abbrev pub hand_held : Hand → List Left → List Value
hand_held (eval e wants aim) left = operands wants aim left
hand_held (give v wants aim) left = v ∷ operands wants aim left
hand_held (write c v hand) left = v ∷ hand_held hand left
hand_held enter left = left_held left
hand_held go left = left_held left

-- The machine

abbrev pub first_place : List ℕ → ℕ
first_place [] = 0
first_place (p ∷ places) = p

abbrev pub other_places : List ℕ → List ℕ
other_places [] = []
other_places (p ∷ places) = places

abbrev pub frames : List Caller → List ℕ → List Frame
frames [] places = []
frames (c ∷ callers) places =
    record { function = c.function; place = first_place places; locals = c.locals; operands = operands c.wants c.aim c.left } ∷ frames callers (other_places places)

-- the machine of a configuration whose functions stand at these places
abbrev pub spelled : Hand → Task → ℕ → List ℕ → Machine
spelled hand t p places = record {
  top = record { function = t.function; place = p; locals = t.locals; operands = hand_held hand t.left };
  callers = frames t.callers places;
  error = t.error;
  last = t.last;
  goes_on = t.goes_on;
}

-- Places

-- that instruction stands there, whatever the shape
abbrev pub Does : Scope → ℕ → Instruction → Type 0
Does s p what = instruction_in (Some s.function) p ≡ Some what

abbrev pub JumpsIn : Scope → ℕ → ℕ → ℕ → Type 0
JumpsIn s zero p q = p ≡ q
JumpsIn s (suc n) p q = (t : ℕ) × Does s p (does.Jump t) × JumpsIn s n t q

-- with each jump followed, p leads to q
abbrev pub Jumps : Scope → ℕ → ℕ → Type 0
Jumps s p q = (n : ℕ) × JumpsIn s n p q

abbrev pub TurnAt : Scope → List Kind → to.Expr → Block → ℕ → ℕ → Type 0
TurnAt s b test body l q = TurnsAt s b (ExprAt s b test (Some Int)) (BlockAt s b body) l q

abbrev pub CountAt : Scope → List Kind → Scalar → Block → ℕ → ℕ → Type 0
CountAt s b counter body l q = CountsAt s b counter (BlockAt s (b ++ Int ∷ []) body) l q

-- the clauses that are left, the ELSE part, and what is left behind them
pub record SiftAt (s : Scope) (k : Kind) (clauses : Clauses) (other : Block) (tail : ℕ → Type 0) (c q : ℕ) : Type 0 where
  pub b : List Kind
  pub z : ℕ
  pub sifted : ClausesAt s b k clauses q c z
  pub drop : Does s z does.Drop
  pub block : BlockAt s b other (z + 1) q
  pub after : tail q

-- the labels that are left of a clause, its body, and the other clauses
pub record PickAt (s : Scope) (k : Kind) (labels : List Label) (branch : Branch) (tail : ℕ → Type 0) (p : ℕ) : Type 0 where
  pub b : List Kind
  pub found : ℕ
  pub m : ℕ
  pub y : ℕ
  pub c : ℕ
  pub q : ℕ
  pub picked : LabelsAt s b k labels found p m
  pub on : Does s m (does.Jump c)
  pub drop : Does s found does.Drop
  pub body : BlockAt s b branch.body (found + 1) y
  pub out : Does s y (does.Jump q)
  pub others : SiftAt s k branch.rest branch.other tail c q

-- from p on stands what is left
abbrev pub LeftAt : Scope → List Left → ℕ → Type 0
LeftAt s [] p = (q : ℕ) × Jumps s p q × PushesFirst s [] q (left_kind s.context.gives) × Does s (q + 1) does.Return
LeftAt s (run b ∷ left) p = (k : List Kind) × (p' : ℕ) × (q : ℕ) × Jumps s p p' × BlockAt s k b p' q × LeftAt s left q
LeftAt s (again test body ∷ left) p = (b : List Kind) × (l : ℕ) × (q : ℕ) × Jumps s p l × TurnAt s b test body l q × LeftAt s left q
LeftAt s (round c ∷ left) p = (b : List Kind) × (l : ℕ) × (q : ℕ) × (kind_of c.last ≡ Int) × Jumps s p l × CountAt s b c.counter c.body l q × LeftAt s left q
LeftAt s (bump c ∷ left) p = (b : List Kind) × (l : ℕ) × (q : ℕ) × (r : CountAt s b c.counter c.body l q) × (kind_of c.last ≡ Int) × Jumps s p r.y × LeftAt s left q
LeftAt s (sift of clauses other ∷ left) p = (c : ℕ) × (q : ℕ) × Jumps s p c × SiftAt s (kind_of of) clauses other (LeftAt s left) c q
LeftAt s (pick of labels branch ∷ left) p = (p' : ℕ) × Jumps s p p' × PickAt s (kind_of of) labels branch (LeftAt s left) p'

-- from p on stands what the value in hand, of that kind, is for
abbrev pub AimAt : Scope → Aim → List Left → Option Kind → ℕ → Type 0
AimAt s (to_store target) left g p = (k : Kind) × (g ≡ Some k) × (scalar_kind s.context target ≡ Some k) × Does s p (writing target) × LeftAt s left (p + 1)
AimAt s (to_index a e) left g p =
    (b : List Kind) × (k : Kind) × (y : ℕ) × (g ≡ Some Int) × (array_kind s.context a ≡ Some k) × ExprAt s b e (Some k) p y × Does s y (does.WriteAt a) × LeftAt s left (y + 1)
AimAt s (to_element a i) left g p = (k : Kind) × (g ≡ Some k) × (kind_of i ≡ Int) × (array_kind s.context a ≡ Some k) × Does s p (does.WriteAt a) × LeftAt s left (p + 1)
AimAt s (to_choose body last) left g p =
    (b : List Kind) × (y : ℕ) × (e : ℕ) × (q : ℕ) × (g ≡ Some Int) × Does s p (does.JumpIfZero e) × BlockAt s b body (p + 1) y × OtherAt s b last y e q × LeftAt s left q
AimAt s (to_turn test body) left g p = (b : List Kind) × (l : ℕ) × (q : ℕ) × (g ≡ Some Int) × (r : TurnAt s b test body l q) × (p ≡ r.x) × LeftAt s left q
AimAt s (to_begin counter e body) left g p =
    (b : List Kind) × (y : ℕ) × (q : ℕ) × (g ≡ Some Int) × ExprAt s (b ++ Int ∷ []) e (Some Int) p y × Does s y does.Swap × Does s (y + 1) (writing counter) × CountAt s b counter body (past 2 y) q × LeftAt s left q
AimAt s (to_count u counter body) left g p =
    (b : List Kind) × (q : ℕ) × (g ≡ Some Int) × (kind_of u ≡ Int) × Does s p does.Swap × Does s (p + 1) (writing counter) × CountAt s b counter body (past 2 p) q × LeftAt s left q
AimAt s (to_compare c) left g p =
    (b : List Kind) × (l : ℕ) × (q : ℕ) × (g ≡ Some Int) × (kind_of c.last ≡ Int) × CountAt s b c.counter c.body l q × (p ≡ past 3 l) × LeftAt s left q
AimAt s (to_raise c) left g p =
    (b : List Kind) × (l : ℕ) × (q : ℕ) × (r : CountAt s b c.counter c.body l q) × (g ≡ Some Int) × (kind_of c.last ≡ Int) × (p ≡ r.y + 1) × LeftAt s left q
AimAt s (to_select clauses other) left g p = (k : Kind) × (q : ℕ) × (g ≡ Some k) × SiftAt s k clauses other (LeftAt s left) p q
AimAt s (to_match of r labels branch) left g p =
    (b : List Kind) × (g ≡ Some (kind_of of)) × Does s p (comparing r (kind_of of)) × (d : PickAt s (kind_of of) labels branch (LeftAt s left) (past 2 (p + 1))) × PicksAt s b d.found (p + 1)
AimAt s (to_low of e labels branch) left g p =
    (b : List Kind) × (c : List Kind) × (y : ℕ) × (g ≡ Some (kind_of of)) × ExprAt s b e (Some (kind_of of)) p y × Does s y (instructions.within (kind_of of)) × (d : PickAt s (kind_of of) labels branch (LeftAt s left) (past 2 (y + 1))) × PicksAt s c d.found (y + 1)
AimAt s (to_high of low labels branch) left g p =
    (b : List Kind) × (g ≡ Some (kind_of of)) × (kind_of low ≡ kind_of of) × Does s p (instructions.within (kind_of of)) × (d : PickAt s (kind_of of) labels branch (LeftAt s left) (past 2 (p + 1))) × PicksAt s b d.found (p + 1)
AimAt s to_return left g p = (g ≡ Some (left_kind s.context.gives)) × Does s p does.Return
AimAt s to_drop left g p = Does s p does.Drop × LeftAt s left (p + 1)

-- from p on stands what it is wanted for inside its expression, and then what that is for
abbrev pub WantsAt : Scope → List Want → Aim → List Left → Option Kind → ℕ → Type 0
WantsAt s [] aim left g p = AimAt s aim left g p
WantsAt s (as_operand minus ∷ wants) aim left g p = (g ≡ Some Int) × Does s p (turning minus) × WantsAt s wants aim left (Some Int) (p + 1)
WantsAt s (as_front rest ∷ wants) aim left g p =
    (b : List Kind) × (k : Kind) × (h : Option Kind) × (q : ℕ) × (g ≡ Some k) × LinksAt s b rest k h p q × WantsAt s wants aim left h q
WantsAt s (as_right u op rest ∷ wants) aim left g p =
    (b : List Kind) × (j : Kind) × (h : Option Kind) × (q : ℕ) × (g ≡ Some (kind_of u)) × (operated op (kind_of u) ≡ Some j) × Does s p (operating op (kind_of u)) × LinksAt s b rest j h (p + 1) q × WantsAt s wants aim left h q
WantsAt s (as_index a ∷ wants) aim left g p =
    (k : Kind) × (g ≡ Some Int) × (array_kind s.context a ≡ Some k) × Does s p (does.ReadAt a) × WantsAt s wants aim left (Some k) (p + 1)
WantsAt s (as_argument callee before rest ∷ wants) aim left g p =
    (b : List Kind) × (k : Kind) × (head : Signature) × (ks : List Kind) × (q : ℕ) × (g ≡ Some k) × (signature s.context callee ≡ Some head) × (head.takes ≡ back_onto (map kind_of before) (k ∷ ks)) × ArgsAt s b rest ks p q × Does s q (calling callee) × WantsAt s wants aim left head.gives (q + 1)
WantsAt s (as_queue mode targets ∷ wants) aim left g p =
    (b : List Kind) × (c : List Kind) × (y : ℕ) × (q : ℕ) × (g ≡ Some Int) × ExprAt s b mode (Some Int) p y × Does s y (does.Ask shared.QueRead) × KeepsAt s c targets.sort targets.text (y + 1) q × WantsAt s wants aim left (Some Int) q
WantsAt s (as_mode queue targets ∷ wants) aim left g p =
    (b : List Kind) × (q : ℕ) × (g ≡ Some Int) × (kind_of queue ≡ Int) × Does s p (does.Ask shared.QueRead) × KeepsAt s b targets.sort targets.text (p + 1) q × WantsAt s wants aim left (Some Int) q
WantsAt s (as_answer targets ∷ wants) aim left g p =
    (b : List Kind) × (q : ℕ) × (g ≡ Some Int) × KeepsAt s b targets.sort targets.text p q × WantsAt s wants aim left (Some Int) q
WantsAt s (as_kept target ∷ wants) aim left g p =
    (g ≡ Some Int) × (scalar_kind s.context target ≡ Some Str) × Does s p does.TakeText × Does s (p + 1) (writing target) × WantsAt s wants aim left (Some Int) (past 2 p)

abbrev pub HandAt : Scope → Hand → List Left → ℕ → Type 0
HandAt s (eval e wants aim) left p = (b : List Kind) × (g : Option Kind) × (q : ℕ) × ExprAt s b e g p q × WantsAt s wants aim left g q
HandAt s (give v wants aim) left p = WantsAt s wants aim left (Some (kind_of v)) p
HandAt s (write c v hand) left p = (scalar_kind s.context (to.cell c) ≡ Some (kind_of v)) × Does s p (does.WriteCell c) × HandAt s hand left (p + 1)
HandAt s enter left p = Does s p does.Tick × LeftAt s left (p + 1)
HandAt s go left p = LeftAt s left p

-- a value that is dropped next may be another on the machine: the value of a function without a kind
pub record IsDropped (x y : Hand) : Type 0 where
  pub u : Value
  pub v : Value
  pub first : x ≡ give u [] to_drop
  pub second : y ≡ give v [] to_drop

abbrev pub Shows : Hand → Hand → Type 0
Shows x y = (x ≡ y) ⊎ IsDropped x y

module _ (project : Project) (code : RawParts) where
  -- the code is that of a right project
  pub record IsRight : Type 0 where
    pub sound : IsTrue (is_sound project)
    pub whole : IsCodeOf project code

  -- that function, and its code
  pub record Found (n : ℕ) (f : Function) (raw : RawFunction) : Type 0 where
    pub tree : slice_get project.functions n ≡ Some f
    pub raw_there : slice_get code.functions n ≡ Some raw
    pub of : IsFunctionOf project code f raw

  -- the functions that wait, to which a value of that kind is given
  abbrev pub CallersAt : List Caller → List ℕ → Option Kind → Type 0
  CallersAt [] places g = Unit {0}
  CallersAt (c ∷ callers) places g =
      (f : Function) × (raw : RawFunction) × Found c.function f raw × (map kind_of c.locals ≡ param_kinds f ++ f.others) × WantsAt (scope_of project code f raw) c.wants c.aim c.left g (first_place places) × CallersAt callers (other_places places) f.gives

  -- the function that runs, and those that wait
  pub record Running (n : ℕ) (locals : List Value) (callers : List Caller) : Type 0 where
    pub function : Function
    pub raw : RawFunction
    pub places : List ℕ
    pub found : Found n function raw
    pub kinds : map kind_of locals ≡ param_kinds function ++ function.others
    pub waiting : CallersAt callers places function.gives

  -- The machine stands where the configuration does.
  pub record Matches (c : Configuration) (m : Machine) : Type 0 where
    pub hand : Hand
    pub shows : Shows c.hand hand
    pub place : ℕ
    pub running : Running c.task.function c.task.locals c.task.callers
    pub at : HandAt (scope_of project code running.function running.raw) hand c.task.left place
    pub is : m ≡ spelled hand c.task place running.places
