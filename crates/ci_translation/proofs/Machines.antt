-- The machine of a running function, and what its instructions do there.
use Rattle.std.proofs.Common.{◌≡◌, ℕ, zero, suc, ◌+◌, ◌<◌, Bool, true, false, inl, List, [], ◌∷◌, length, take, drop, Option, Some, None, refl, sym, ap, ◌∙◌, subst, arith, ltb-true}
use Rattle.std.specs.List.{list_all}
use Rattle.std.specs.Prelude.{ℤ, pos, negsuc, ◌&&◌, nat_le, nat_lt, if◌then◌else◌, slice_get, option_map}
use Rattle.ci_base.specs.declared.layout.CellHead.{CellHead}
use Rattle.ci_base.specs.declared.layout.Layout.{Layout}
use Rattle.ci_base.specs.declared.request.Request.TheVariants.{Write}
use Rattle.ci_base.specs.declared.reply.Answer.{Answer}
use Rattle.ci_base.specs.declared.value.Kind.{Kind}
use Rattle.ci_base.specs.declared.value.Value.{Value}
use Rattle.ci_base.specs.declared.value.Value.TheVariants as values
use Rattle.ci_base.specs.Heard.{error_kept, last_after}
use Rattle.ci_base.specs.Requests.{Fits}
use Rattle.ci_base.specs.Steps.{quiet, asks, Reaches}
use Rattle.ci_base.specs.Values.{kind_of}
use Rattle.ci_code.specs.declared.instruction.Instruction.{Instruction}
use Rattle.ci_code.specs.declared.instruction.Instruction.TheVariants as does
use Rattle.ci_code.specs.declared.instruction.Step.{Step}
use Rattle.ci_code.specs.declared.raw.Cells.{Cells}
use Rattle.ci_code.specs.declared.raw.RawParts.{RawParts}
use Rattle.ci_code.specs.Machine as code
use Rattle.ci_code.specs.Moves as moves
use Rattle.ci_code.specs.Moves.{Machine, is_of, is_of_some, only_if}
use Rattle.ci_meaning.specs.Configuration.{Want, Aim, Left, Hand, give, write, Task, Configuration, with}
use Rattle.ci_meaning.specs.Meaning as tree
use Rattle.ci_meaning.specs.Meaning.{to_do}
use Rattle.ci_meaning.specs.Moves as walk
use Rattle.ci_tree.specs.Bound as to
use Rattle.ci_tree.specs.Bound.{Scalar, Function, Array, Cell, Project}
use Rattle.ci_tree.specs.Layouts.{cell_head_of}
use Rattle.ci_tree.specs.Operators.{same_kind}
use Rattle.ci_tree.specs.Sound.{scalar_kind, is_array}
use Rattle.ci_translation.specs.Instructions.{writing}
use Rattle.ci_translation.specs.Simulates.{cell_kinds}
use Rattle.ci_translation.specs.Stands.{Scope, Is, Pushes, scope_of, cells_of}
use Rattle.ci_translation.proofs.Facts.{and_both, all_there, same_kinds, project_parts}
use Rattle.ci_translation.proofs.Follow.{here, by_tick, by_quiet, joined, Follows}
use Rattle.ci_translation.proofs.Lists.{get_map, mapped, kinds_set, is_of_kind, is_of_there}
use Rattle.ci_translation.proofs.Matches.{Does, JumpsIn, Jumps, frames, spelled, hand_held, HandAt, WantsAt, IsRight, Running, Matches}

pub on : {s : Scope} {b : List Kind} {p : ℕ} {what : Instruction} → Is s b p what → Does s p what
on h = ap (λ (o : Option Step). option_map (λ (x : Step). x.what) o) h.found

-- Cells and arrays

in_front : {A : Type 0} → (xs : List A) (n j : ℕ) (x : A) → j < n → slice_get xs j ≡ Some x → slice_get (take n xs) j ≡ Some x
in_front [] n j x h e = absurd (cc e)
in_front (y ∷ xs) zero j x h e = absurd (omega arith)
in_front (y ∷ xs) (suc n) zero x h e = e
in_front (y ∷ xs) (suc n) (suc j) x h e = in_front xs n j x (omega arith) e

behind : {A : Type 0} → (xs : List A) (n j : ℕ) → slice_get (drop n xs) j ≡ slice_get xs (n + j)
behind xs zero j = let e : j ≡ 0 + j = omega arith in ap (slice_get xs) e
behind [] (suc n) j = refl
behind (x ∷ xs) (suc n) j = let e : suc (n + j) ≡ suc n + j = omega arith in behind xs n j ∙ ap (slice_get (x ∷ xs)) e

pub cell_in_same : (a : Array) (i : ℤ) → moves.cell_in (cells_of a) i ≡ walk.cell_in a i
cell_in_same a (pos i) = refl
cell_in_same a (negsuc i) = refl

module _ (project : Project) (parts : RawParts) (right : IsRight project parts) where
  -- a cell of the project is a cell of the code, of that kind
  pub cell_there : (c : ℕ) (k : Kind) → option_map (λ (x : Cell). x.kind) (slice_get project.cells c) ≡ Some k → (head : CellHead) × (slice_get parts.layout.cells c ≡ Some head) × (head.kind ≡ k) × (slice_get (cell_kinds project) c ≡ Some k)
  cell_there c k e =
      let (x, found, kind) = mapped (λ (x : Cell). x.kind) (slice_get project.cells c) k e in
      let at : slice_get parts.layout.cells c ≡ Some (cell_head_of x) = ap (λ (l : Layout). slice_get l.cells c) right.whole.layout ∙ get_map cell_head_of project.cells c ∙ ap (option_map cell_head_of) found in
      (cell_head_of x, at, kind, get_map (λ (x : Cell). x.kind) project.cells c ∙ e)

  pub array_there : (a : ℕ) (k : Kind) → option_map (λ (x : Array). x.kind) (slice_get project.arrays a) ≡ Some k → (x : Array) × (slice_get project.arrays a ≡ Some x) × (slice_get parts.arrays a ≡ Some (cells_of x)) × (x.kind ≡ k)
  array_there a k e =
      let (x, found, kind) = mapped (λ (x : Array). x.kind) (slice_get project.arrays a) k e in
      let at : slice_get parts.arrays a ≡ Some (cells_of x) = ap (λ (l : List Cells). slice_get l a) right.whole.arrays ∙ get_map cells_of project.arrays a ∙ ap (option_map cells_of) found in
      (x, found, at, kind)

  array_fine : (a : ℕ) (x : Array) → slice_get project.arrays a ≡ Some x → list_all (λ (y : Cell). same_kind x.kind y.kind) (take x.length (drop x.first project.cells)) ≡ true
  array_fine a x found =
      let all : is_array project x ≡ true = all_there (is_array project) project.arrays a x ((project_parts project right.sound).arrays) found in
      (and_both (nat_le 1 x.length && nat_le (x.first + x.length) (length project.cells)) (list_all (λ (y : Cell). same_kind x.kind y.kind) (take x.length (drop x.first project.cells))) all).1

  -- the cell of an element is of the array's kind
  pub element_kind : (a : ℕ) (x : Array) (i : ℤ) (c : ℕ) (k : Kind) → slice_get project.arrays a ≡ Some x → walk.cell_in x i ≡ Some c → slice_get (cell_kinds project) c ≡ Some k → x.kind ≡ k
  element_kind a x (negsuc j) c k found in_it at = absurd (cc in_it)
  element_kind a x (pos j) c k found in_it at = by_test (nat_lt j x.length) refl in_it
    where
      by_test : (b : Bool) → nat_lt j x.length ≡ b → (if b then Some (x.first + j) else None) ≡ Some c → x.kind ≡ k
      by_test true w e =
          let same : x.first + j ≡ c = cc e in
          let (y, there, kind) = mapped (λ (y : Cell). y.kind) (slice_get project.cells c) k (sym (get_map (λ (y : Cell). y.kind) project.cells c) ∙ at) in
          let here_it : slice_get (take x.length (drop x.first project.cells)) j ≡ Some y = in_front (drop x.first project.cells) x.length j y (ltb-true j x.length w) (behind project.cells x.first j ∙ ap (slice_get project.cells) same ∙ there) in
          same_kinds x.kind y.kind (all_there (λ (z : Cell). same_kind x.kind z.kind) (take x.length (drop x.first project.cells)) j y (array_fine a x found) here_it) ∙ kind
      by_test false w e = absurd (cc e)

module _ (project : Project) (parts : RawParts) where
  -- what the code does when the configuration makes this move
  abbrev pub Followed : Configuration → walk.Move → Machine → Type 0
  Followed = Follows (tree.next project) tree.resume (code.next parts) (code.resume parts) (Fits (cell_kinds project)) (Matches project parts)

-- a machine that has its answer, where that instruction stands
abbrev pub heard : Machine → Answer → Option Instruction → Machine
heard m a o =
    let after : Machine = code.resumed (code.answered o a.value m.top.operands) m in
    record after { error = error_kept a.code m.error; last = last_after a.extra m.last }

module _ (project : Project) (parts : RawParts) (t : Task) (r : Running project parts t.function t.locals t.callers) where
  abbrev pub own : Scope
  own = scope_of project parts r.function r.raw

  -- the machine at p with these operands
  abbrev pub machine : ℕ → List Value → Machine
  machine p ops = record {
    top = record { function = t.function; place = p; locals = t.locals; operands = ops };
    callers = frames t.callers r.places;
    error = t.error;
    last = t.last;
    goes_on = t.goes_on;
  }

  -- the part in hand stands at p
  pub at_place : (hand : Hand) (left : List Left) (p : ℕ) → HandAt own hand left p → Matches project parts (with hand (to_do left t)) (spelled hand (to_do left t) p r.places)
  at_place hand left p at = record { hand = hand; shows = inl refl; place = p; running = r; at = at; is = refl }

  pub give_at : (v : Value) (wants : List Want) (aim : Aim) (g : Option Kind) (p q : ℕ) → g ≡ Some (kind_of v) → q ≡ p → WantsAt own wants aim t.left g q → Matches project parts (with (give v wants aim) t) (spelled (give v wants aim) t p r.places)
  give_at v wants aim g p q eg eq w =
      at_place (give v wants aim) t.left p (subst (λ x. WantsAt own wants aim t.left (Some (kind_of v)) x) eq (subst (λ x. WantsAt own wants aim t.left x q) eg w))

  -- One instruction

  pub fetched : (p : ℕ) (ops : List Value) (what : Instruction) → Does own p what → code.instruction_at parts (machine p ops) ≡ Some what
  fetched p ops what h = ap (λ o. code.instruction_in o p) r.found.raw_there ∙ h

  pub does_it : (p : ℕ) (ops : List Value) (what : Instruction) → Does own p what → code.next parts (machine p ops) ≡ code.act parts what (machine p ops)
  does_it p ops what h = ap (λ o. code.act_on parts o (machine p ops)) (fetched p ops what h)

  -- a private instruction, and those behind it
  pub step : (p : ℕ) (ops : List Value) (what : Instruction) (e d : Machine) (k : ℕ) → Does own p what → code.act parts what (machine p ops) ≡ quiet e → Reaches (code.next parts) e k d → Reaches (code.next parts) (machine p ops) k d
  step p ops what e d k h eq rest = by_quiet (code.next parts) (machine p ops) e d k (does_it p ops what h ∙ eq) rest

  pub last_step : (p : ℕ) (ops : List Value) (what : Instruction) (e : Machine) → Does own p what → code.act parts what (machine p ops) ≡ quiet e → Reaches (code.next parts) (machine p ops) 0 e
  last_step p ops what e h eq = step p ops what e e 0 h eq (here (code.next parts) e)

  -- jumps, and then a tick
  pub jumps_reach : (ops : List Value) (n p q : ℕ) → JumpsIn own n p q → Reaches (code.next parts) (machine p ops) 0 (machine q ops)
  jumps_reach ops zero p q j = subst (λ x. Reaches (code.next parts) (machine p ops) 0 (machine x ops)) j (here (code.next parts) (machine p ops))
  jumps_reach ops (suc n) p q (x, h, j) = step p ops (does.Jump x) (machine x ops) (machine q ops) 0 h refl (jumps_reach ops n x q j)

  pub one_tick : (ops : List Value) (p q : ℕ) → Jumps own p q → Does own q does.Tick → Reaches (code.next parts) (machine p ops) 1 (machine (q + 1) ops)
  one_tick ops p q j h =
      joined (code.next parts) _ (machine q ops) _ 0 1 (jumps_reach ops j.0 p q j.1) (by_tick (code.next parts) _ _ _ 0 (does_it q ops does.Tick h) (here _ _))

  -- Instructions that name something

  pub pushes : (p : ℕ) (ops : List Value) (b : List Kind) (text : List ℕ) → Pushes own b p text → Reaches (code.next parts) (machine p ops) 0 (machine (p + 1) (values.Str text ∷ ops))
  pushes p ops b text h =
      last_step p ops (does.PushStr h.number) (machine (p + 1) (values.Str text ∷ ops)) (on h.is) (ap (λ o. code.pushed o (machine p ops)) h.named)

  pub loads : (p : ℕ) (ops : List Value) (i : ℕ) (v : Value) → Does own p (does.Load i) → slice_get t.locals i ≡ Some v → Reaches (code.next parts) (machine p ops) 0 (machine (p + 1) (v ∷ ops))
  loads p ops i v h e = last_step p ops (does.Load i) (machine (p + 1) (v ∷ ops)) h (ap (λ o. code.loaded o (machine p ops)) e)

  -- a variable is written, and then what is left goes on
  pub stores : IsRight project parts → (of : Scalar) (v : Value) (hand : Hand) (left : List Left) (p : ℕ) → scalar_kind own.context of ≡ Some (kind_of v) → Does own p (writing of) → HandAt own hand left (p + 1) → (d : Machine) × Reaches (code.next parts) (machine p (v ∷ hand_held hand left)) 0 d × Matches project parts (walk.stored of v hand (to_do left t)) d
  stores right (to.local i) v hand left p k h at = (
    spelled hand (record t { locals = _; left = left }) (p + 1) r.places,
    last_step p ops (does.Store i) _ h acts,
    record {
      hand = hand;
      shows = inl refl;
      place = p + 1;
      running = record { function = r.function; raw = r.raw; places = r.places; found = r.found; kinds = kinds_set t.locals i v (ap (λ ks. slice_get ks i) r.kinds ∙ k) ∙ r.kinds; waiting = r.waiting };
      at = at;
      is = refl;
    },
  )
    where
      ops : List Value
      ops = v ∷ hand_held hand left

      acts : code.act parts (does.Store i) (machine p ops) ≡ quiet (moves.stored i v (hand_held hand left) (machine p ops))
      acts =
          ap (λ o. code.kept o i (machine p ops)) r.found.raw_there
          ∙ ap (λ b. only_if b (quiet (moves.stored i v (hand_held hand left) (machine p ops)))) (is_of_there (slice_get r.raw.locals i) v (ap (λ ks. slice_get ks i) r.found.of.locals ∙ k))
  stores right (to.cell c) v hand left p k h at = (machine p (v ∷ hand_held hand left), here _ _, at_place (write c v hand) left p (k, h, at))

  -- a cell is written
  pub writes : IsRight project parts → (c : ℕ) (v : Value) (ops : List Value) (p : ℕ) → scalar_kind own.context (to.cell c) ≡ Some (kind_of v) → Does own p (does.WriteCell c) → code.next parts (machine p (v ∷ ops)) ≡ asks (Write c v)
  writes right c v ops p k h =
      let (head, there, kind, at) = cell_there project parts right c (kind_of v) k in
      does_it p (v ∷ ops) (does.WriteCell c) h
      ∙ ap (λ o. code.written o c (machine p (v ∷ ops))) there
      ∙ ap (λ b. only_if b (asks (Write c v))) (is_of_kind head.kind v (sym kind))
