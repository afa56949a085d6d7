-- A safe machine of verified code is safe with an answer to its request.
use Rattle.std.proofs.Common.{◌≡◌, ℕ, zero, suc, ◌+◌, ◌-◌, ◌<◌, List, [], ◌∷◌, length, take, drop, reverse, Option, Some, None, refl, sym, ◌∙◌, ap, subst, arith, Bool, true, false}
use Rattle.std.specs.Prelude.{ℤ, pos, negsuc, nat_le, nat_lt, ◌==◌, ◌||◌, if◌then◌else◌, ◌&&◌, ◌++◌, option_map, map}
use Rattle.std.proofs.lemmas.Bool.{eqb-true, ltb-true}
use Rattle.std.proofs.lemmas.List.{reverse-append}
use Rattle.std.specs.List.{slice_get, slice_range, list_all}
use Rattle.std.proofs.lemmas.Option.{slice_get-map}
use Rattle.ci_base.specs.declared.errors.TheConstants.{BAD_INDEX}
use Rattle.ci_base.specs.declared.request.Request.TheVariants.{Read}
use Rattle.ci_base.specs.declared.layout.CellHead.{CellHead}
use Rattle.ci_base.specs.declared.value.Kind.{Kind}
use Rattle.ci_base.specs.declared.value.Kind.TheVariants as kinds
use Rattle.ci_base.specs.declared.value.Value.{Value}
use Rattle.ci_base.specs.declared.value.Value.TheVariants.{Int, Str}
use Rattle.ci_base.specs.Functions.{shared_takes}
use Rattle.ci_base.specs.Requests.{request_of}
use Rattle.ci_base.specs.Steps.{asks}
use Rattle.ci_base.specs.Values.{kind_of, first_of_kind}
use Rattle.ci_code.specs.declared.instruction.Instruction.{Instruction}
use Rattle.ci_code.specs.declared.instruction.Instruction.TheVariants as does
use Rattle.ci_code.specs.declared.instruction.Step.{Step}
use Rattle.ci_code.specs.declared.raw.Cells.{Cells}
use Rattle.ci_code.specs.declared.raw.RawFunction.{RawFunction}
use Rattle.ci_code.specs.declared.raw.RawParts.{RawParts}
use Rattle.ci_code.specs.Moves.{Machine, are_of, cell_in, on, only_if, failed_if, one_int}
use Rattle.ci_code.specs.Machine.{read, read_cell, read_at, act, instruction_in, instruction_at, act_on, answered, resumed}
use Rattle.ci_verify.specs.Laws.{IsFine}
use Rattle.ci_verify.specs.Kinds.{same_kind, cell_kind, array_kind, listed, below, takes_of, leaves_of, after_of}
use Rattle.ci_verify.specs.Rules.{has_cells, At, Named, GoesOn}
use Rattle.ci_verify.specs.Safe.{IsSafe, AnswersKeep}
use Rattle.ci_verify.proofs.Safe.{args_kinds, rest_kinds, cons_kinds, after_kinds, no_end}
use Rattle.ci_base.specs.declared.function.SharedName.{SharedName}
use Rattle.ci_base.specs.declared.function.SharedName.TheVariants as names
use Rattle.ci_base.specs.declared.reply.Answer.{Answer}
use Rattle.ci_base.specs.declared.request.Request.{Request}
use Rattle.ci_base.specs.declared.request.Request.TheVariants.{End}
use Rattle.ci_base.specs.Requests.{Fits, IsCellAnswer}
use Rattle.ci_base.specs.Heard.{last_after, error_kept}
use Rattle.ci_verify.specs.Ways.{way_of}
use Rattle.ci_verify.specs.declared.way.Way.TheVariants.{Next}
use Rattle.ci_verify.proofs.Sound.{there}
use Rattle.ci_verify.proofs.Between.{sound}

-- Answers are of the kind that is wanted

asked_kind : (cells : List Kind) (q : SharedName) (args : List Value) (answer : Answer) → map kind_of args ≡ shared_takes q → Fits cells (request_of q args) answer → kind_of answer.value ≡ kinds.Int
asked_kind cells names.TaskNew (Str s ∷ Str t ∷ Int i ∷ []) answer e f = f.kind
asked_kind cells names.TaskNew _ answer e f = absurd (cc e)
asked_kind cells names.TaskKill (Int i ∷ []) answer e f = f.kind
asked_kind cells names.TaskKill _ answer e f = absurd (cc e)
asked_kind cells names.TaskSuspend (Int i ∷ []) answer e f = f.kind
asked_kind cells names.TaskSuspend _ answer e f = absurd (cc e)
asked_kind cells names.TaskResume (Int i ∷ []) answer e f = f.kind
asked_kind cells names.TaskResume _ answer e f = absurd (cc e)
asked_kind cells names.TaskHnd (Str s ∷ []) answer e f = f.kind
asked_kind cells names.TaskHnd _ answer e f = absurd (cc e)
asked_kind cells names.Sleep (Int i ∷ []) answer e f = f.kind
asked_kind cells names.Sleep _ answer e f = absurd (cc e)
asked_kind cells names.SleepMS (Int i ∷ []) answer e f = f.kind
asked_kind cells names.SleepMS _ answer e f = absurd (cc e)
asked_kind cells names.SemOpen (Str s ∷ Int i ∷ []) answer e f = f.kind
asked_kind cells names.SemOpen _ answer e f = absurd (cc e)
asked_kind cells names.SemWait (Int i ∷ Int j ∷ []) answer e f = f.kind
asked_kind cells names.SemWait _ answer e f = absurd (cc e)
asked_kind cells names.SemSignal (Int i ∷ []) answer e f = f.kind
asked_kind cells names.SemSignal _ answer e f = absurd (cc e)
asked_kind cells names.SemClose (Int i ∷ []) answer e f = f.kind
asked_kind cells names.SemClose _ answer e f = absurd (cc e)
asked_kind cells names.QueOpen (Str s ∷ Int i ∷ []) answer e f = f.kind
asked_kind cells names.QueOpen _ answer e f = absurd (cc e)
asked_kind cells names.QueWrite (Int i ∷ Int j ∷ Str s ∷ []) answer e f = f.kind
asked_kind cells names.QueWrite _ answer e f = absurd (cc e)
asked_kind cells names.QueRead (Int i ∷ Int j ∷ []) answer e f = f.kind
asked_kind cells names.QueRead _ answer e f = absurd (cc e)
asked_kind cells names.QueLength (Int i ∷ []) answer e f = f.kind
asked_kind cells names.QueLength _ answer e f = absurd (cc e)
asked_kind cells names.QueClose (Int i ∷ []) answer e f = f.kind
asked_kind cells names.QueClose _ answer e f = absurd (cc e)
asked_kind cells names.Enter (Str s ∷ []) answer e f = f.kind
asked_kind cells names.Enter _ answer e f = absurd (cc e)
asked_kind cells names.Leave (Str s ∷ []) answer e f = f.kind
asked_kind cells names.Leave _ answer e f = absurd (cc e)
asked_kind cells names.Trace (Str s ∷ []) answer e f = f.kind
asked_kind cells names.Trace _ answer e f = absurd (cc e)
asked_kind cells names.SysTime [] answer e f = f.kind
asked_kind cells names.SysTime _ answer e f = absurd (cc e)
asked_kind cells names.End [] answer e f = absurd f
asked_kind cells names.End _ answer e f = absurd (cc e)

both : (a b : Bool) → (a && b) ≡ true → (a ≡ true) × (b ≡ true)
both true true e = (refl, refl)
both true false e = absurd (cc e)
both false b e = absurd (cc e)

pub all_there : {A : Type 0} → (p : A → Bool) (xs : List A) (i : ℕ) (x : A) → list_all p xs ≡ true → slice_get xs i ≡ Some x → p x ≡ true
all_there p [] i x e h = absurd (cc h)
all_there p (y ∷ xs) zero x e h = let same : y ≡ x = cc h in subst (λ z. p z ≡ true) same ((both (p y) (list_all p xs) e).0)
all_there p (y ∷ xs) (suc i) x e h = all_there p xs i x ((both (p y) (list_all p xs) e).1) h

in_front : {A : Type 0} → (xs : List A) (n j : ℕ) (x : A) → j < n → slice_get xs j ≡ Some x → slice_get (take n xs) j ≡ Some x
in_front [] n j x h e = absurd (cc e)
in_front (y ∷ xs) zero j x h e = absurd (omega arith)
in_front (y ∷ xs) (suc n) zero x h e = e
in_front (y ∷ xs) (suc n) (suc j) x h e = in_front xs n j x (omega arith) e

behind : {A : Type 0} → (xs : List A) (n j : ℕ) → slice_get (drop n xs) j ≡ slice_get xs (n + j)
behind xs zero j = let e : j ≡ 0 + j = omega arith in ap (slice_get xs) e
behind [] (suc n) j = refl
behind (x ∷ xs) (suc n) j = let e : suc (n + j) ≡ suc n + j = omega arith in behind xs n j ∙ ap (slice_get (x ∷ xs)) e

same_kinds : (a b : Kind) → same_kind a b ≡ true → a ≡ b
same_kinds kinds.Int kinds.Int e = refl
same_kinds kinds.Int kinds.Str e = absurd (cc e)
same_kinds kinds.Str kinds.Int e = absurd (cc e)
same_kinds kinds.Str kinds.Str e = refl

-- an element's cell is of the array's kind
element_kind : (cells : List CellHead) (array : Cells) (j : ℕ) (cell : CellHead) → has_cells cells array ≡ true → j < array.length → slice_get cells (array.first + j) ≡ Some cell → cell.kind ≡ array.kind
element_kind cells array j cell e h there_it =
    let some : (array.length == 0) ≡ false = not_empty array.length h in
    let e2 : (nat_le (array.first + array.length) (length cells) && list_all (λ (c : CellHead). same_kind c.kind array.kind) (slice_range cells array.first (array.first + array.length))) ≡ true = sym (ap (λ b. b || (nat_le (array.first + array.length) (length cells) && list_all (λ (c : CellHead). same_kind c.kind array.kind) (slice_range cells array.first (array.first + array.length)))) some) ∙ e in
    let all : list_all (λ (c : CellHead). same_kind c.kind array.kind) (slice_range cells array.first (array.first + array.length)) ≡ true = (both _ _ e2).1 in
    let n : array.length ≡ array.first + array.length - array.first = omega arith in
    let at : slice_get (slice_range cells array.first (array.first + array.length)) j ≡ Some cell = in_front (drop array.first cells) (array.first + array.length - array.first) j cell (omega (arith, n, h)) (behind cells array.first j ∙ there_it) in
    same_kinds cell.kind array.kind (all_there (λ (c : CellHead). same_kind c.kind array.kind) (slice_range cells array.first (array.first + array.length)) j cell all at)
  where
    by_test : (n : ℕ) (b : Bool) → j < n → (n == 0) ≡ b → (n == 0) ≡ false
    by_test n true h e = let none : n ≡ 0 = eqb-true n 0 e in absurd (omega (arith, none, h))
    by_test n false h e = e

    not_empty : (n : ℕ) → j < n → (n == 0) ≡ false
    not_empty n h = by_test n (n == 0) h refl

-- where the request of an element reads, there is such a cell
pub index_kind : (cells : List CellHead) (array : Cells) (i : ℤ) (c : ℕ) (cell : CellHead) → has_cells cells array ≡ true → cell_in array i ≡ Some c → slice_get cells c ≡ Some cell → cell.kind ≡ array.kind
index_kind cells array (negsuc j) c cell e h there_it = absurd (cc h)
index_kind cells array (pos j) c cell e h there_it = by_test (nat_lt j array.length) refl h
  where
    by_test : (b : Bool) → nat_lt j array.length ≡ b → (if b then Some (array.first + j) else None) ≡ Some c → cell.kind ≡ array.kind
    by_test true w x =
        let same : array.first + j ≡ c = cc x in
        element_kind cells array j cell e (ltb-true j array.length w) (ap (slice_get cells) same ∙ there_it)
    by_test false w x = absurd (cc x)

-- The request that was made

asked_read : (o : Option CellHead) (c : ℕ) (q : Request) → read o c ≡ asks q → Read c ≡ q
asked_read (Some cell) c q e = cc e
asked_read None c q e = absurd (cc e)

asked_several : (taken : List Kind) (f : List Value → List Value → Request) (operands : List Value) (q : Request) (b : Bool) → only_if b (asks (f (reverse (take (length taken) operands)) (drop (length taken) operands))) ≡ asks q → f (reverse (take (length taken) operands)) (drop (length taken) operands) ≡ q
asked_several taken f operands q true e = cc e
asked_several taken f operands q false e = absurd (cc e)

cell_answer : (cells : List CellHead) (c : ℕ) (v : Kind) → slice_get (map (λ (cell : CellHead). cell.kind) cells) c ≡ Some v → (cell : CellHead) × (slice_get cells c ≡ Some cell) × (cell.kind ≡ v)
cell_answer cells c v e = found (slice_get cells c) refl (sym (slice_get-map (λ (cell : CellHead). cell.kind) cells c) ∙ e)
  where
    found : (o : Option CellHead) → slice_get cells c ≡ o → option_map (λ (cell : CellHead). cell.kind) o ≡ Some v → (cell : CellHead) × (slice_get cells c ≡ Some cell) × (cell.kind ≡ v)
    found None at h = absurd (cc h)
    found (Some cell) at h = let k : cell.kind ≡ v = cc h in (cell, at, k)

-- an element was read, so the answer is of the array's kind
read_cell_kind : (code : RawParts) (array : Cells) (i : ℤ) (o : Option ℕ) (rest : List Value) (m : Machine) (b : Bool) (q : Request) (answer : Answer) → cell_in array i ≡ o → m.goes_on ≡ b → has_cells code.layout.cells array ≡ true → read_cell o array.kind rest m ≡ asks q → Fits (map (λ (cell : CellHead). cell.kind) code.layout.cells) q answer → kind_of answer.value ≡ array.kind
read_cell_kind code array i (Some c) rest m b q answer at g has e f =
    let same : Read c ≡ q = cc e in
    let fits : IsCellAnswer (map (λ (cell : CellHead). cell.kind) code.layout.cells) c answer = subst (λ x. Fits (map (λ (cell : CellHead). cell.kind) code.layout.cells) x answer) (sym same) f in
    let (cell, there_it, k) = cell_answer code.layout.cells c (kind_of answer.value) fits.kind in
    sym k ∙ index_kind code.layout.cells array i c cell has at there_it
read_cell_kind code array i None rest m b q answer at g has e f = by_mode m.goes_on e
  where
    by_mode : (x : Bool) → failed_if x BAD_INDEX (first_of_kind array.kind ∷ rest) m ≡ asks q → kind_of answer.value ≡ array.kind
    by_mode true h = absurd (cc h)
    by_mode false h = let same : End BAD_INDEX ≡ q = cc h in absurd (subst (λ x. Fits (map (λ (cell : CellHead). cell.kind) code.layout.cells) x answer) (sym same) f)

read_at_kind : (code : RawParts) (array : Cells) (operands : List Value) (m : Machine) (q : Request) (answer : Answer) → has_cells code.layout.cells array ≡ true → one_int (λ i rest. read_cell (cell_in array i) array.kind rest m) operands ≡ asks q → Fits (map (λ (cell : CellHead). cell.kind) code.layout.cells) q answer → kind_of answer.value ≡ array.kind
read_at_kind code array [] m q answer has e f = absurd (cc e)
read_at_kind code array (Str s ∷ rest) m q answer has e f = absurd (cc e)
read_at_kind code array (Int i ∷ rest) m q answer has e f = read_cell_kind code array i (cell_in array i) rest m m.goes_on q answer refl refl has e f

-- The operands behind the answer

drop_one : (kind : Kind) (r : List Kind) (operands : List Value) → map kind_of operands ≡ kind ∷ r → map kind_of (drop 1 operands) ≡ r
drop_one kind r [] k = absurd (cc k)
drop_one kind r (v ∷ rest) k = cc k

drop_two : (a b : Kind) (r : List Kind) (operands : List Value) → map kind_of operands ≡ a ∷ b ∷ r → map kind_of (drop 2 operands) ≡ r
drop_two a b r [] k = absurd (cc k)
drop_two a b r (v ∷ []) k = absurd (cc k)
drop_two a b r (v ∷ u ∷ rest) k = cc k

-- the machine with its answer
abbrev heard : Machine → Answer → Option Instruction → Machine
heard m answer o = record (resumed (answered o answer.value m.top.operands) m) { error = error_kept answer.code m.error; last = last_after answer.extra m.last }

abbrev Onward : RawParts → Machine → Answer → List Kind → Type 0
Onward code m answer ks = (operands : List Value) → map kind_of operands ≡ ks → IsSafe code (record (on operands m) { error = error_kept answer.code m.error; last = last_after answer.extra m.last })

answer_good : (code : RawParts) → list_all (has_cells code.layout.cells) code.arrays ≡ true → (m : Machine) (q : Request) (answer : Answer) (function : RawFunction) (shape r : List Kind) → Fits (map (λ (cell : CellHead). cell.kind) code.layout.cells) q answer → IsSafe code (record m { error = error_kept answer.code m.error; last = last_after answer.extra m.last }) → (what : Instruction) → Named code function what → map kind_of m.top.operands ≡ reverse (takes_of code function shape what) ++ r → (way_of what ≡ Next → Onward code m answer (reverse (leaves_of code function shape what) ++ r)) → act code what m ≡ asks q → IsSafe code (heard m answer (Some what))
answer_good code tables m q answer function shape r f stay (does.ReadCell c) named k go e =
    let same : Read c ≡ q = asked_read (slice_get code.layout.cells c) c q e in
    let fits : IsCellAnswer (map (λ (cell : CellHead). cell.kind) code.layout.cells) c answer = subst (λ x. Fits (map (λ (cell : CellHead). cell.kind) code.layout.cells) x answer) (sym same) f in
    let ck : cell_kind code c ≡ Some (kind_of answer.value) = sym (slice_get-map (λ (cell : CellHead). cell.kind) code.layout.cells c) ∙ fits.kind in
    go refl (answer.value ∷ m.top.operands) (ap (λ l. kind_of answer.value ∷ l) k ∙ ap (λ o. reverse (listed o) ++ r) (sym ck))
answer_good code tables m q answer function shape r f stay (does.WriteCell c) named k go e =
    let (cell, there_it) = there code.layout.cells c named in
    let ck : cell_kind code c ≡ Some cell.kind = ap (λ (o : Option CellHead). option_map (λ (x : CellHead). x.kind) o) there_it in
    go refl (drop 1 m.top.operands) (drop_one cell.kind r m.top.operands (k ∙ ap (λ o. reverse (listed o) ++ r) ck))
answer_good code tables m q answer function shape r f stay (does.ReadAt a) named k go e =
    let (array, there_it) = there code.arrays a named in
    let ak : array_kind code a ≡ Some array.kind = ap (λ (o : Option Cells). option_map (λ (x : Cells). x.kind) o) there_it in
    let asked : read_at (Some array) m ≡ asks q = ap (λ (o : Option Cells). read_at o m) (sym there_it) ∙ e in
    let kind : kind_of answer.value ≡ array.kind = read_at_kind code array m.top.operands m q answer (all_there (has_cells code.layout.cells) code.arrays a array tables there_it) asked f in
    go refl (answer.value ∷ drop 1 m.top.operands)
    (cons_kinds answer.value array.kind (drop 1 m.top.operands) r kind (drop_one kinds.Int r m.top.operands k) ∙ ap (λ o. reverse (listed o) ++ r) (sym ak))
answer_good code tables m q answer function shape r f stay (does.WriteAt a) named k go e =
    let (array, there_it) = there code.arrays a named in
    let ak : array_kind code a ≡ Some array.kind = ap (λ (o : Option Cells). option_map (λ (x : Cells). x.kind) o) there_it in
    go refl (drop 2 m.top.operands) (drop_two array.kind kinds.Int r m.top.operands (k ∙ ap (λ o. reverse (kinds.Int ∷ listed o) ++ r) ak))
answer_good code tables m q answer function shape r f stay (does.Ask name) named k go e =
    let args : List Value = reverse (take (length (shared_takes name)) m.top.operands) in
    let same : request_of name args ≡ q = asked_several (shared_takes name) (λ args rest. request_of name args) m.top.operands q (are_of (shared_takes name) args) e in
    let kind : kind_of answer.value ≡ kinds.Int = asked_kind (map (λ (cell : CellHead). cell.kind) code.layout.cells) name args answer (args_kinds (shared_takes name) r m.top.operands k) (subst (λ x. Fits (map (λ (cell : CellHead). cell.kind) code.layout.cells) x answer) (sym same) f) in
    go refl (answer.value ∷ drop (length (shared_takes name)) m.top.operands) (cons_kinds answer.value kinds.Int (drop (length (shared_takes name)) m.top.operands) r kind (rest_kinds (shared_takes name) r m.top.operands k))
answer_good code tables m q answer function shape r f stay _ named k go e = stay

pub answers_keep : AnswersKeep
answers_keep code is none m q answer safe asked f =
    let function : RawFunction = safe.function in
    let shape : List Kind = safe.shape in
    let s : Step = safe.top.stands.step in
    let at : At code function m.top.place s shape = safe.top.stands.at in
    let what : Instruction = s.what in
    let e : instruction_at code m ≡ Some what = ap (λ (o : Option RawFunction). instruction_in o m.top.place) safe.top.found ∙ ap (λ (o : Option Step). option_map (λ (x : Step). x.what) o) at.found in
    let (head, good) = sound code is none m.top.function function safe.top.found in
    let fine : IsFine code function m.top.place shape what = good.fine m.top.place s shape at in
    let taken : List Kind = takes_of code function shape what in
    let k : map kind_of m.top.operands ≡ reverse taken ++ reverse (below shape taken) = safe.operands ∙ ap reverse fine.finds ∙ reverse-append (below shape taken) taken in
    let after : List Kind = after_of code function shape what in
    let stay : IsSafe code (record m { error = error_kept answer.code m.error; last = last_after answer.extra m.last }) = record { function = function; shape = shape; top = safe.top; operands = safe.operands; callers = safe.callers; room = safe.room } in
    let act_asks : act code what m ≡ asks q = ap (λ o. act_on code o m) (sym e) ∙ asked in
    subst (λ o. IsSafe code (heard m answer o)) (sym e)
    (answer_good code (((none 1 0 0).tables refl refl).arrays) m q answer function shape (reverse (below shape taken)) f stay what fine.named k
    (λ w operands z. record {
      function = function;
      shape = after;
      top = record { found = safe.top.found; stands = subst (λ way. GoesOn code function m.top.place after way) w fine.goes_on; locals = safe.top.locals };
      operands = z ∙ sym (after_kinds code function shape what (no_end (way_of what) w));
      callers = safe.callers;
      room = safe.room;
    })
    act_asks)
