-- The request at which a machine stands.
use Rattle.std.proofs.Common.{◌≡◌, ℕ, zero, suc, ◌+◌, ◌<◌, ◌≤◌, ℤ, pos, negsuc, Bool, true, false, cond, List, [], ◌∷◌, ◌++◌, length, take, drop, reverse, Option, Some, None, refl, sym, ap, ◌∙◌, subst, arith, rules}
use Rattle.std.specs.Prelude.{slice_get, nat_lt, nat_le, ◌&&◌, ◌||◌, ◌==◌, option_map, IsTrue}
use Rattle.std.specs.List.{slice_range, list_all}
use Rattle.std.proofs.lemmas.List.{reverse-reverse, take-append-drop, length-reverse, length-map}
use Rattle.std.proofs.lemmas.Option.{slice_get_within, slice_get-map}
use Rattle.ci_base.specs.declared.function.SharedName.{SharedName}
use Rattle.ci_base.specs.declared.function.SharedName.TheVariants as names
use Rattle.ci_base.specs.declared.layout.CellHead.{CellHead}
use Rattle.ci_base.specs.declared.request.Request.{Request}
use Rattle.ci_base.specs.declared.request.Request.TheVariants.{Read, Write, End}
use Rattle.ci_base.specs.declared.value.Kind.{Kind}
use Rattle.ci_base.specs.declared.value.Kind.TheVariants as kinds
use Rattle.ci_base.specs.declared.value.Value.{Value}
use Rattle.ci_base.specs.declared.value.Value.TheVariants.{Int, Str}
use Rattle.ci_base.specs.Functions.{shared_takes}
use Rattle.ci_base.specs.Requests.{request_of, plain_request, int_request, text_request, ints_request, text_int_request, texts_int_request, ints_text_request}
use Rattle.ci_base.specs.Steps.{asks}
use Rattle.ci_base.specs.Values.{kind_of, first_of_kind}
use Rattle.ci_code.specs.declared.instruction.Instruction.{Instruction}
use Rattle.ci_code.specs.declared.instruction.Instruction.TheVariants as does
use Rattle.ci_code.specs.declared.raw.Cells.{Cells}
use Rattle.ci_code.specs.declared.raw.RawParts.{RawParts}
use Rattle.ci_code.specs.Code.{IsCode}
use Rattle.ci_code.specs.Machine.{act, read, written, read_cell, write_cell}
use Rattle.ci_code.specs.Moves.{Machine, Move, failed_if, one, only_if, is_of, cell_in}
use Rattle.ci_verify.specs.Kinds.{same_kind}
use Rattle.ci_verify.specs.Rules.{NoneBroken, has_cells}
use Rattle.ci_verify.proofs.Resumed.{all_there, index_kind}
use Rattle.ci_task.specs.Spelled.{floor, spelled}
use Rattle.ci_task.specs.Going.{HasRoom, IsAskedBy, makes_request}
use Rattle.ci_task.specs.Moved.{IsMade, cell_kinds, Asking}
use Rattle.ci_task.proofs.Operands.{below}
use Rattle.ci_task.proofs.Acts.{one_there, only_there}
use Rattle.ci_task.proofs.Calling.{several_there}
use Rattle.ci_task.proofs.Coming.{read_array, write_array, same_array, args_below}

abbrev asking : Request → Move
asking q = asks q

same_request : (p q : Request) → asking p ≡ asking q → p ≡ q
same_request p q h = cc h

no_room_needed : (move : Move) (q : Request) → move ≡ asks q → HasRoom move
no_room_needed move q e = subst HasRoom (sym e) tt

pub read_told : (code : RawParts) (c : ℕ) (values : List Value) (q : Request) → Asking code (does.ReadCell c) values q → Read c ≡ q
read_told code c values q t = by (slice_get code.layout.cells c) t.4
  where
    by : (o : Option CellHead) → read o c ≡ asks q → Read c ≡ q
    by (Some cell) h = same_request (Read c) q h
    by None h = absurd (cc h)

pub written_as : (code : RawParts) (c : ℕ) (m : Machine) (q : Request) → act code (does.WriteCell c) m ≡ asks q → (v : Value) × (rest : List Value) × (m.top.operands ≡ v ∷ rest) × (q ≡ Write c v) × ((cell : CellHead) × (slice_get code.layout.cells c ≡ Some cell) × (is_of cell.kind v ≡ true))
written_as code c m q e = by (slice_get code.layout.cells c) e
  where
    by : (o : Option CellHead) → written o c m ≡ asks q → (v : Value) × (rest : List Value) × (m.top.operands ≡ v ∷ rest) × (q ≡ Write c v) × ((cell : CellHead) × (o ≡ Some cell) × (is_of cell.kind v ≡ true))
    by None h = absurd (cc h)
    by (Some cell) h =
        let go : Value → List Value → Move = λ v operands. only_if (is_of cell.kind v) (asks (Write c v)) in
        let t = one_there go m.top.operands (no_room_needed (one go m.top.operands) q h) in
        let acts : one go m.top.operands ≡ go t.0 t.1 = ap (λ (l : List Value). one go l) t.2 in
        let good : is_of cell.kind t.0 ≡ true = only_there (is_of cell.kind t.0) (asks (Write c t.0)) (no_room_needed (go t.0 t.1) q (sym acts ∙ h)) in
        let asked : asking (Write c t.0) ≡ asking q = sym (ap (λ b. only_if b (asks (Write c t.0))) good) ∙ sym acts ∙ h in
        (t.0, t.1, t.2, sym (same_request (Write c t.0) q asked), (cell, refl, good))

pub write_told : (code : RawParts) (c : ℕ) (values : List Value) (q : Request) → Asking code (does.WriteCell c) values q → (low : List Value) × (v : Value) × (values ≡ low ++ v ∷ []) × (q ≡ Write c v)
write_told code c values q t =
    let w = written_as code c (spelled code t.0 t.1 values t.2) q t.4 in
    (take (floor code t.0) values ++ reverse w.1, w.0, below (floor code t.0) values (w.0 ∷ []) w.1 w.2, w.3)

-- an element is asked for where it is inside
element_read : (array : Cells) (i : ℤ) (o : Option ℕ) (kind : Kind) (rest : List Value) (m : Machine) (q : Request) (b : Bool) → m.goes_on ≡ b → read_cell o kind rest m ≡ asks q → (c : ℕ) × (q ≡ Read c) → (d : ℕ) × (o ≡ Some d) × (q ≡ Read d)
element_read array i (Some d) kind rest m q b e h is = (d, refl, sym (same_request (Read d) q h))
element_read array i None kind rest m q true e h is = absurd (cc (sym (ap (λ x. failed_if x 7 (first_of_kind kind ∷ rest) m) e) ∙ h))
element_read array i None kind rest m q false e h is =
    let ended : asking (End 7) ≡ asking q = sym (ap (λ x. failed_if x 7 (first_of_kind kind ∷ rest) m) e) ∙ h in
    let other : End 7 ≡ Read is.0 = same_request (End 7) q ended ∙ is.1 in
    absurd (cc other)

element_written : (o : Option ℕ) (v : Value) (rest : List Value) (m : Machine) (q : Request) (b : Bool) → m.goes_on ≡ b → write_cell o v rest m ≡ asks q → (c : ℕ) × (u : Value) × (q ≡ Write c u) → (d : ℕ) × (o ≡ Some d) × (q ≡ Write d v)
element_written (Some d) v rest m q b e h is = (d, refl, sym (same_request (Write d v) q h))
element_written None v rest m q true e h is = absurd (cc (sym (ap (λ x. failed_if x 7 rest m) e) ∙ h))
element_written None v rest m q false e h is =
    let ended : asking (End 7) ≡ asking q = sym (ap (λ x. failed_if x 7 rest m) e) ∙ h in
    let other : End 7 ≡ Write is.0 is.1 = same_request (End 7) q ended ∙ is.2 in
    absurd (cc other)

pub read_at_told : (code : RawParts) (k : ℕ) (values : List Value) (q : Request) → Asking code (does.ReadAt k) values q → (array : Cells) × (i : ℤ) × (low : List Value) × (c : ℕ) × (slice_get code.arrays k ≡ Some array) × (values ≡ low ++ Int i ∷ []) × (cell_in array i ≡ Some c) × (q ≡ Read c)
read_at_told code k values q t =
    let m : Machine = spelled code t.0 t.1 values t.2 in
    let w = read_array code (slice_get code.arrays k) m (no_room_needed (act code (does.ReadAt k) m) q t.4) in
    let e = element_read w.0 w.1 (cell_in w.0 w.1) w.0.kind w.2 m q m.goes_on refl (sym w.5 ∙ t.4) t.5 in
    (w.0, w.1, take (floor code t.0) values ++ reverse w.2, e.0, w.3, below (floor code t.0) values (Int w.1 ∷ []) w.2 w.4, e.1, e.2)

pub write_at_told : (code : RawParts) (k : ℕ) (values : List Value) (q : Request) → Asking code (does.WriteAt k) values q → (array : Cells) × (i : ℤ) × (v : Value) × (low : List Value) × (c : ℕ) × (slice_get code.arrays k ≡ Some array) × (values ≡ low ++ Int i ∷ v ∷ []) × (cell_in array i ≡ Some c) × (q ≡ Write c v) × (is_of array.kind v ≡ true)
write_at_told code k values q t =
    let m : Machine = spelled code t.0 t.1 values t.2 in
    let w = write_array code (slice_get code.arrays k) m (no_room_needed (act code (does.WriteAt k) m) q t.4) in
    let e = element_written (cell_in w.0 w.2) w.1 w.3 m q m.goes_on refl (sym w.7 ∙ t.4) t.5 in
    (w.0, w.2, w.1, take (floor code t.0) values ++ reverse w.3, e.0, w.4, below (floor code t.0) values (w.1 ∷ Int w.2 ∷ []) w.3 w.5, e.1, e.2, w.6)

pub ask_told : (code : RawParts) (name : SharedName) (values : List Value) (q : Request) → Asking code (does.Ask name) values q → (low : List Value) × (args : List Value) × (values ≡ low ++ args) × (length args ≡ length (shared_takes name)) × (q ≡ request_of name args)
ask_told code name values q t =
    let m : Machine = spelled code t.0 t.1 values t.2 in
    let k : ℕ = length (shared_takes name) in
    let w = several_there (shared_takes name) (λ args operands. asks (request_of name args)) m.top.operands (no_room_needed (act code (does.Ask name) m) q t.4) in
    let args : List Value = reverse (take k m.top.operands) in
    let e : m.top.operands ≡ reverse args ++ drop k m.top.operands = sym (take-append-drop k m.top.operands) ∙ ap (λ (l : List Value). l ++ drop k m.top.operands) (sym (reverse-reverse (take k m.top.operands))) in
    (take (floor code t.0) values ++ reverse (drop k m.top.operands), args, args_below (floor code t.0) values args (drop k m.top.operands) e, length-reverse (take k m.top.operands) ∙ w.0, sym (same_request (request_of name args) q (sym w.1 ∙ t.4)))

-- What is asked for can be served

kind_is : (kind : Kind) (v : Value) → is_of kind v ≡ true → kind ≡ kind_of v
kind_is kinds.Int (Int n) h = refl
kind_is kinds.Str (Str s) h = refl
kind_is kinds.Int (Str s) h = absurd (cc h)
kind_is kinds.Str (Int n) h = absurd (cc h)

-- the cells of an array exist
cells_there : (cells : List CellHead) (array : Cells) (i : ℤ) (c : ℕ) → has_cells cells array ≡ true → cell_in array i ≡ Some c → c < length cells
cells_there cells array (negsuc i) c h e = absurd (cc e)
cells_there cells array (pos i) c h e = by (nat_lt i array.length) refl e
  where
    inside : (a b : Bool) → a && b ≡ true → a ≡ true
    inside true b h = refl
    inside false b h = absurd (cc h)

    some : (b c : Bool) → array.length == 0 ≡ b → b || c ≡ true → i < array.length → c ≡ true
    some true c z h less = absurd (grind (arith, z, less))
    some false c z h less = h

    by : (b : Bool) → nat_lt i array.length ≡ b → cond b (Some (array.first + i)) None ≡ Some c → c < length cells
    by false l f = absurd (cc f)
    by true l f =
        let less : i < array.length = grind (arith, l) in
        let at : array.first + i ≡ c = cc f in
        let fit : nat_le (array.first + array.length) (length cells) ≡ true = inside (nat_le (array.first + array.length) (length cells)) (list_all (λ (cell : CellHead). same_kind cell.kind array.kind) (slice_range cells array.first (array.first + array.length))) (some (array.length == 0) (nat_le (array.first + array.length) (length cells) && list_all (λ (cell : CellHead). same_kind cell.kind array.kind) (slice_range cells array.first (array.first + array.length))) refl h less) in
        let all : array.first + array.length ≤ length cells = grind (arith, fit) in
        omega arith

cell_of : (cells : List CellHead) (c : ℕ) → c < length cells → (cell : CellHead) × (slice_get cells c ≡ Some cell)
cell_of [] c h = absurd (omega arith)
cell_of (cell ∷ cells) zero h = (cell, refl)
cell_of (cell ∷ cells) (suc c) h = cell_of cells c (omega arith)

kept_arrays : (code : RawParts) → NoneBroken code → (k : ℕ) (array : Cells) → slice_get code.arrays k ≡ Some array → has_cells code.layout.cells array ≡ true
kept_arrays code none k array e = all_there (has_cells code.layout.cells) code.arrays k array (is_true ((none 1 0 0).tables refl refl).arrays) e
  where
    is_true : (h : IsTrue (list_all (has_cells code.layout.cells) code.arrays)) → list_all (has_cells code.layout.cells) code.arrays ≡ true
    is_true h = search rules

plain : (code : RawParts) (name : SharedName) → IsMade code (plain_request name)
plain code names.SysTime = tt
plain code _ = tt

of_int : (code : RawParts) (name : SharedName) (n : ℤ) → IsMade code (int_request name n)
of_int code names.TaskKill n = tt
of_int code _ n = tt

of_text : (code : RawParts) (name : SharedName) (s : List ℕ) → IsMade code (text_request name s)
of_text code names.TaskHnd s = tt
of_text code _ s = tt

of_ints : (code : RawParts) (name : SharedName) (a b : ℤ) → IsMade code (ints_request name a b)
of_ints code names.SemWait a b = tt
of_ints code _ a b = tt

of_text_int : (code : RawParts) (name : SharedName) (s : List ℕ) (n : ℤ) → IsMade code (text_int_request name s n)
of_text_int code names.SemOpen s n = tt
of_text_int code _ s n = tt

of_texts_int : (code : RawParts) (name : SharedName) (s t : List ℕ) (n : ℤ) → IsMade code (texts_int_request name s t n)
of_texts_int code names.TaskNew s t n = tt
of_texts_int code _ s t n = tt

of_ints_text : (code : RawParts) (name : SharedName) (a b : ℤ) (s : List ℕ) → IsMade code (ints_text_request name a b s)
of_ints_text code names.QueWrite a b s = tt
of_ints_text code _ a b s = tt

asked : (code : RawParts) (name : SharedName) (args : List Value) → IsMade code (request_of name args)
asked code name [] = plain code name
asked code name (Int n ∷ []) = of_int code name n
asked code name (Str s ∷ []) = of_text code name s
asked code name (Int a ∷ Int b ∷ []) = of_ints code name a b
asked code name (Str s ∷ Int n ∷ []) = of_text_int code name s n
asked code name (Str s ∷ Str t ∷ Int n ∷ []) = of_texts_int code name s t n
asked code name (Int a ∷ Int b ∷ Str s ∷ []) = of_ints_text code name a b s
asked code name _ = tt

pub is_made : (code : RawParts) (what : Instruction) (values : List Value) (q : Request) → NoneBroken code → Asking code what values q → IsMade code q
is_made code (does.ReadCell c) values q none t = subst (IsMade code) (read_told code c values q t) (by (slice_get code.layout.cells c) refl t.4)
  where
    by : (o : Option CellHead) → slice_get code.layout.cells c ≡ o → read o c ≡ asks q → c < length code.layout.cells
    by (Some cell) e h = slice_get_within code.layout.cells c cell e
    by None e h = absurd (cc h)
is_made code (does.WriteCell c) values q none t =
    let w = written_as code c (spelled code t.0 t.1 values t.2) q t.4 in
    subst (IsMade code) (sym w.3) (slice_get-map (λ (cell : CellHead). cell.kind) code.layout.cells c ∙ ap (λ (o : Option CellHead). option_map (λ (cell : CellHead). cell.kind) o) w.4.1 ∙ ap (λ (k : Kind). Some k) (kind_is w.4.0.kind w.0 w.4.2))
is_made code (does.ReadAt k) values q none t =
    let w = read_at_told code k values q t in
    subst (IsMade code) (sym w.7) (cells_there code.layout.cells w.0 w.1 w.3 (kept_arrays code none k w.0 w.4) w.6)
is_made code (does.WriteAt k) values q none t =
    let w = write_at_told code k values q t in
    let kept = kept_arrays code none k w.0 w.5 in
    let cell = cell_of code.layout.cells w.4 (cells_there code.layout.cells w.0 w.1 w.4 kept w.7) in
    let kind : cell.0.kind ≡ w.0.kind = index_kind code.layout.cells w.0 w.1 w.4 cell.0 kept w.7 cell.1 in
    subst (IsMade code) (sym w.8) (slice_get-map (λ (cell : CellHead). cell.kind) code.layout.cells w.4 ∙ ap (λ (o : Option CellHead). option_map (λ (cell : CellHead). cell.kind) o) cell.1 ∙ ap (λ (k : Kind). Some k) (kind ∙ kind_is w.0.kind w.2 w.9))
is_made code (does.Ask name) values q none t =
    let w = ask_told code name values q t in
    subst (IsMade code) (sym w.4) (asked code name w.1)
is_made code _ values q none t = absurd t.5

-- For the code that makes the request

pub cell_same : (code : RawParts) (k c : ℕ) (array other : Cells) (z n i : ℤ) → slice_get code.arrays k ≡ Some array → slice_get code.arrays k ≡ Some other → z ≡ n → n ≡ i → cell_in other i ≡ Some c → cell_in array z ≡ Some c
cell_same code k c array other z n i found there wrapped same inside =
    let one : array ≡ other = same_array array other (sym found ∙ there) in
    ap (λ (g : Cells). cell_in g z) one ∙ ap (λ x. cell_in other x) (wrapped ∙ same) ∙ inside

pub read_small : (code : RawParts) (c : ℕ) (q : Request) → IsCode code → IsMade code q → q ≡ Read c → c < 4294967296
read_small code c q is made e =
    let there : c < length code.layout.cells = subst (IsMade code) e made in
    omega (arith, there, is.counted.layout.cells)

pub write_small : (code : RawParts) (c : ℕ) (v : Value) (q : Request) → IsCode code → IsMade code q → q ≡ Write c v → c < 4294967296
write_small code c v q is made e =
    let there : slice_get (cell_kinds code) c ≡ Some (kind_of v) = subst (IsMade code) e made in
    omega (arith, slice_get_within (cell_kinds code) c (kind_of v) there, length-map code.layout.cells (λ (cell : CellHead). cell.kind), is.counted.layout.cells)

pub same_cell : (a b : ℕ) (o : Option ℕ) → o ≡ Some a → o ≡ Some b → a ≡ b
same_cell a b o h k = some_same (sym h ∙ k)
  where
    some_same : Some a ≡ Some b → a ≡ b
    some_same h = cc h

pub makes : (what : Instruction) (q : Request) → IsAskedBy what q → makes_request what ≡ true
makes (does.ReadCell c) q h = refl
makes (does.WriteCell c) q h = refl
makes (does.ReadAt a) q h = refl
makes (does.WriteAt a) q h = refl
makes (does.Ask name) q h = refl
makes _ q h = absurd h
