-- A safe machine of verified code makes its move, and is safe behind it.
use Rattle.std.proofs.Common.{◌≡◌, ℕ, zero, suc, ◌+◌, ◌≤◌, List, [], ◌∷◌, length, take, drop, reverse, Option, Some, None, refl, sym, ◌∙◌, ap, subst, arith, Bool, true, false, Ok, Err}
use Rattle.std.specs.Prelude.{ℤ, nat_le, ◌&&◌, ◌++◌, option_map, unwrap_or, map}
use Rattle.std.proofs.lemmas.Bool.{leb-true}
use Rattle.std.proofs.Math.Seq.{take-append_seam, drop-append_seam}
use Rattle.std.proofs.lemmas.List.{map-append, reverse-append, reverse-reverse, length-reverse, length-map, take-map, drop-map, take-append-drop}
use Rattle.std.specs.List.{slice_get, slice_set}
use Rattle.std.proofs.lemmas.Option.{slice_get-map}
use Rattle.ci_base.specs.declared.bounds.TheConstants.{MOST_ROOM}
use Rattle.ci_base.specs.declared.errors.TheConstants.{BAD_INDEX}
use Rattle.ci_base.specs.declared.request.Request.TheVariants.{Write}
use Rattle.ci_base.specs.declared.function.PrivateName.{PrivateName}
use Rattle.ci_base.specs.declared.layout.CellHead.{CellHead}
use Rattle.ci_base.specs.declared.value.Kind.{Kind}
use Rattle.ci_base.specs.declared.value.Kind.TheVariants as kinds
use Rattle.ci_base.specs.declared.value.Value.{Value}
use Rattle.ci_base.specs.declared.value.Value.TheVariants.{Int, Str}
use Rattle.ci_base.specs.Arithmetic.{sum, difference, product, negation, inversion, quotient, remainder, conjunction, disjunction, common_bits, joint_bits, differing_bits}
use Rattle.ci_base.specs.PrivateFunctions.{private_value, error_after, goes_on_after}
use Rattle.ci_base.specs.Comparisons.{within}
use Rattle.ci_base.specs.Functions.{private_takes, private_gives, shared_takes}
use Rattle.ci_base.specs.Requests.{request_of}
use Rattle.ci_base.specs.Steps.{quiet, asks}
use Rattle.ci_base.specs.TextFunctions.{joined, formatted}
use Rattle.ci_base.specs.Values.{Outcome, is_zero, truth, kind_of, first_of_kind}
use Rattle.ci_code.specs.declared.instruction.Instruction.{Instruction}
use Rattle.ci_code.specs.declared.instruction.Instruction.TheVariants as does
use Rattle.ci_code.specs.declared.instruction.Step.{Step}
use Rattle.ci_code.specs.declared.raw.Cells.{Cells}
use Rattle.ci_code.specs.declared.raw.RawFunction.{RawFunction}
use Rattle.ci_code.specs.declared.raw.RawParts.{RawParts}
use Rattle.ci_code.specs.Code.{IsCode}
use Rattle.ci_code.specs.Moves.{Frame, Machine, Move, locals_with, parameters_in, parameters_of, value_kind, is_of, are_of, is_of_some, cell_in, on, jumped, stored, only_if, failed_if, came, one, one_int, two_ints, two_texts, several}
use Rattle.ci_code.specs.Machine.{pushed, loaded, kept, read, written, read_cell, read_at, write_cell, write_in, write_at, compared, ints_within, texts_within, swapped, branched, room_in, rooms, entered_if, called, computed, given, returned, ended, running, act, instruction_in, instruction_at, act_on, next, locals_in, opening}
use Rattle.ci_verify.specs.Laws.{IsFine}
use Rattle.ci_verify.specs.Kinds.{callee_kind, listed, top_kind, second_kind, below, takes_of, leaves_of, stays_of, after_of}
use Rattle.ci_verify.specs.Rules.{At, Stands, Named, GoesOn, NoneBroken}
use Rattle.ci_verify.specs.Safe.{IsFrame, IsWaiting, AreWaiting, IsSafe, GoesSafely, NeverStuck, values_held, NeverFull}
use Rattle.ci_verify.specs.Ways.{way_of}
use Rattle.ci_verify.specs.declared.way.Way.{Way}
use Rattle.ci_verify.specs.declared.way.Way.TheVariants.{Next, Ends}
use Rattle.ci_verify.proofs.Outcomes.{OfKind, first_kind, quotient_kind, remainder_kind, joined_kind, formatted_kind, private_kind}
use Rattle.ci_verify.proofs.Places.{same_some}
use Rattle.ci_verify.proofs.Sound.{there}
use Rattle.ci_verify.proofs.Between.{head_of, sound}

-- Lists of kinds

map_reverse : (values : List Value) → map kind_of (reverse values) ≡ reverse (map kind_of values)
map_reverse [] = refl
map_reverse (v ∷ values) =
    ap (map kind_of) (reverse-append (v ∷ []) values)
    ∙ map-append kind_of (reverse values) (v ∷ [])
    ∙ ap (λ l. l ++ kind_of v ∷ []) (map_reverse values)
    ∙ sym (reverse-append (kind_of v ∷ []) (map kind_of values))

is_of_kind : (v : Value) (kind : Kind) → kind_of v ≡ kind → is_of kind v ≡ true
is_of_kind (Int i) kinds.Int e = refl
is_of_kind (Int i) kinds.Str e = absurd (cc e)
is_of_kind (Str s) kinds.Int e = absurd (cc e)
is_of_kind (Str s) kinds.Str e = refl

are_of_kinds : (taken : List Kind) (values : List Value) → map kind_of values ≡ taken → are_of taken values ≡ true
are_of_kinds [] [] e = refl
are_of_kinds [] (v ∷ values) e = absurd (cc e)
are_of_kinds (kind ∷ taken) [] e = absurd (cc e)
are_of_kinds (kind ∷ taken) (v ∷ values) e =
    let one : kind_of v ≡ kind = cc e in
    let others : map kind_of values ≡ taken = cc e in
    ap (λ b. b && are_of taken values) (is_of_kind v kind one) ∙ are_of_kinds taken values others

pub cons_kinds : (v : Value) (kind : Kind) (rest : List Value) (r : List Kind) → kind_of v ≡ kind → map kind_of rest ≡ r → map kind_of (v ∷ rest) ≡ kind ∷ r
cons_kinds v kind rest r h k = ap (λ x. x ∷ map kind_of rest) h ∙ ap (λ l. kind ∷ l) k

-- the arguments, and what lies below them
pub args_kinds : (taken r : List Kind) (operands : List Value) → map kind_of operands ≡ reverse taken ++ r → map kind_of (reverse (take (length taken) operands)) ≡ taken
args_kinds taken r operands k =
    let n : length (reverse taken) ≡ length taken = length-reverse taken in
    map_reverse (take (length taken) operands)
    ∙ ap reverse (sym (take-map kind_of (length taken) operands) ∙ ap (take (length taken)) k ∙ ap (λ i. take i (reverse taken ++ r)) (sym n) ∙ take-append_seam (reverse taken) r)
    ∙ reverse-reverse taken

pub rest_kinds : (taken r : List Kind) (operands : List Value) → map kind_of operands ≡ reverse taken ++ r → map kind_of (drop (length taken) operands) ≡ r
rest_kinds taken r operands k =
    sym (drop-map kind_of (length taken) operands) ∙ ap (drop (length taken)) k ∙ ap (λ i. drop i (reverse taken ++ r)) (sym (length-reverse taken)) ∙ drop-append_seam (reverse taken) r

-- the locals of a function that begins
first_kinds : (ks : List Kind) → map kind_of (map first_of_kind ks) ≡ ks
first_kinds [] = refl
first_kinds (k ∷ ks) = ap (λ x. x ∷ map kind_of (map first_of_kind ks)) (first_kind k) ∙ ap (λ l. k ∷ l) (first_kinds ks)

-- a local takes a value of its kind
set_kinds : (values : List Value) (ks : List Kind) (i : ℕ) (v : Value) (kind : Kind) → map kind_of values ≡ ks → slice_get ks i ≡ Some kind → kind_of v ≡ kind → map kind_of (slice_set values i v) ≡ ks
set_kinds [] ks i v kind e at h = e
set_kinds (u ∷ values) [] i v kind e at h = absurd (cc e)
set_kinds (u ∷ values) (k ∷ ks) zero v kind e at h =
    let same : k ≡ kind = cc at in
    let others : map kind_of values ≡ ks = cc e in
    cons_kinds v k values ks (h ∙ sym same) others
set_kinds (u ∷ values) (k ∷ ks) (suc i) v kind e at h =
    let one : kind_of u ≡ k = cc e in
    let others : map kind_of values ≡ ks = cc e in
    cons_kinds u k (slice_set values i v) ks one (set_kinds values ks i v kind others at h)

-- at the next place the machine is safe with operands of these kinds
abbrev Onward : RawParts → Machine → RawFunction → List Kind → Type 0
Onward code m function ks = (locals operands : List Value) (e : ℕ) (g : Bool) → map kind_of locals ≡ function.locals → map kind_of operands ≡ ks → IsSafe code (record m { top = record { function = m.top.function; place = m.top.place + 1; locals = locals; operands = operands }; error = e; goes_on = g })

only_good : (code : RawParts) (b : Bool) (move : Move) → b ≡ true → GoesSafely code move → GoesSafely code (only_if b move)
only_good code true move e h = h
only_good code false move e h = absurd (cc e)

module _ (code : RawParts) (m : Machine) (function : RawFunction) (kept_locals : map kind_of m.top.locals ≡ function.locals) where
  on_good : (ks : List Kind) → Onward code m function ks → (operands : List Value) → map kind_of operands ≡ ks → IsSafe code (on operands m)
  on_good ks go operands k = go m.top.locals operands m.error m.goes_on kept_locals k

  failed_good : (ks : List Kind) → Onward code m function ks → (b : Bool) (c : ℕ) (operands : List Value) → map kind_of operands ≡ ks → GoesSafely code (failed_if b c operands m)
  failed_good ks go true c operands k = go m.top.locals operands c m.goes_on kept_locals k
  failed_good ks go false c operands k = tt

  came_good : (kind : Kind) (r : List Kind) → Onward code m function (kind ∷ r) → (o : Outcome) → OfKind kind o → (rest : List Value) → map kind_of rest ≡ r → GoesSafely code (came kind o rest m)
  came_good kind r go (Ok v) h rest k = on_good (kind ∷ r) go (v ∷ rest) (cons_kinds v kind rest r h k)
  came_good kind r go (Err c) h rest k = failed_good (kind ∷ r) go m.goes_on c (first_of_kind kind ∷ rest) (cons_kinds (first_of_kind kind) kind rest r (first_kind kind) k)

  one_good : (kind : Kind) (r : List Kind) (f : Value → List Value → Move) (operands : List Value) → map kind_of operands ≡ kind ∷ r → ((v : Value) (rest : List Value) → kind_of v ≡ kind → map kind_of rest ≡ r → GoesSafely code (f v rest)) → GoesSafely code (one f operands)
  one_good kind r f [] k h = absurd (cc k)
  one_good kind r f (v ∷ rest) k h = let a : kind_of v ≡ kind = cc k in let b : map kind_of rest ≡ r = cc k in h v rest a b

  one_int_good : (r : List Kind) (f : ℤ → List Value → Move) (operands : List Value) → map kind_of operands ≡ kinds.Int ∷ r → ((i : ℤ) (rest : List Value) → map kind_of rest ≡ r → GoesSafely code (f i rest)) → GoesSafely code (one_int f operands)
  one_int_good r f [] k h = absurd (cc k)
  one_int_good r f (Int i ∷ rest) k h = let b : map kind_of rest ≡ r = cc k in h i rest b
  one_int_good r f (Str s ∷ rest) k h = absurd (cc k)

  two_ints_good : (r : List Kind) (work : ℤ → ℤ → Outcome) → ((a b : ℤ) → OfKind kinds.Int (work a b)) → Onward code m function (kinds.Int ∷ r) → (operands : List Value) → map kind_of operands ≡ kinds.Int ∷ kinds.Int ∷ r → GoesSafely code (two_ints work operands m)
  two_ints_good r work h go (Int b ∷ Int a ∷ rest) k = let below_it : map kind_of rest ≡ r = cc k in came_good kinds.Int r go (work a b) (h a b) rest below_it
  two_ints_good r work h go _ k = absurd (cc k)

  two_texts_good : (kind : Kind) (r : List Kind) (work : List ℕ → List ℕ → Outcome) → ((a b : List ℕ) → OfKind kind (work a b)) → Onward code m function (kind ∷ r) → (operands : List Value) → map kind_of operands ≡ kinds.Str ∷ kinds.Str ∷ r → GoesSafely code (two_texts kind work operands m)
  two_texts_good kind r work h go (Str b ∷ Str a ∷ rest) k = let below_it : map kind_of rest ≡ r = cc k in came_good kind r go (work a b) (h a b) rest below_it
  two_texts_good kind r work h go _ k = absurd (cc k)

  several_good : (taken r : List Kind) (f : List Value → List Value → Move) (operands : List Value) → map kind_of operands ≡ reverse taken ++ r → ((args rest : List Value) → map kind_of args ≡ taken → map kind_of rest ≡ r → GoesSafely code (f args rest)) → GoesSafely code (several taken f operands)
  several_good taken r f operands k h =
      only_good code
      (are_of taken (reverse (take (length taken) operands)))
      (f (reverse (take (length taken) operands)) (drop (length taken) operands))
      (are_of_kinds taken (reverse (take (length taken) operands)) (args_kinds taken r operands k))
      (h (reverse (take (length taken) operands)) (drop (length taken) operands) (args_kinds taken r operands k) (rest_kinds taken r operands k))

  pushed_good : (r : List Kind) (o : Option (List ℕ)) → (s : List ℕ) × (o ≡ Some s) → Onward code m function (kinds.Str ∷ r) → map kind_of m.top.operands ≡ r → GoesSafely code (pushed o m)
  pushed_good r (Some s) there_it go k = on_good (kinds.Str ∷ r) go (Str s ∷ m.top.operands) (cons_kinds (Str s) kinds.Str m.top.operands r refl k)
  pushed_good r None (s, e) go k = absurd (cc e)

  ints_within_good : (r : List Kind) → Onward code m function (kinds.Int ∷ r) → (operands : List Value) → map kind_of operands ≡ kinds.Int ∷ kinds.Int ∷ kinds.Int ∷ r → GoesSafely code (ints_within operands m)
  ints_within_good r go (Int high ∷ Int low ∷ Int i ∷ rest) k =
      let below_it : map kind_of rest ≡ r = cc k in
      on_good (kinds.Int ∷ r) go (Int (truth (within (Int i) (Int low) (Int high))) ∷ rest) (ap (λ l. kinds.Int ∷ l) below_it)
  ints_within_good r go _ k = absurd (cc k)

  texts_within_good : (r : List Kind) → Onward code m function (kinds.Int ∷ r) → (operands : List Value) → map kind_of operands ≡ kinds.Str ∷ kinds.Str ∷ kinds.Str ∷ r → GoesSafely code (texts_within operands m)
  texts_within_good r go (Str high ∷ Str low ∷ Str s ∷ rest) k =
      let below_it : map kind_of rest ≡ r = cc k in
      on_good (kinds.Int ∷ r) go (Int (truth (within (Str s) (Str low) (Str high))) ∷ rest) (ap (λ l. kinds.Int ∷ l) below_it)
  texts_within_good r go _ k = absurd (cc k)

  swapped_good : (a b : Kind) (r : List Kind) → Onward code m function (b ∷ a ∷ r) → (operands : List Value) → map kind_of operands ≡ a ∷ b ∷ r → GoesSafely code (swapped operands m)
  swapped_good a b r go (v ∷ u ∷ rest) k =
      let x : kind_of v ≡ a = cc k in
      let y : kind_of u ≡ b = cc k in
      let z : map kind_of rest ≡ r = cc k in
      on_good (b ∷ a ∷ r) go (u ∷ v ∷ rest) (cons_kinds u b (v ∷ rest) (a ∷ r) y (cons_kinds v a rest r x z))
  swapped_good a b r go [] k = absurd (cc k)
  swapped_good a b r go (v ∷ []) k = absurd (cc k)

  computed_good : (q : PrivateName) (r : List Kind) → Onward code m function (private_gives q ∷ r) → (args : List Value) (o : Outcome) → OfKind (private_gives q) o → (rest : List Value) → map kind_of rest ≡ r → GoesSafely code (computed q args o rest m)
  computed_good q r go args (Ok v) h rest k = go m.top.locals (v ∷ rest) (error_after q m.error) (goes_on_after q args m.goes_on) kept_locals (cons_kinds v (private_gives q) rest r h k)
  computed_good q r go args (Err c) h rest k = failed_good (private_gives q ∷ r) go m.goes_on c (first_of_kind (private_gives q) ∷ rest) (cons_kinds (first_of_kind (private_gives q)) (private_gives q) rest r (first_kind (private_gives q)) k)

  -- a local, where there is one of that kind

  loaded_good : (r : List Kind) (kind : Kind) (o : Option Value) → option_map kind_of o ≡ Some kind → Onward code m function (kind ∷ r) → map kind_of m.top.operands ≡ r → GoesSafely code (loaded o m)
  loaded_good r kind (Some v) e go k = let h : kind_of v ≡ kind = cc e in on_good (kind ∷ r) go (v ∷ m.top.operands) (cons_kinds v kind m.top.operands r h k)
  loaded_good r kind None e go k = absurd (cc e)

  kept_good : (r : List Kind) (kind : Kind) (i : ℕ) (o : Option RawFunction) → o ≡ Some function → slice_get function.locals i ≡ Some kind → Onward code m function r → map kind_of m.top.operands ≡ kind ∷ r → GoesSafely code (kept o i m)
  kept_good r kind i None e there_it go k = absurd (cc e)
  kept_good r kind i (Some g) e there_it go k =
      let same : g ≡ function = cc e in
      one_good kind r (λ v operands. only_if (is_of_some (slice_get g.locals i) v) (quiet (stored i v operands m))) m.top.operands k
      (λ v rest h z.
      only_good code (is_of_some (slice_get g.locals i) v) (quiet (stored i v rest m))
      (ap (λ (x : RawFunction). is_of_some (slice_get x.locals i) v) same ∙ ap (λ o. is_of_some o v) there_it ∙ is_of_kind v kind h)
      (go (slice_set m.top.locals i v) rest m.error m.goes_on (set_kinds m.top.locals function.locals i v kind kept_locals there_it h) z))

  -- cells and elements

  read_good : (o : Option CellHead) (c : ℕ) → (cell : CellHead) × (o ≡ Some cell) → GoesSafely code (read o c)
  read_good (Some cell) c there_it = tt
  read_good None c (cell, e) = absurd (cc e)

  written_good : (r : List Kind) (o : Option CellHead) (c : ℕ) → (cell : CellHead) × (o ≡ Some cell) → map kind_of m.top.operands ≡ reverse (listed (option_map (λ (cell : CellHead). cell.kind) o)) ++ r → GoesSafely code (written o c m)
  written_good r (Some cell) c there_it k = one_good cell.kind r (λ v operands. only_if (is_of cell.kind v) (asks (Write c v))) m.top.operands k (λ v rest h z. only_good code (is_of cell.kind v) (asks (Write c v)) (is_of_kind v cell.kind h) tt)
  written_good r None c (cell, e) k = absurd (cc e)

  read_cell_good : (kind : Kind) (r : List Kind) → Onward code m function (kind ∷ r) → (o : Option ℕ) (rest : List Value) → map kind_of rest ≡ r → GoesSafely code (read_cell o kind rest m)
  read_cell_good kind r go (Some c) rest z = tt
  read_cell_good kind r go None rest z = failed_good (kind ∷ r) go m.goes_on BAD_INDEX (first_of_kind kind ∷ rest) (cons_kinds (first_of_kind kind) kind rest r (first_kind kind) z)

  read_at_good : (r : List Kind) (o : Option Cells) → (array : Cells) × (o ≡ Some array) → Onward code m function (reverse (listed (option_map (λ (array : Cells). array.kind) o)) ++ r) → map kind_of m.top.operands ≡ kinds.Int ∷ r → GoesSafely code (read_at o m)
  read_at_good r (Some array) there_it go k = one_int_good r (λ i operands. read_cell (cell_in array i) array.kind operands m) m.top.operands k (λ i rest z. read_cell_good array.kind r go (cell_in array i) rest z)
  read_at_good r None (array, e) go k = absurd (cc e)

  write_cell_good : (r : List Kind) → Onward code m function r → (o : Option ℕ) (v : Value) (rest : List Value) → map kind_of rest ≡ r → GoesSafely code (write_cell o v rest m)
  write_cell_good r go (Some c) v rest z = tt
  write_cell_good r go None v rest z = failed_good r go m.goes_on BAD_INDEX rest z

  write_in_good : (array : Cells) (r : List Kind) → Onward code m function r → (operands : List Value) → map kind_of operands ≡ array.kind ∷ kinds.Int ∷ r → GoesSafely code (write_in array operands m)
  write_in_good array r go (v ∷ Int i ∷ rest) k =
      let h : kind_of v ≡ array.kind = cc k in
      let z : map kind_of rest ≡ r = cc k in
      only_good code (is_of array.kind v) (write_cell (cell_in array i) v rest m) (is_of_kind v array.kind h) (write_cell_good r go (cell_in array i) v rest z)
  write_in_good array r go _ k = absurd (cc k)

  write_at_good : (r : List Kind) (o : Option Cells) → (array : Cells) × (o ≡ Some array) → Onward code m function r → map kind_of m.top.operands ≡ reverse (kinds.Int ∷ listed (option_map (λ (array : Cells). array.kind) o)) ++ r → GoesSafely code (write_at o m)
  write_at_good r (Some array) there_it go k = write_in_good array r go m.top.operands k
  write_at_good r None (array, e) go k = absurd (cc e)

-- a value for one that waits

returned_good : (code : RawParts) (m : Machine) (callee : ℕ) (kind : Kind) (v : Value) (frames : List Frame) → callee_kind code callee ≡ Some kind → kind_of v ≡ kind → AreWaiting code callee frames → rooms code frames ≤ MOST_ROOM → GoesSafely code (returned v frames m)
returned_good code m callee kind v [] e h waiting room = tt
returned_good code m callee kind v (f ∷ frames) e h waiting room =
    let w : IsWaiting code callee f = waiting.0 in
    let same : kind ≡ w.kind = same_some (callee_kind code callee) kind w.kind e w.gives in
    record {
      function = w.function;
      shape = w.shape;
      top = record { found = w.is_frame.found; stands = w.is_frame.stands; locals = w.is_frame.locals };
      operands = cons_kinds v w.kind f.operands (map kind_of f.operands) (h ∙ same) refl ∙ sym w.operands;
      callers = waiting.1;
      room = room;
    }

given_kind : (o : Option Kind) (v : Value) → kind_of v ≡ unwrap_or o kinds.Int → kind_of (given o v) ≡ unwrap_or o kinds.Int
given_kind None v e = refl
given_kind (Some kind) v e = e

ended_good : (code : RawParts) (m : Machine) (function : RawFunction) (r : List Kind) (o : Option RawFunction) → o ≡ Some function → slice_get code.functions m.top.function ≡ Some function → map kind_of m.top.locals ≡ function.locals → AreWaiting code m.top.function m.callers → rooms code m.callers ≤ MOST_ROOM → map kind_of m.top.operands ≡ value_kind function ∷ r → GoesSafely code (ended o m)
ended_good code m function r None e found l waiting room k = absurd (cc e)
ended_good code m function r (Some g) e found l waiting room k =
    let same : function ≡ g = cc e in
    let kg : map kind_of m.top.operands ≡ value_kind g ∷ r = subst (λ (x : RawFunction). map kind_of m.top.operands ≡ value_kind x ∷ r) same k in
    let gives : callee_kind code m.top.function ≡ Some (value_kind g) = ap (λ (x : Option RawFunction). option_map value_kind x) found ∙ ap (λ (x : RawFunction). Some (value_kind x)) same in
    one_good code m function l (value_kind g) r (λ v operands. only_if (is_of (value_kind g) v) (returned (given g.gives v) m.callers m)) m.top.operands kg
    (λ v rest h z. only_good code (is_of (value_kind g) v) (returned (given g.gives v) m.callers m) (is_of_kind v (value_kind g) h)
    (returned_good code m m.top.function (value_kind g) (given g.gives v) m.callers gives (given_kind g.gives v h) waiting room))

-- a function that begins

locals_good : (code : RawParts) → IsCode code → NoneBroken code → (f : ℕ) (function : RawFunction) (args : List Value) → slice_get code.functions f ≡ Some function → map kind_of args ≡ parameters_of code f → map kind_of (locals_with function args) ≡ function.locals
locals_good code is none f function args e k =
    let (head, eh) = head_of code is f function e in
    let params : parameters_of code f ≡ head.kinds = ap parameters_in eh in
    let n : length args ≡ length head.kinds = sym (length-map args kind_of) ∙ ap length (k ∙ params) in
    map-append kind_of args (map first_of_kind (drop (length args) function.locals))
    ∙ ap (λ l. l ++ map kind_of (map first_of_kind (drop (length args) function.locals))) (k ∙ params ∙ sym (is.parameters f head function eh e) ∙ ap (λ i. take i function.locals) (sym n))
    ∙ ap (λ l. take (length args) function.locals ++ l) (first_kinds (drop (length args) function.locals))
    ∙ take-append-drop (length args) function.locals

entered_good : (code : RawParts) → IsCode code → NoneBroken code → (m : Machine) (function : RawFunction) (after : List Kind) → slice_get code.functions m.top.function ≡ Some function → map kind_of m.top.locals ≡ function.locals → AreWaiting code m.top.function m.callers → Stands code function (m.top.place + 1) after → (f : ℕ) (callee : RawFunction) → slice_get code.functions f ≡ Some callee → (args rest : List Value) → map kind_of args ≡ parameters_of code f → reverse after ≡ value_kind callee ∷ map kind_of rest → (b : Bool) → nat_le (callee.room + rooms code (m.top ∷ m.callers)) MOST_ROOM ≡ b → GoesSafely code (entered_if b f callee args rest m)
entered_good code is none m function after found l waiting stands f callee e args rest k shape false enough = tt
entered_good code is none m function after found l waiting stands f callee e args rest k shape true enough =
    let (head, good) = sound code is none f callee e in
    let room : callee.room + rooms code (m.top ∷ m.callers) ≤ MOST_ROOM = leb-true (callee.room + rooms code (m.top ∷ m.callers)) MOST_ROOM enough in
    let same : room_in (slice_get code.functions f) ≡ callee.room = ap room_in e in
    record {
      function = callee;
      shape = [];
      top = record { found = e; stands = good.empty; locals = locals_good code is none f callee args e k };
      operands = refl;
      callers = (record { function = function; shape = after; is_frame = record { found = found; stands = stands; locals = l }; kind = value_kind callee; gives = ap (λ (x : Option RawFunction). option_map value_kind x) e; operands = shape }, waiting);
      room = omega (arith, room, same);
    }

branched_if : (code : RawParts) (m : Machine) (function : RawFunction) (r : List Kind) (b : Bool) (to : ℕ) (rest : List Value) → IsSafe code (jumped to rest m) → IsSafe code (jumped (m.top.place + 1) rest m) → GoesSafely code (branched b to rest m)
branched_if code m function r true to rest h g = h
branched_if code m function r false to rest h g = g

call_good : (code : RawParts) → IsCode code → NoneBroken code → (m : Machine) (function : RawFunction) → map kind_of m.top.locals ≡ function.locals → (r after : List Kind) → slice_get code.functions m.top.function ≡ Some function → AreWaiting code m.top.function m.callers → Stands code function (m.top.place + 1) after → (f : ℕ) (o : Option RawFunction) → slice_get code.functions f ≡ o → (callee : RawFunction) × (slice_get code.functions f ≡ Some callee) → map kind_of m.top.operands ≡ reverse (parameters_of code f) ++ r → reverse after ≡ reverse (listed (callee_kind code f)) ++ r → GoesSafely code (called code o f m)
call_good code is none m function l r after found waiting stands f None e (callee, there_it) k shape = let no : None ≡ Some callee = sym e ∙ there_it in absurd (cc no)
call_good code is none m function l r after found waiting stands f (Some callee) e there_it k shape =
    let gives : callee_kind code f ≡ Some (value_kind callee) = ap (λ (x : Option RawFunction). option_map value_kind x) e in
    let shaped : reverse after ≡ value_kind callee ∷ r = shape ∙ ap (λ o. reverse (listed o) ++ r) gives in
    several_good code m function l (parameters_of code f) r
    (λ args operands. entered_if (nat_le (callee.room + rooms code (m.top ∷ m.callers)) MOST_ROOM) f callee args operands m)
    m.top.operands k
    (λ args rest a z. entered_good code is none m function after found l waiting stands f callee e args rest a (shaped ∙ ap (λ x. value_kind callee ∷ x) (sym z)) (nat_le (callee.room + rooms code (m.top ∷ m.callers)) MOST_ROOM) refl)

-- The whole

act_good : (code : RawParts) → IsCode code → NoneBroken code → (m : Machine) (function : RawFunction) (shape r : List Kind) → slice_get code.functions m.top.function ≡ Some function → map kind_of m.top.locals ≡ function.locals → AreWaiting code m.top.function m.callers → rooms code (m.top ∷ m.callers) ≤ MOST_ROOM → (what : Instruction) → Named code function what → map kind_of m.top.operands ≡ reverse (takes_of code function shape what) ++ r → GoesOn code function m.top.place (after_of code function shape what) (way_of what) → (way_of what ≡ Next → Onward code m function (reverse (leaves_of code function shape what) ++ r)) → ((way_of what ≡ Ends → ⊥) → (to : ℕ) → Stands code function to (after_of code function shape what) → (operands : List Value) → map kind_of operands ≡ reverse (leaves_of code function shape what) ++ r → IsSafe code (jumped to operands m)) → ((way_of what ≡ Ends → ⊥) → reverse (after_of code function shape what) ≡ reverse (leaves_of code function shape what) ++ r) → GoesSafely code (act code what m)
act_good code is none m function shape r found l waiting room does.Tick named k goes go leap after = on_good code m function l r (go refl) m.top.operands k
act_good code is none m function shape r found l waiting room (does.PushInt i) named k goes go leap after = on_good code m function l (kinds.Int ∷ r) (go refl) (Int i ∷ m.top.operands) (cons_kinds (Int i) kinds.Int m.top.operands r refl k)
act_good code is none m function shape r found l waiting room (does.PushStr t) named k goes go leap after = pushed_good code m function l r (slice_get code.texts t) (there code.texts t named) (go refl) k
act_good code is none m function shape r found l waiting room (does.Load i) named k goes go leap after = let (kind, e) = there function.locals i named in loaded_good code m function l r kind (slice_get m.top.locals i) (sym (slice_get-map kind_of m.top.locals i) ∙ ap (λ ks. slice_get ks i) l ∙ e) (subst (λ o. Onward code m function (reverse (listed o) ++ r)) e (go refl)) k
act_good code is none m function shape r found l waiting room (does.Store i) named k goes go leap after = let (kind, e) = there function.locals i named in kept_good code m function l r kind i (running code m) found e (go refl) (subst (λ o. map kind_of m.top.operands ≡ reverse (listed o) ++ r) e k)
act_good code is none m function shape r found l waiting room (does.ReadCell c) named k goes go leap after = read_good code m function l (slice_get code.layout.cells c) c (there code.layout.cells c named)
act_good code is none m function shape r found l waiting room (does.WriteCell c) named k goes go leap after = written_good code m function l r (slice_get code.layout.cells c) c (there code.layout.cells c named) k
act_good code is none m function shape r found l waiting room (does.ReadAt a) named k goes go leap after = read_at_good code m function l r (slice_get code.arrays a) (there code.arrays a named) (go refl) k
act_good code is none m function shape r found l waiting room (does.WriteAt a) named k goes go leap after = write_at_good code m function l r (slice_get code.arrays a) (there code.arrays a named) (go refl) k
act_good code is none m function shape r found l waiting room does.Neg named k goes go leap after = one_int_good code m function l r (λ i operands. quiet (on (Int (negation i) ∷ operands) m)) m.top.operands k (λ i rest z. on_good code m function l (kinds.Int ∷ r) (go refl) (Int (negation i) ∷ rest) (cons_kinds (Int (negation i)) kinds.Int rest r refl z))
act_good code is none m function shape r found l waiting room does.Not named k goes go leap after = one_int_good code m function l r (λ i operands. quiet (on (Int (inversion i) ∷ operands) m)) m.top.operands k (λ i rest z. on_good code m function l (kinds.Int ∷ r) (go refl) (Int (inversion i) ∷ rest) (cons_kinds (Int (inversion i)) kinds.Int rest r refl z))
act_good code is none m function shape r found l waiting room does.Add named k goes go leap after = two_ints_good code m function l r (λ x y. Ok (Int (sum x y))) (λ x y. refl) (go refl) m.top.operands k
act_good code is none m function shape r found l waiting room does.Sub named k goes go leap after = two_ints_good code m function l r (λ x y. Ok (Int (difference x y))) (λ x y. refl) (go refl) m.top.operands k
act_good code is none m function shape r found l waiting room does.Mul named k goes go leap after = two_ints_good code m function l r (λ x y. Ok (Int (product x y))) (λ x y. refl) (go refl) m.top.operands k
act_good code is none m function shape r found l waiting room does.Div named k goes go leap after = two_ints_good code m function l r quotient quotient_kind (go refl) m.top.operands k
act_good code is none m function shape r found l waiting room does.Mod named k goes go leap after = two_ints_good code m function l r remainder remainder_kind (go refl) m.top.operands k
act_good code is none m function shape r found l waiting room does.And named k goes go leap after = two_ints_good code m function l r (λ x y. Ok (Int (conjunction x y))) (λ x y. refl) (go refl) m.top.operands k
act_good code is none m function shape r found l waiting room does.Or named k goes go leap after = two_ints_good code m function l r (λ x y. Ok (Int (disjunction x y))) (λ x y. refl) (go refl) m.top.operands k
act_good code is none m function shape r found l waiting room does.BitAnd named k goes go leap after = two_ints_good code m function l r (λ x y. Ok (Int (common_bits x y))) (λ x y. refl) (go refl) m.top.operands k
act_good code is none m function shape r found l waiting room does.BitOr named k goes go leap after = two_ints_good code m function l r (λ x y. Ok (Int (joint_bits x y))) (λ x y. refl) (go refl) m.top.operands k
act_good code is none m function shape r found l waiting room does.BitXor named k goes go leap after = two_ints_good code m function l r (λ x y. Ok (Int (differing_bits x y))) (λ x y. refl) (go refl) m.top.operands k
act_good code is none m function shape r found l waiting room does.Cat named k goes go leap after = two_texts_good code m function l kinds.Str r joined joined_kind (go refl) m.top.operands k
act_good code is none m function shape r found l waiting room (does.CmpInt relation) named k goes go leap after = two_ints_good code m function l r (λ x y. compared relation (Int x) (Int y)) (λ x y. refl) (go refl) m.top.operands k
act_good code is none m function shape r found l waiting room (does.CmpStr relation) named k goes go leap after = two_texts_good code m function l kinds.Int r (λ x y. compared relation (Str x) (Str y)) (λ x y. refl) (go refl) m.top.operands k
act_good code is none m function shape r found l waiting room does.WithinInt named k goes go leap after = ints_within_good code m function l r (go refl) m.top.operands k
act_good code is none m function shape r found l waiting room does.WithinStr named k goes go leap after = texts_within_good code m function l r (go refl) m.top.operands k
act_good code is none m function shape r found l waiting room (does.Form count) named k goes go leap after = one_int_good code m function l r (λ i operands. came kinds.Str (formatted i count) operands m) m.top.operands k (λ i rest z. came_good code m function l kinds.Str r (go refl) (formatted i count) (formatted_kind i count) rest z)
act_good code is none m function shape r found l waiting room does.Dup named k goes go leap after = one_good code m function l (top_kind shape) r (λ v operands. quiet (on (v ∷ v ∷ operands) m)) m.top.operands k (λ v rest h z. on_good code m function l (top_kind shape ∷ top_kind shape ∷ r) (go refl) (v ∷ v ∷ rest) (cons_kinds v (top_kind shape) (v ∷ rest) (top_kind shape ∷ r) h (cons_kinds v (top_kind shape) rest r h z)))
act_good code is none m function shape r found l waiting room does.Swap named k goes go leap after = swapped_good code m function l (top_kind shape) (second_kind shape) r (go refl) m.top.operands k
act_good code is none m function shape r found l waiting room does.Drop named k goes go leap after = one_good code m function l (top_kind shape) r (λ v operands. quiet (on operands m)) m.top.operands k (λ v rest h z. on_good code m function l r (go refl) rest z)
act_good code is none m function shape r found l waiting room (does.Jump to) named k goes go leap after = leap (λ e. absurd (cc e)) to goes m.top.operands k
act_good code is none m function shape r found l waiting room (does.JumpIfZero to) named k goes go leap after = one_int_good code m function l r (λ i operands. branched (is_zero i) to operands m) m.top.operands k (λ i rest z. branched_if code m function r (is_zero i) to rest (leap (λ e. absurd (cc e)) to goes.0 rest z) (leap (λ e. absurd (cc e)) (m.top.place + 1) goes.1 rest z))
act_good code is none m function shape r found l waiting room (does.Call f) named k goes go leap after = call_good code is none m function l r (after_of code function shape (does.Call f)) found waiting goes f (slice_get code.functions f) refl (there code.functions f named) k (after (λ e. absurd (cc e)))
act_good code is none m function shape r found l waiting room (does.Private q) named k goes go leap after = several_good code m function l (private_takes q) r (λ args operands. computed q args (private_value m.error q args) operands m) m.top.operands k (λ args rest a z. computed_good code m function l q r (go refl) args (private_value m.error q args) (private_kind m.error q args a) rest z)
act_good code is none m function shape r found l waiting room (does.Ask q) named k goes go leap after = several_good code m function l (shared_takes q) r (λ args operands. asks (request_of q args)) m.top.operands k (λ args rest a z. tt)
act_good code is none m function shape r found l waiting room does.TakeSort named k goes go leap after = on_good code m function l (kinds.Int ∷ r) (go refl) (Int m.last.sort ∷ m.top.operands) (cons_kinds (Int m.last.sort) kinds.Int m.top.operands r refl k)
act_good code is none m function shape r found l waiting room does.TakeText named k goes go leap after = on_good code m function l (kinds.Str ∷ r) (go refl) (Str m.last.text ∷ m.top.operands) (cons_kinds (Str m.last.text) kinds.Str m.top.operands r refl k)
act_good code is none m function shape r found l waiting room does.Return named k goes go leap after = ended_good code m function r (running code m) found found l waiting (omega (arith, room)) k

-- but for Return, what is left below the operands stays
stays_is : (code : RawParts) (function : RawFunction) (shape : List Kind) (what : Instruction) → (way_of what ≡ Ends → ⊥) → stays_of code function shape what ≡ below shape (takes_of code function shape what)
stays_is code function shape does.Return h = absurd (h refl)
stays_is code function shape _ h = refl

pub after_kinds : (code : RawParts) (function : RawFunction) (shape : List Kind) (what : Instruction) → (way_of what ≡ Ends → ⊥) → reverse (after_of code function shape what) ≡ reverse (leaves_of code function shape what) ++ reverse (below shape (takes_of code function shape what))
after_kinds code function shape what h =
    reverse-append (stays_of code function shape what) (leaves_of code function shape what)
    ∙ ap (λ l. reverse (leaves_of code function shape what) ++ reverse l) (stays_is code function shape what h)

pub no_end : (way : Way) → way ≡ Next → way ≡ Ends → ⊥
no_end way n e = let no : Next ≡ Ends = sym n ∙ e in cc no

safe_next : (code : RawParts) → IsCode code → NoneBroken code → (m : Machine) → IsSafe code m → GoesSafely code (next code m)
safe_next code is none m safe =
    let function : RawFunction = safe.function in
    let shape : List Kind = safe.shape in
    let s : Step = safe.top.stands.step in
    let at : At code function m.top.place s shape = safe.top.stands.at in
    let what : Instruction = s.what in
    let e : instruction_at code m ≡ Some what = ap (λ (o : Option RawFunction). instruction_in o m.top.place) safe.top.found ∙ ap (λ (o : Option Step). option_map (λ (x : Step). x.what) o) at.found in
    let (head, good) = sound code is none m.top.function function safe.top.found in
    let fine : IsFine code function m.top.place shape what = good.fine m.top.place s shape at in
    let taken : List Kind = takes_of code function shape what in
    let k : map kind_of m.top.operands ≡ reverse taken ++ reverse (below shape taken) = safe.operands ∙ ap reverse fine.finds ∙ reverse-append (below shape taken) taken in
    let after : List Kind = after_of code function shape what in
    let here : (p : ℕ) → Stands code function p after → (locals operands : List Value) (error : ℕ) (goes_on : Bool) → map kind_of locals ≡ function.locals → map kind_of operands ≡ reverse after → IsSafe code (record m { top = record { function = m.top.function; place = p; locals = locals; operands = operands }; error = error; goes_on = goes_on }) =
    λ p stands locals operands error goes_on l z. record { function = function; shape = after; top = record { found = safe.top.found; stands = stands; locals = l }; operands = z; callers = safe.callers; room = safe.room } in
    subst (λ o. GoesSafely code (act_on code o m)) (sym e)
    (act_good code is none m function shape (reverse (below shape taken)) safe.top.found safe.top.locals safe.callers safe.room what fine.named k fine.goes_on
    (λ w locals operands error goes_on l z. here (m.top.place + 1) (subst (λ way. GoesOn code function m.top.place after way) w fine.goes_on) locals operands error goes_on l (z ∙ sym (after_kinds code function shape what (no_end (way_of what) w))))
    (λ h to stands operands z. here to stands m.top.locals operands m.error m.goes_on safe.top.locals (z ∙ sym (after_kinds code function shape what h)))
    (after_kinds code function shape what))

safe_opening : (code : RawParts) → IsCode code → NoneBroken code → (f : ℕ) (function : RawFunction) (args : List Value) → slice_get code.functions f ≡ Some function → map kind_of args ≡ parameters_of code f → IsSafe code (opening code f args)
safe_opening code is none f function args e k =
    let (head, good) = sound code is none f function e in
    let small : function.room ≤ MOST_ROOM = (good.fine 0 good.empty.step [] good.empty.at).roomy.most in
    let same : room_in (slice_get code.functions f) ≡ function.room = ap room_in e in
    record {
      function = function;
      shape = [];
      top = record { found = e; stands = good.empty; locals = ap (λ (o : Option RawFunction). map kind_of (locals_in o args)) e ∙ locals_good code is none f function args e k };
      operands = refl;
      callers = tt;
      room = omega (arith, small, same);
    }

pub never_stuck : NeverStuck
never_stuck code is none = (safe_opening code is none, safe_next code is none)

-- The values that are held

frame_small : (code : RawParts) → IsCode code → NoneBroken code → (f : Frame) (function : RawFunction) (shape : List Kind) → IsFrame code f function shape → length f.locals + length shape ≤ room_in (slice_get code.functions f.function)
frame_small code is none f function shape frame =
    let (head, good) = sound code is none f.function function frame.found in
    let roomy : length function.locals + length shape ≤ function.room = (good.fine f.place frame.stands.step shape frame.stands.at).roomy.holds_before in
    let n : length f.locals ≡ length function.locals = sym (length-map f.locals kind_of) ∙ ap length frame.locals in
    let same : room_in (slice_get code.functions f.function) ≡ function.room = ap room_in frame.found in
    omega (arith, roomy, n, same)

waiting_small : (code : RawParts) → IsCode code → NoneBroken code → (callee : ℕ) (frames : List Frame) → AreWaiting code callee frames → values_held frames ≤ rooms code frames
waiting_small code is none callee [] w = omega arith
waiting_small code is none callee (f ∷ frames) w =
    let small : length f.locals + length w.0.shape ≤ room_in (slice_get code.functions f.function) = frame_small code is none f w.0.function w.0.shape w.0.is_frame in
    let n : length w.0.shape ≡ length (map kind_of f.operands) + 1 = sym (length-reverse w.0.shape) ∙ ap length w.0.operands ∙ omega arith in
    let o : length (map kind_of f.operands) ≡ length f.operands = length-map f.operands kind_of in
    let others : values_held frames ≤ rooms code frames = waiting_small code is none f.function frames w.1 in
    omega (arith, small, n, o, others)

pub never_full : NeverFull
never_full code is none m safe =
    let small : length m.top.locals + length safe.shape ≤ room_in (slice_get code.functions m.top.function) = frame_small code is none m.top safe.function safe.shape safe.top in
    let n : length m.top.operands ≡ length safe.shape = sym (length-map m.top.operands kind_of) ∙ ap length safe.operands ∙ length-reverse safe.shape in
    let others : values_held m.callers ≤ rooms code m.callers = waiting_small code is none m.top.function m.callers safe.callers in
    (omega (arith, small, n, others), safe.room)
