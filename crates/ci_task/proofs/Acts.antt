-- What single instructions do to the machine that a stack spells.
use Rattle.std.proofs.Common.{◌≡◌, ℕ, zero, suc, ◌+◌, ◌-◌, ◌<◌, ◌≤◌, ℤ, pos, Bool, true, false, cond, List, [], ◌∷◌, ◌++◌, length, take, drop, reverse, set, Option, Some, None, Ok, refl, sym, ap, ◌∙◌, subst, arith, length-append, append_assoc}
use Rattle.std.specs.Prelude.{slice_get, slice_set}
use Rattle.std.proofs.Common.{◌==◌, negsuc, w32, to_z, of_z}
use Rattle.std.specs.Int.Signed.{mag}
use Rattle.std.proofs.Math.Seq.{take-set-lt}
use Rattle.std.proofs.lemmas.List.{length-reverse, length-take-le, length-set, take-set-le, reverse-append}
use Rattle.ci_stack.proofs.Placing.{trip}
use Rattle.ci_base.specs.declared.bounds.TheConstants.{MOST_ROOM}
use Rattle.ci_base.specs.declared.value.Kind.{Kind}
use Rattle.ci_base.specs.declared.value.Value.{Value}
use Rattle.ci_base.specs.declared.value.Value.TheVariants.{Int, Str}
use Rattle.ci_base.specs.Steps.{quiet}
use Rattle.ci_base.specs.Values.{Outcome, is_zero}
use Rattle.ci_code.specs.declared.instruction.Instruction.{Instruction}
use Rattle.ci_code.specs.declared.instruction.Instruction.TheVariants as does
use Rattle.ci_code.specs.declared.raw.RawFunction.{RawFunction}
use Rattle.ci_code.specs.declared.raw.RawParts.{RawParts}
use Rattle.ci_code.specs.Machine.{act, branched, loaded, pushed, swapped, kept}
use Rattle.ci_code.specs.Moves.{Frame, Machine, Move, on, jumped, stored, one, one_int, two_ints, only_if, is_of_some}
use Rattle.ci_task.specs.declared.active.Active.{Active}
use Rattle.ci_task.specs.declared.heard.Heard.{Heard}
use Rattle.ci_task.specs.Spelled.{locals_in, locals_of, floor, frames_of, spelled, AreStacked}
use Rattle.ci_task.specs.Operators.{is_whole, whole}
use Rattle.ci_task.specs.Going.{HasRoom, next_place, Can, Does, Replaces}
use Rattle.ci_task.proofs.Operands.{below, above, from_floor, length_over, spelled_over, lands, lands_at, fits}

-- an instruction takes the values on top, `high` the latest first, and leaves one in their place
pub ready : (code : RawParts) (a : Active) (callers : List Active) (values high rest : List Value) (v : Value) (heard : Heard) (move : Move) → AreStacked code (a ∷ callers) (length values) → HasRoom move → move ≡ quiet (on (v ∷ rest) (spelled code a callers values heard)) → reverse (drop (floor code a) values) ≡ high ++ rest → (length high ≤ length values) × (length values - length high < MOST_ROOM)
ready code a callers values high rest v heard move s room is e =
    let room_for : floor code a + length (v ∷ rest) ≤ MOST_ROOM = fits code a callers values (v ∷ rest) heard move is room s in
    let long : length values ≡ floor code a + (length high + length rest) =
    ap length (from_floor (floor code a) values (high ++ rest) e) ∙ length_over (floor code a) values (high ++ rest) s.0 ∙ ap (λ n. floor code a + n) (length-append high rest) in
    (omega arith, omega arith)

pub done : (code : RawParts) (a : Active) (callers : List Active) (values values' high rest : List Value) (v : Value) (heard : Heard) (move : Move) → AreStacked code (a ∷ callers) (length values) → move ≡ quiet (on (v ∷ rest) (spelled code a callers values heard)) → reverse (drop (floor code a) values) ≡ high ++ rest → Replaces (length high) values v values' → (move ≡ quiet (spelled code (next_place a) callers values' heard)) × AreStacked code (next_place a ∷ callers) (length values')
done code a callers values values' high rest v heard move s is e did =
    lands code a callers values values' (v ∷ rest) heard move is s
    (did (take (floor code a) values ++ reverse rest) (reverse high) (below (floor code a) values high rest e) (length-reverse high) ∙ above (floor code a) values rest v)

-- Two INTs

two_there : (work : ℤ → ℤ → Outcome) (operands : List Value) (m : Machine) → HasRoom (two_ints work operands m) → (a : ℤ) × (b : ℤ) × (rest : List Value) × (operands ≡ Int b ∷ Int a ∷ rest)
two_there work (Int b ∷ Int a ∷ rest) m room = (a, b, rest, refl)
two_there work _ m room = absurd room

whole_act : (code : RawParts) (what : Instruction) (m : Machine) → is_whole what ≡ true → act code what m ≡ two_ints (λ a b. Ok (Int (whole what a b))) m.top.operands m
whole_act code does.Add m h = refl
whole_act code does.Sub m h = refl
whole_act code does.Mul m h = refl
whole_act code does.And m h = refl
whole_act code does.Or m h = refl
whole_act code does.BitAnd m h = refl
whole_act code does.BitOr m h = refl
whole_act code does.BitXor m h = refl
whole_act code (does.CmpInt relation) m h = refl
whole_act code _ m h = absurd (cc h)

-- what the two are, and what is left
record Two (code : RawParts) (what : Instruction) (a : Active) (callers : List Active) (values : List Value) (heard : Heard) : Type 0 where
  low : ℤ
  high : ℤ
  rest : List Value
  operands : reverse (drop (floor code a) values) ≡ (Int high ∷ Int low ∷ []) ++ rest
  move : act code what (spelled code a callers values heard) ≡ quiet (on (Int (whole what low high) ∷ rest) (spelled code a callers values heard))

two : (code : RawParts) (what : Instruction) (a : Active) (callers : List Active) (values : List Value) (heard : Heard) → is_whole what ≡ true → HasRoom (act code what (spelled code a callers values heard)) → Two code what a callers values heard
two code what a callers values heard h room =
    let m : Machine = spelled code a callers values heard in
    let acts : act code what m ≡ two_ints (λ x y. Ok (Int (whole what x y))) m.top.operands m = whole_act code what m h in
    let there = two_there (λ x y. Ok (Int (whole what x y))) m.top.operands m (subst HasRoom acts room) in
    record {
      low = there.0;
      high = there.1;
      rest = there.2;
      operands = there.3;
      move = acts ∙ ap (λ (l : List Value). two_ints (λ x y. Ok (Int (whole what x y))) l m) there.3;
    }

pub whole_can : (code : RawParts) (what : Instruction) (a : Active) (values : List Value) → is_whole what ≡ true → Can code what a values → ((low : List Value) × (n : ℤ) × (values ≡ low ++ Int n ∷ [])) × ((low : List Value) × (n : ℤ) × (v : Value) × (values ≡ low ++ Int n ∷ v ∷ [])) × (2 ≤ length values) × (length values - 2 < MOST_ROOM)
whole_can code what a values h can =
    let t = two code what a can.0 values can.1 h can.3 in
    let split = below (floor code a) values (Int t.high ∷ Int t.low ∷ []) t.rest t.operands in
    let rooms = ready code a can.0 values (Int t.high ∷ Int t.low ∷ []) t.rest (Int (whole what t.low t.high)) can.1 (act code what (spelled code a can.0 values can.1)) can.2 can.3 t.move t.operands in (
      ((take (floor code a) values ++ reverse t.rest) ++ Int t.low ∷ [], t.high, split ∙ sym (append_assoc (take (floor code a) values ++ reverse t.rest) (Int t.low ∷ []) (Int t.high ∷ []))),
      (take (floor code a) values ++ reverse t.rest, t.low, Int t.high, split),
      rooms.0,
      rooms.1,
    )

pub whole_does : (code : RawParts) (what : Instruction) (a : Active) (values values' : List Value) (x y r : ℤ) → is_whole what ≡ true → ((low : List Value) (n : ℤ) → values ≡ low ++ Int n ∷ [] → y ≡ n) → ((low : List Value) (n : ℤ) (v : Value) → values ≡ low ++ Int n ∷ v ∷ [] → x ≡ n) → r ≡ whole what x y → Replaces 2 values (Int r) values' → Does code what a values (next_place a) values'
whole_does code what a values values' x y r h is_y is_x is_r did = λ callers heard s room.
    let t = two code what a callers values heard h room in
    let low : List Value = take (floor code a) values ++ reverse t.rest in
    let split : values ≡ low ++ Int t.low ∷ Int t.high ∷ [] = below (floor code a) values (Int t.high ∷ Int t.low ∷ []) t.rest t.operands in
    let first : x ≡ t.low = is_x low t.low (Int t.high) split in
    let second : y ≡ t.high = is_y (low ++ Int t.low ∷ []) t.high (split ∙ sym (append_assoc low (Int t.low ∷ []) (Int t.high ∷ []))) in
    let result : r ≡ whole what t.low t.high = is_r ∙ ap (λ z. whole what z y) first ∙ ap (λ z. whole what t.low z) second in
    done code a callers values values' (Int t.high ∷ Int t.low ∷ []) t.rest (Int (whole what t.low t.high)) heard (act code what (spelled code a callers values heard)) s t.move t.operands
    (subst (λ z. Replaces 2 values (Int z) values') result did)

-- A value goes on top

-- where an instruction leaves a value on top of all
pub can_push : (code : RawParts) (what : Instruction) (a : Active) (values : List Value) (callers : List Active) (heard : Heard) (v : Value) → act code what (spelled code a callers values heard) ≡ quiet (on (v ∷ reverse (drop (floor code a) values)) (spelled code a callers values heard)) → AreStacked code (a ∷ callers) (length values) → HasRoom (act code what (spelled code a callers values heard)) → length values < MOST_ROOM
can_push code what a values callers heard v is s room =
    let ok = ready code a callers values [] (reverse (drop (floor code a) values)) v heard (act code what (spelled code a callers values heard)) s room is refl in
    omega (arith, ok.1)

pub does_push : (code : RawParts) (what : Instruction) (a : Active) (values values' : List Value) (callers : List Active) (heard : Heard) (v : Value) → act code what (spelled code a callers values heard) ≡ quiet (on (v ∷ reverse (drop (floor code a) values)) (spelled code a callers values heard)) → AreStacked code (a ∷ callers) (length values) → values' ≡ values ++ v ∷ [] → (act code what (spelled code a callers values heard) ≡ quiet (spelled code (next_place a) callers values' heard)) × AreStacked code (next_place a ∷ callers) (length values')
does_push code what a values values' callers heard v is s e =
    lands code a callers values values' (v ∷ reverse (drop (floor code a) values)) heard (act code what (spelled code a callers values heard)) is s
    (e ∙ ap (λ (l : List Value). l ++ v ∷ []) (from_floor (floor code a) values (reverse (drop (floor code a) values)) refl) ∙ above (floor code a) values (reverse (drop (floor code a) values)) v)

-- A local is read

get_taken : (n i : ℕ) (values : List Value) (v : Value) → slice_get (take n values) i ≡ Some v → slice_get values i ≡ Some v
get_taken zero i values v h = absurd (cc h)
get_taken (suc n) i [] v h = h
get_taken (suc n) zero (u ∷ values) v h = h
get_taken (suc n) (suc i) (u ∷ values) v h = get_taken n i values v h

get_dropped : (b i : ℕ) (values : List Value) (v : Value) → slice_get (drop b values) i ≡ Some v → slice_get values (b + i) ≡ Some v
get_dropped zero i values v h = subst (λ n. slice_get values n ≡ Some v) (none i) h
  where
    none : (i : ℕ) → i ≡ 0 + i
    none i = omega arith
get_dropped (suc b) i [] v h = absurd (cc h)
get_dropped (suc b) i (u ∷ values) v h =
    let more : suc (b + i) ≡ suc b + i = omega arith in
    subst (λ n. slice_get (u ∷ values) n ≡ Some v) more (get_dropped b i values v h)

loaded_there : (o : Option Value) (m : Machine) → HasRoom (loaded o m) → (v : Value) × (o ≡ Some v)
loaded_there (Some v) m room = (v, refl)
loaded_there None m room = absurd room

pub load_there : (code : RawParts) (i : ℕ) (a : Active) (values : List Value) (callers : List Active) (heard : Heard) → HasRoom (act code (does.Load i) (spelled code a callers values heard)) → (v : Value) × (slice_get values (a.base + i) ≡ Some v) × (act code (does.Load i) (spelled code a callers values heard) ≡ quiet (on (v ∷ reverse (drop (floor code a) values)) (spelled code a callers values heard)))
load_there code i a values callers heard room =
    let m : Machine = spelled code a callers values heard in
    let found = loaded_there (slice_get m.top.locals i) m room in
    (found.0, get_dropped a.base i values found.0 (get_taken (locals_of code a.function) i (drop a.base values) found.0 found.1), ap (λ (o : Option Value). loaded o m) found.1)

-- A local takes a value

pub one_there : (f : Value → List Value → Move) (operands : List Value) → HasRoom (one f operands) → (v : Value) × (rest : List Value) × (operands ≡ v ∷ rest)
one_there f (v ∷ rest) room = (v, rest, refl)
one_there f [] room = absurd room

pub only_there : (b : Bool) (move : Move) → HasRoom (only_if b move) → b ≡ true
only_there true move room = refl
only_there false move room = absurd room

kind_there : (ks : List Kind) (i : ℕ) (v : Value) → is_of_some (slice_get ks i) v ≡ true → i < length ks
kind_there [] i v h = absurd (cc h)
kind_there (k ∷ ks) zero v h = omega arith
kind_there (k ∷ ks) (suc i) v h =
    let less : i < length ks = kind_there ks i v h in
    omega arith

record Stored (code : RawParts) (i : ℕ) (a : Active) (callers : List Active) (values : List Value) (heard : Heard) : Type 0 where
  v : Value
  rest : List Value
  operands : reverse (drop (floor code a) values) ≡ v ∷ rest
  move : act code (does.Store i) (spelled code a callers values heard) ≡ quiet (stored i v rest (spelled code a callers values heard))
  within : i < locals_of code a.function

-- the lengths of the locals are those of the function
store_in : (code : RawParts) (i : ℕ) (m : Machine) (function : Option RawFunction) → HasRoom (kept function i m) → (f : RawFunction) × (function ≡ Some f) × ((v : Value) × (rest : List Value) × (m.top.operands ≡ v ∷ rest) × (kept function i m ≡ quiet (stored i v rest m)) × (i < length f.locals))
store_in code i m None room = absurd room
store_in code i m (Some f) room =
    let go : Value → List Value → Move = λ v operands. only_if (is_of_some (slice_get f.locals i) v) (quiet (stored i v operands m)) in
    let there = one_there go m.top.operands room in
    let after_it : one go m.top.operands ≡ only_if (is_of_some (slice_get f.locals i) there.0) (quiet (stored i there.0 there.1 m)) = ap (λ (l : List Value). one go l) there.2 in
    let good : is_of_some (slice_get f.locals i) there.0 ≡ true = only_there (is_of_some (slice_get f.locals i) there.0) (quiet (stored i there.0 there.1 m)) (subst HasRoom after_it room) in
    (f, refl, (there.0, there.1, there.2, after_it ∙ ap (λ b. only_if b (quiet (stored i there.0 there.1 m))) good, kind_there f.locals i there.0 good))

store : (code : RawParts) (i : ℕ) (a : Active) (callers : List Active) (values : List Value) (heard : Heard) → HasRoom (act code (does.Store i) (spelled code a callers values heard)) → Stored code i a callers values heard
store code i a callers values heard room =
    let t = store_in code i (spelled code a callers values heard) (slice_get code.functions a.function) room in
    record {
      v = t.2.0;
      rest = t.2.1;
      operands = t.2.2;
      move = t.2.3;
      within = subst (λ (o : Option RawFunction). i < locals_in o) (sym t.1) t.2.4;
    }

drop_of_set : (b i : ℕ) (values : List Value) (v : Value) → drop b (set values (b + i) v) ≡ set (drop b values) i v
drop_of_set zero i values v = ap (λ n. set values n v) (none i)
  where
    none : (i : ℕ) → 0 + i ≡ i
    none i = omega arith
drop_of_set (suc b) i [] v = refl
drop_of_set (suc b) i (u ∷ values) v =
    let more : suc b + i ≡ suc (b + i) = omega arith in
    ap (λ n. drop (suc b) (set (u ∷ values) n v)) more ∙ drop_of_set b i values v

set_before : (front back : List Value) (i : ℕ) (v : Value) → i < length front → set (front ++ back) i v ≡ set front i v ++ back
set_before [] back i v h = absurd (omega arith)
set_before (u ∷ front) back zero v h = refl
set_before (u ∷ front) back (suc i) v h = ap (λ (l : List Value). u ∷ l) (set_before front back i v (omega arith))

pub store_can : (code : RawParts) (i : ℕ) (a : Active) (values : List Value) → Can code (does.Store i) a values → a.base + i + 1 < length values
store_can code i a values can =
    let t = store code i a can.0 values can.1 can.3 in
    let long : length values ≡ floor code a + length (t.v ∷ t.rest) = ap length (from_floor (floor code a) values (t.v ∷ t.rest) t.operands) ∙ length_over (floor code a) values (t.v ∷ t.rest) can.2.0 in
    omega (arith, long, t.within)

pub store_does : (code : RawParts) (i : ℕ) (a : Active) (values values' : List Value) → ((low : List Value) (v : Value) → values ≡ low ++ v ∷ [] → values' ≡ slice_set low (a.base + i) v) → Does code (does.Store i) a values (next_place a) values'
store_does code i a values values' did = λ callers heard s room.
    let t = store code i a callers values heard room in
    let fl : ℕ = floor code a in
    let at : ℕ = a.base + i in
    let inside : at < fl = omega (arith, t.within) in
    let with : List Value = set values at t.v in
    let long : length with ≡ length values = length-set values at t.v in
    let low : length (take fl values) ≡ fl = length-take-le fl values s.0 in
    let left : values' ≡ take fl with ++ reverse t.rest =
    did (take fl values ++ reverse t.rest) t.v (below fl values (t.v ∷ []) t.rest t.operands)
    ∙ set_before (take fl values) (reverse t.rest) at t.v (omega arith)
    ∙ ap (λ (l : List Value). l ++ reverse t.rest) (sym (take-set-lt fl values at t.v inside)) in
    let locals : take (locals_of code a.function) (drop a.base with) ≡ set (take (locals_of code a.function) (drop a.base values)) i t.v =
    ap (take (locals_of code a.function)) (drop_of_set a.base i values t.v) ∙ take-set-lt (locals_of code a.function) (drop a.base values) i t.v t.within in
    let lower : take a.base with ≡ take a.base values = take-set-le a.base values at t.v (omega arith) in
    let there : spelled code (next_place a) callers values' heard ≡ stored i t.v t.rest (spelled code a callers values heard) =
    ap (λ (l : List Value). spelled code (next_place a) callers l heard) left
    ∙ spelled_over code a callers with t.rest heard (a.place + 1) (omega arith)
    ∙ ap (λ (l : List Value). machine (record { function = a.function; place = a.place + 1; locals = l; operands = t.rest }) (frames_of code callers (take a.base with)) heard) locals
    ∙ ap (λ (l : List Value). machine (record { function = a.function; place = a.place + 1; locals = set (take (locals_of code a.function) (drop a.base values)) i t.v; operands = t.rest }) (frames_of code callers l) heard) lower in
    (t.move ∙ ap (λ (m : Machine). quiet m) (sym there), (omega (arith, ap length left, length_over fl with t.rest (omega arith)), s.1, s.2, s.3))
  where
    machine : Frame → List Frame → Heard → Machine
    machine top callers heard = record { top = top; callers = callers; error = heard.error; last = record { sort = heard.sort; text = heard.text }; goes_on = heard.goes_on }

-- The latest operand twice, the two latest changed, the latest taken

pub dup_there : (code : RawParts) (a : Active) (values : List Value) (callers : List Active) (heard : Heard) → HasRoom (act code does.Dup (spelled code a callers values heard)) → (v : Value) × (low : List Value) × (values ≡ low ++ v ∷ []) × (act code does.Dup (spelled code a callers values heard) ≡ quiet (on (v ∷ reverse (drop (floor code a) values)) (spelled code a callers values heard)))
dup_there code a values callers heard room =
    let m : Machine = spelled code a callers values heard in
    let go : Value → List Value → Move = λ v operands. quiet (on (v ∷ v ∷ operands) m) in
    let t = one_there go m.top.operands room in
    (t.0, take (floor code a) values ++ reverse t.1, below (floor code a) values (t.0 ∷ []) t.1 t.2, ap (λ (l : List Value). one go l) t.2 ∙ ap (λ (l : List Value). quiet (on (t.0 ∷ l) m)) (sym t.2))

swap_there : (operands : List Value) (m : Machine) → HasRoom (swapped operands m) → (v : Value) × (u : Value) × (rest : List Value) × (operands ≡ v ∷ u ∷ rest)
swap_there (v ∷ u ∷ rest) m room = (v, u, rest, refl)
swap_there _ m room = absurd room

pub swap_can : (code : RawParts) (a : Active) (values : List Value) → Can code does.Swap a values → 2 ≤ length values
swap_can code a values can =
    let t = swap_there (reverse (drop (floor code a) values)) (spelled code a can.0 values can.1) can.3 in
    omega (arith, ap length (below (floor code a) values (t.0 ∷ t.1 ∷ []) t.2 t.3), length-append (take (floor code a) values ++ reverse t.2) (t.1 ∷ t.0 ∷ []))

pub swap_does : (code : RawParts) (a : Active) (values values' : List Value) → ((low : List Value) (u v : Value) → values ≡ low ++ u ∷ v ∷ [] → values' ≡ low ++ v ∷ u ∷ []) → Does code does.Swap a values (next_place a) values'
swap_does code a values values' did = λ callers heard s room.
    let m : Machine = spelled code a callers values heard in
    let t = swap_there m.top.operands m room in
    lands code a callers values values' (t.1 ∷ t.0 ∷ t.2) heard (act code does.Swap m) (ap (λ (l : List Value). swapped l m) t.3) s
    (did (take (floor code a) values ++ reverse t.2) t.1 t.0 (below (floor code a) values (t.0 ∷ t.1 ∷ []) t.2 t.3)
    ∙ append_assoc (take (floor code a) values) (reverse t.2) (t.0 ∷ t.1 ∷ [])
    ∙ ap (λ (l : List Value). take (floor code a) values ++ l) (sym (reverse-append (t.1 ∷ t.0 ∷ []) t.2)))

-- an operand is taken
pub drop_can : (code : RawParts) (a : Active) (values : List Value) → Can code does.Drop a values → 1 ≤ length values
drop_can code a values can =
    let m : Machine = spelled code a can.0 values can.1 in
    let t = one_there (λ v operands. quiet (on operands m)) m.top.operands can.3 in
    omega (arith, ap length (below (floor code a) values (t.0 ∷ []) t.1 t.2), length-append (take (floor code a) values ++ reverse t.1) (t.0 ∷ []))

-- so many values on top are taken off
abbrev pub TakesOff : ℕ → List Value → List Value → Type 0
TakesOff taken values values' = (low high : List Value) → values ≡ low ++ high → length high ≡ taken → values' ≡ low

pub drop_does : (code : RawParts) (a : Active) (values values' : List Value) → TakesOff 1 values values' → Does code does.Drop a values (next_place a) values'
drop_does code a values values' did = λ callers heard s room.
    let m : Machine = spelled code a callers values heard in
    let go : Value → List Value → Move = λ v operands. quiet (on operands m) in
    let t = one_there go m.top.operands room in
    lands code a callers values values' t.1 heard (act code does.Drop m) (ap (λ (l : List Value). one go l) t.2) s
    (did (take (floor code a) values ++ reverse t.1) (t.0 ∷ []) (below (floor code a) values (t.0 ∷ []) t.1 t.2) refl)

-- Jumps

pub jump_does : (code : RawParts) (to : ℕ) (a : Active) (values : List Value) → Does code (does.Jump to) a values (record a { place = to }) values
jump_does code to a values = λ callers heard s room.
    lands_at code a callers values values (reverse (drop (floor code a) values)) heard (act code (does.Jump to) (spelled code a callers values heard)) to refl s
    (from_floor (floor code a) values (reverse (drop (floor code a) values)) refl)

pub int_there : (f : ℤ → List Value → Move) (operands : List Value) → HasRoom (one_int f operands) → (n : ℤ) × (rest : List Value) × (operands ≡ Int n ∷ rest)
int_there f (Int n ∷ rest) room = (n, rest, refl)
int_there f _ room = absurd room

pub branch_can : (code : RawParts) (to : ℕ) (a : Active) (values : List Value) → Can code (does.JumpIfZero to) a values → (low : List Value) × (n : ℤ) × (values ≡ low ++ Int n ∷ [])
branch_can code to a values can =
    let m : Machine = spelled code a can.0 values can.1 in
    let t = int_there (λ n operands. branched (is_zero n) to operands m) m.top.operands can.3 in
    (take (floor code a) values ++ reverse t.1, t.0, below (floor code a) values (Int t.0 ∷ []) t.1 t.2)

pub branch_does : (code : RawParts) (to p : ℕ) (a : Active) (values values' : List Value) (n : ℤ) (b : Bool) → ((low : List Value) (k : ℤ) → values ≡ low ++ Int k ∷ [] → n ≡ k) → TakesOff 1 values values' → is_zero n ≡ b → p ≡ cond b to (a.place + 1) → Does code (does.JumpIfZero to) a values (record a { place = p }) values'
branch_does code to p a values values' n b is did zero_or where_to = λ callers heard s room.
    let m : Machine = spelled code a callers values heard in
    let go : ℤ → List Value → Move = λ k operands. branched (is_zero k) to operands m in
    let t = int_there go m.top.operands room in
    let split : values ≡ (take (floor code a) values ++ reverse t.1) ++ Int t.0 ∷ [] = below (floor code a) values (Int t.0 ∷ []) t.1 t.2 in
    let same : n ≡ t.0 = is (take (floor code a) values ++ reverse t.1) t.0 split in
    let tested : is_zero t.0 ≡ b = sym (ap is_zero same) ∙ zero_or in
    lands_at code a callers values values' t.1 heard (act code (does.JumpIfZero to) m) p
    (ap (λ (l : List Value). one_int go l) t.2 ∙ ap (λ c. branched c to t.1 m) tested ∙ by b m t.1 ∙ ap (λ q. quiet (jumped q t.1 m)) (sym where_to))
    s
    (did (take (floor code a) values ++ reverse t.1) (Int t.0 ∷ []) split refl)
  where
    by : (c : Bool) (m : Machine) (rest : List Value) → branched c to rest m ≡ quiet (jumped (cond c to (m.top.place + 1)) rest m)
    by true m rest = refl
    by false m rest = refl

pub zero_of : (z : ℤ) → mag z < 2147483648 → of_z w32 z ≡ 0 → is_zero z ≡ true
zero_of z h e = ap is_zero (sym (trip z h) ∙ ap (λ n. to_z w32 n) e)

pub no_zero_of : (z : ℤ) → (of_z w32 z ≡ 0 → ⊥) → is_zero z ≡ false
no_zero_of (pos n) h = by (n == 0) refl
  where
    by : (b : Bool) → (n == 0) ≡ b → b ≡ false
    by true e =
        let z : n ≡ 0 = grind (arith, e) in
        absurd (h z)
    by false e = refl
no_zero_of (negsuc n) h = refl

-- Constants of the code, and the element that was read last

pushed_there : (o : Option (List ℕ)) (m : Machine) → HasRoom (pushed o m) → (s : List ℕ) × (o ≡ Some s)
pushed_there (Some s) m room = (s, refl)
pushed_there None m room = absurd room

pub text_there : (code : RawParts) (k : ℕ) (a : Active) (values : List Value) (callers : List Active) (heard : Heard) → HasRoom (act code (does.PushStr k) (spelled code a callers values heard)) → (s : List ℕ) × (slice_get code.texts k ≡ Some s) × (act code (does.PushStr k) (spelled code a callers values heard) ≡ quiet (on (Str s ∷ reverse (drop (floor code a) values)) (spelled code a callers values heard)))
text_there code k a values callers heard room =
    let m : Machine = spelled code a callers values heard in
    let found = pushed_there (slice_get code.texts k) m room in
    (found.0, found.1, ap (λ (o : Option (List ℕ)). pushed o m) found.1)
