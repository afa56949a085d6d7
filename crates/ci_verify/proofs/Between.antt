-- Each instruction of verified code that is no tick leaves fewer places, or leads to a tick.
use Rattle.std.proofs.Common.{◌≡◌, ℕ, zero, suc, ◌+◌, ◌-◌, ◌<◌, ◌≤◌, ◌⊎◌, inl, inr, List, [], ◌∷◌, length, take, drop, reverse, Option, Some, None, refl, sym, ◌∙◌, ap, subst, arith, ⊎_elim, Bool, true, false, Ok, Err}
use Rattle.std.specs.Prelude.{ℤ, nat_le, option_map}
use Rattle.std.specs.List.{slice_get, slice_set}
use Rattle.std.proofs.lemmas.Option.{slice_get_within}
use Rattle.ci_base.specs.declared.bounds.TheConstants.{MOST_ROOM}
use Rattle.ci_base.specs.declared.function.PrivateName.{PrivateName}
use Rattle.ci_base.specs.declared.layout.CellHead.{CellHead}
use Rattle.ci_base.specs.declared.layout.Head.{Head}
use Rattle.ci_base.specs.declared.value.Kind.{Kind}
use Rattle.ci_base.specs.declared.value.Kind.TheVariants as kinds
use Rattle.ci_base.specs.declared.value.Value.{Value}
use Rattle.ci_base.specs.declared.value.Value.TheVariants.{Int, Str}
use Rattle.ci_base.specs.Arithmetic.{sum, difference, product, negation, inversion, quotient, remainder, conjunction, disjunction, common_bits, joint_bits, differing_bits}
use Rattle.ci_base.specs.PrivateFunctions.{private_value, error_after, goes_on_after}
use Rattle.ci_base.specs.Comparisons.{within}
use Rattle.ci_base.specs.Functions.{private_takes, shared_takes}
use Rattle.ci_base.specs.Requests.{request_of}
use Rattle.ci_base.specs.Steps.{tick, quiet, asks, stuck, After, Steps}
use Rattle.ci_base.specs.TextFunctions.{joined, formatted}
use Rattle.ci_base.specs.Values.{Outcome, is_zero, truth}
use Rattle.ci_code.specs.declared.instruction.Instruction.{Instruction}
use Rattle.ci_code.specs.declared.instruction.Instruction.TheVariants as does
use Rattle.ci_code.specs.declared.instruction.Step.{Step}
use Rattle.ci_code.specs.declared.raw.Cells.{Cells}
use Rattle.ci_code.specs.declared.raw.RawFunction.{RawFunction}
use Rattle.ci_code.specs.declared.raw.RawParts.{RawParts}
use Rattle.ci_code.specs.Code.{IsCode}
use Rattle.ci_code.specs.Moves.{Frame, Machine, Move, parameters_of, value_kind, is_of, are_of, is_of_some, cell_in, on, jumped, stored, only_if, failed_if, came, one, one_int, two_ints, two_texts, several}
use Rattle.ci_code.specs.Machine.{pushed, loaded, kept, read, written, read_cell, read_at, write_cell, write_in, write_at, compared, ints_within, texts_within, swapped, branched, rooms, entered_if, called, computed, given, returned, ended, running, act, instruction_in, instruction_at, act_on, next}
use Rattle.ci_verify.specs.Between.{left_in, places_left, instructions_left, IsNoQuiet, FewBetweenTicks}
use Rattle.ci_verify.specs.Laws.{IsSoundFunction}
use Rattle.ci_verify.specs.Rules.{TickAt, Ahead, JumpsAhead, NoneBroken}
use Rattle.ci_verify.specs.Ways.{way_of}
use Rattle.ci_verify.proofs.Sound.{there, verified_is_sound}

abbrev pub AtTick : RawParts → Machine → Type 0
AtTick code m = instruction_at code m ≡ Some does.Tick

-- behind the move fewer than n places are left, or a tick is next; where it is another move nothing is said
abbrev Light : RawParts → ℕ → Move → Type 0
Light code n (quiet m) = (instructions_left code m < n) ⊎ AtTick code m
Light code n _ = Unit {0}

-- at the next place that is so, whatever it leaves
abbrev Onward : RawParts → ℕ → Machine → Type 0
Onward code n m = (locals operands : List Value) (e : ℕ) (g : Bool) → Light code n (quiet (record m { top = record { function = m.top.function; place = m.top.place + 1; locals = locals; operands = operands }; error = e; goes_on = g }))

module _ (code : RawParts) (n : ℕ) (m : Machine) (go : Onward code n m) where
  light_on : (operands : List Value) → Light code n (quiet (on operands m))
  light_on operands = go m.top.locals operands m.error m.goes_on

  failed_light : (b : Bool) (c : ℕ) (operands : List Value) → Light code n (failed_if b c operands m)
  failed_light true c operands = go m.top.locals operands c m.goes_on
  failed_light false c operands = tt

  came_light : (kind : Kind) (o : Outcome) (operands : List Value) → Light code n (came kind o operands m)
  came_light kind (Ok v) operands = light_on (v ∷ operands)
  came_light kind (Err c) operands = failed_light m.goes_on c _

  only_light : (b : Bool) (move : Move) → Light code n move → Light code n (only_if b move)
  only_light true move h = h
  only_light false move h = tt

  one_light : (f : Value → List Value → Move) (operands : List Value) → ((v : Value) (rest : List Value) → Light code n (f v rest)) → Light code n (one f operands)
  one_light f [] h = tt
  one_light f (v ∷ rest) h = h v rest

  one_int_light : (f : ℤ → List Value → Move) (operands : List Value) → ((i : ℤ) (rest : List Value) → Light code n (f i rest)) → Light code n (one_int f operands)
  one_int_light f [] h = tt
  one_int_light f (Int i ∷ rest) h = h i rest
  one_int_light f (Str s ∷ rest) h = tt

  several_light : (taken : List Kind) (f : List Value → List Value → Move) (operands : List Value) → ((args rest : List Value) → Light code n (f args rest)) → Light code n (several taken f operands)
  several_light taken f operands h =
      only_light
      (are_of taken (reverse (take (length taken) operands)))
      (f (reverse (take (length taken) operands)) (drop (length taken) operands))
      (h (reverse (take (length taken) operands)) (drop (length taken) operands))

  two_ints_light : (work : ℤ → ℤ → Outcome) (operands : List Value) → Light code n (two_ints work operands m)
  two_ints_light work (Int b ∷ Int a ∷ rest) = came_light kinds.Int (work a b) rest
  two_ints_light work _ = tt

  two_texts_light : (kind : Kind) (work : List ℕ → List ℕ → Outcome) (operands : List Value) → Light code n (two_texts kind work operands m)
  two_texts_light kind work (Str b ∷ Str a ∷ rest) = came_light kind (work a b) rest
  two_texts_light kind work _ = tt

  pushed_light : (o : Option (List ℕ)) → Light code n (pushed o m)
  pushed_light (Some s) = light_on (Str s ∷ m.top.operands)
  pushed_light None = tt

  loaded_light : (o : Option Value) → Light code n (loaded o m)
  loaded_light (Some v) = light_on (v ∷ m.top.operands)
  loaded_light None = tt

  kept_light : (o : Option RawFunction) (i : ℕ) → Light code n (kept o i m)
  kept_light (Some function) i = one_light _ m.top.operands (λ v rest. only_light (is_of_some (slice_get function.locals i) v) (quiet (stored i v rest m)) (go (slice_set m.top.locals i v) rest m.error m.goes_on))
  kept_light None i = tt

  read_light : (o : Option CellHead) (c : ℕ) → Light code n (read o c)
  read_light (Some cell) c = tt
  read_light None c = tt

  written_light : (o : Option CellHead) (c : ℕ) → Light code n (written o c m)
  written_light (Some cell) c = one_light _ m.top.operands (λ v rest. only_light (is_of cell.kind v) _ tt)
  written_light None c = tt

  read_cell_light : (o : Option ℕ) (kind : Kind) (rest : List Value) → Light code n (read_cell o kind rest m)
  read_cell_light (Some c) kind rest = tt
  read_cell_light None kind rest = failed_light m.goes_on _ _

  read_at_light : (o : Option Cells) → Light code n (read_at o m)
  read_at_light (Some array) = one_int_light _ m.top.operands (λ i rest. read_cell_light (cell_in array i) array.kind rest)
  read_at_light None = tt

  write_cell_light : (o : Option ℕ) (v : Value) (rest : List Value) → Light code n (write_cell o v rest m)
  write_cell_light (Some c) v rest = tt
  write_cell_light None v rest = failed_light m.goes_on _ _

  write_in_light : (array : Cells) (operands : List Value) → Light code n (write_in array operands m)
  write_in_light array (v ∷ Int i ∷ rest) = only_light (is_of array.kind v) _ (write_cell_light (cell_in array i) v rest)
  write_in_light array _ = tt

  write_at_light : (o : Option Cells) → Light code n (write_at o m)
  write_at_light (Some array) = write_in_light array m.top.operands
  write_at_light None = tt

  ints_within_light : (operands : List Value) → Light code n (ints_within operands m)
  ints_within_light (Int high ∷ Int low ∷ Int i ∷ rest) = light_on (Int (truth (within (Int i) (Int low) (Int high))) ∷ rest)
  ints_within_light _ = tt

  texts_within_light : (operands : List Value) → Light code n (texts_within operands m)
  texts_within_light (Str high ∷ Str low ∷ Str s ∷ rest) = light_on (Int (truth (within (Str s) (Str low) (Str high))) ∷ rest)
  texts_within_light _ = tt

  swapped_light : (operands : List Value) → Light code n (swapped operands m)
  swapped_light (v ∷ u ∷ rest) = light_on (u ∷ v ∷ rest)
  swapped_light _ = tt

  branched_light : (b : Bool) (to : ℕ) (rest : List Value) → Light code n (quiet (jumped to rest m)) → Light code n (branched b to rest m)
  branched_light true to rest h = h
  branched_light false to rest h = light_on rest

  computed_light : (q : PrivateName) (args : List Value) (o : Outcome) (rest : List Value) → Light code n (computed q args o rest m)
  computed_light q args (Ok v) rest = go m.top.locals (v ∷ rest) (error_after q m.error) (goes_on_after q args m.goes_on)
  computed_light q args (Err c) rest = failed_light m.goes_on c _

  entered_light : (b : Bool) (f : ℕ) (function : RawFunction) (args rest : List Value) → instruction_in (slice_get code.functions f) 0 ≡ Some does.Tick → Light code n (entered_if b f function args rest m)
  entered_light true f function args rest h = inr h
  entered_light false f function args rest h = tt

  called_light : (o : Option RawFunction) (f : ℕ) → ((function : RawFunction) → o ≡ Some function → instruction_in (slice_get code.functions f) 0 ≡ Some does.Tick) → Light code n (called code o f m)
  called_light (Some function) f h =
      several_light
      (parameters_of code f)
      (λ args rest. entered_if (nat_le (function.room + rooms code (m.top ∷ m.callers)) MOST_ROOM) f function args rest m)
      m.top.operands
      (λ args rest. entered_light (nat_le (function.room + rooms code (m.top ∷ m.callers)) MOST_ROOM) f function args rest (h function refl))
  called_light None f h = tt

  returned_light : (v : Value) (callers : List Frame) → places_left code callers < n → Light code n (returned v callers m)
  returned_light v [] h = tt
  returned_light v (f ∷ frames) h = inl h

  ended_light : (o : Option RawFunction) → places_left code m.callers < n → Light code n (ended o m)
  ended_light (Some function) h = one_light _ m.top.operands (λ v rest. only_light (is_of (value_kind function) v) _ (returned_light (given function.gives v) m.callers h))
  ended_light None h = tt

  act_light : (function : RawFunction) (what : Instruction) → JumpsAhead function m.top.place (way_of what) → ((to : ℕ) (rest : List Value) → Ahead function m.top.place to → Light code n (quiet (jumped to rest m))) → ((f : ℕ) (callee : RawFunction) → slice_get code.functions f ≡ Some callee → instruction_in (slice_get code.functions f) 0 ≡ Some does.Tick) → places_left code m.callers < n → Light code n (act code what m)
  act_light function does.Tick a j c r = tt
  act_light function (does.PushInt i) a j c r = light_on (Int i ∷ m.top.operands)
  act_light function (does.PushStr k) a j c r = pushed_light (slice_get code.texts k)
  act_light function (does.Load i) a j c r = loaded_light (slice_get m.top.locals i)
  act_light function (does.Store i) a j c r = kept_light (running code m) i
  act_light function (does.ReadCell k) a j c r = read_light (slice_get code.layout.cells k) k
  act_light function (does.WriteCell k) a j c r = written_light (slice_get code.layout.cells k) k
  act_light function (does.ReadAt k) a j c r = read_at_light (slice_get code.arrays k)
  act_light function (does.WriteAt k) a j c r = write_at_light (slice_get code.arrays k)
  act_light function does.Neg a j c r = one_int_light _ m.top.operands (λ i rest. light_on (Int (negation i) ∷ rest))
  act_light function does.Not a j c r = one_int_light _ m.top.operands (λ i rest. light_on (Int (inversion i) ∷ rest))
  act_light function does.Add a j c r = two_ints_light (λ x y. Ok (Int (sum x y))) m.top.operands
  act_light function does.Sub a j c r = two_ints_light (λ x y. Ok (Int (difference x y))) m.top.operands
  act_light function does.Mul a j c r = two_ints_light (λ x y. Ok (Int (product x y))) m.top.operands
  act_light function does.Div a j c r = two_ints_light quotient m.top.operands
  act_light function does.Mod a j c r = two_ints_light remainder m.top.operands
  act_light function does.And a j c r = two_ints_light (λ x y. Ok (Int (conjunction x y))) m.top.operands
  act_light function does.Or a j c r = two_ints_light (λ x y. Ok (Int (disjunction x y))) m.top.operands
  act_light function does.BitAnd a j c r = two_ints_light (λ x y. Ok (Int (common_bits x y))) m.top.operands
  act_light function does.BitOr a j c r = two_ints_light (λ x y. Ok (Int (joint_bits x y))) m.top.operands
  act_light function does.BitXor a j c r = two_ints_light (λ x y. Ok (Int (differing_bits x y))) m.top.operands
  act_light function does.Cat a j c r = two_texts_light kinds.Str joined m.top.operands
  act_light function (does.CmpInt relation) a j c r = two_ints_light (λ x y. compared relation (Int x) (Int y)) m.top.operands
  act_light function (does.CmpStr relation) a j c r = two_texts_light kinds.Int (λ x y. compared relation (Str x) (Str y)) m.top.operands
  act_light function does.WithinInt a j c r = ints_within_light m.top.operands
  act_light function does.WithinStr a j c r = texts_within_light m.top.operands
  act_light function (does.Form count) a j c r = one_int_light _ m.top.operands (λ i rest. came_light kinds.Str (formatted i count) rest)
  act_light function does.Dup a j c r = one_light _ m.top.operands (λ v rest. light_on (v ∷ v ∷ rest))
  act_light function does.Swap a j c r = swapped_light m.top.operands
  act_light function does.Drop a j c r = one_light _ m.top.operands (λ v rest. light_on rest)
  act_light function (does.Jump to) a j c r = j to m.top.operands a
  act_light function (does.JumpIfZero to) a j c r = one_int_light _ m.top.operands (λ i rest. branched_light (is_zero i) to rest (j to rest a))
  act_light function (does.Call f) a j c r = called_light (slice_get code.functions f) f (c f)
  act_light function (does.Private q) a j c r = several_light (private_takes q) (λ args rest. computed q args (private_value m.error q args) rest m) m.top.operands (λ args rest. computed_light q args (private_value m.error q args) rest)
  act_light function (does.Ask q) a j c r = several_light (shared_takes q) (λ args rest. asks (request_of q args)) m.top.operands (λ args rest. tt)
  act_light function does.TakeSort a j c r = light_on (Int m.last.sort ∷ m.top.operands)
  act_light function does.TakeText a j c r = light_on (Str m.last.text ∷ m.top.operands)
  act_light function does.Return a j c r = ended_light (running code m) r

-- With the rules

-- the function that runs has a step there
pub fetched : (code : RawParts) (m : Machine) (o : Option RawFunction) (what : Instruction) → instruction_in o m.top.place ≡ Some what → (function : RawFunction) × (s : Step) × (o ≡ Some function) × (slice_get function.steps m.top.place ≡ Some s) × (s.what ≡ what)
fetched code m None what e = absurd (cc e)
fetched code m (Some function) what e = found (slice_get function.steps m.top.place) refl e
  where
    found : (o : Option Step) → slice_get function.steps m.top.place ≡ o → option_map (λ (s : Step). s.what) o ≡ Some what → (g : RawFunction) × (s : Step) × (Some function ≡ Some g) × (slice_get g.steps m.top.place ≡ Some s) × (s.what ≡ what)
    found None at h = absurd (cc h)
    found (Some s) at h = let w : s.what ≡ what = cc h in (function, s, refl, at, w)

pub head_of : (code : RawParts) → IsCode code → (f : ℕ) (function : RawFunction) → slice_get code.functions f ≡ Some function → (head : Head) × (slice_get code.layout.functions f ≡ Some head)
head_of code is f function e =
    let inside : f < length code.functions = slice_get_within code.functions f function e in
    there code.layout.functions f (omega (arith, inside, is.one_each))

pub sound : (code : RawParts) → IsCode code → NoneBroken code → (f : ℕ) (function : RawFunction) → slice_get code.functions f ≡ Some function → (head : Head) × IsSoundFunction code head function
sound code is none f function e = let (head, eh) = head_of code is f function e in (head, verified_is_sound code none f head function eh e)

begins : (code : RawParts) → IsCode code → NoneBroken code → (f : ℕ) (callee : RawFunction) → slice_get code.functions f ≡ Some callee → instruction_in (slice_get code.functions f) 0 ≡ Some does.Tick
begins code is none f callee e =
    let (head, good) = sound code is none f callee e in
    ap (λ o. instruction_in o 0) e ∙ ap (λ (o : Option Step). option_map (λ (s : Step). s.what) o) good.tick.found ∙ ap (λ w. Some w) good.tick.tick

tick_there : (code : RawParts) (function : RawFunction) (f to : ℕ) → slice_get code.functions f ≡ Some function → TickAt function to → instruction_in (slice_get code.functions f) to ≡ Some does.Tick
tick_there code function f to e t = ap (λ o. instruction_in o to) e ∙ ap (λ (o : Option Step). option_map (λ (s : Step). s.what) o) t.found ∙ ap (λ w. Some w) t.tick

fewer : (code : RawParts) (function : RawFunction) (f p q : ℕ) → slice_get code.functions f ≡ Some function → p < length function.steps → p < q → (rest : ℕ) → left_in (slice_get code.functions f) q + rest < left_in (slice_get code.functions f) p + rest
fewer code function f p q e inside h rest =
    let one : left_in (slice_get code.functions f) q ≡ length function.steps - q = ap (λ o. left_in o q) e in
    let two : left_in (slice_get code.functions f) p ≡ length function.steps - p = ap (λ o. left_in o p) e in
    omega (arith, one, two, inside, h)

next_light : (code : RawParts) → IsCode code → NoneBroken code → (m : Machine) (what : Instruction) → instruction_at code m ≡ Some what → Light code (instructions_left code m) (act code what m)
next_light code is none m what e =
    let (function, s, found, at, whats) = fetched code m (running code m) what e in
    let inside : m.top.place < length function.steps = slice_get_within function.steps m.top.place s at in
    let (head, good) = sound code is none m.top.function function found in
    let (before, there_at) = good.shaped m.top.place s at in
    let ahead : JumpsAhead function m.top.place (way_of what) = subst (λ w. JumpsAhead function m.top.place (way_of w)) whats ((good.fine m.top.place s before there_at).ahead) in
    let rest : ℕ = places_left code m.callers in
    act_light code (instructions_left code m) m
    (λ locals operands error goes_on. inl (fewer code function m.top.function m.top.place (m.top.place + 1) found inside (omega arith) rest))
    function what ahead
    (λ to operands a. ⊎_elim (λ h. inl (fewer code function m.top.function m.top.place to found inside h rest)) (λ t. inr (tick_there code function m.top.function to found t)) a)
    (begins code is none)
    (omega (arith, inside, ap (λ o. left_in o m.top.place) found))

pub quiet_light : (code : RawParts) → IsCode code → NoneBroken code → (m d : Machine) → next code m ≡ quiet d → (instructions_left code d < instructions_left code m) ⊎ AtTick code d
quiet_light code is none m d e = by_instruction (instruction_at code m) refl e
  where
    by_instruction : (o : Option Instruction) → instruction_at code m ≡ o → act_on code o m ≡ quiet d → (instructions_left code d < instructions_left code m) ⊎ AtTick code d
    by_instruction None at h = absurd (cc h)
    by_instruction (Some what) at h = subst (Light code (instructions_left code m)) h (next_light code is none m what at)

-- a tick is no private step without a tick
tick_ends : (code : RawParts) (m : Machine) → AtTick code m → IsNoQuiet (next code m)
tick_ends code m h = subst (λ o. IsNoQuiet (act_on code o m)) (sym h) tt

abbrev Soon : RawParts → ℕ → Machine → Type 0
Soon code k m = (n : ℕ) × (d : Machine) × (n ≤ k) × Steps (next code) n m 0 d × IsNoQuiet (next code d)

one_more : (code : RawParts) (k : ℕ) (m d : Machine) → next code m ≡ quiet d → Soon code k d → Soon code (k + 1) m
one_more code k m d e (n, last, few, steps, ends) =
    (suc n, last, omega (arith, few), subst (λ move. After move (λ c j. Steps (next code) n c j last) 0) (sym e) steps, ends)

at_once : (code : RawParts) (k : ℕ) (m : Machine) → IsNoQuiet (next code m) → Soon code k m
at_once code k m h = (0, m, omega arith, (refl, refl), h)

by_move : (code : RawParts) → IsCode code → NoneBroken code → (k : ℕ) (m : Machine) → ((d : Machine) → instructions_left code d < instructions_left code m → Soon code k d) → (move : Move) → next code m ≡ move → Soon code (k + 1) m
by_move code is none k m again (tick d) e = at_once code (k + 1) m (subst IsNoQuiet (sym e) tt)
by_move code is none k m again (asks q) e = at_once code (k + 1) m (subst IsNoQuiet (sym e) tt)
by_move code is none k m again stuck e = at_once code (k + 1) m (subst IsNoQuiet (sym e) tt)
by_move code is none k m again (quiet d) e =
    one_more code k m d e (⊎_elim (λ less. again d less) (λ t. at_once code k d (tick_ends code d t)) (quiet_light code is none m d e))

soon : (code : RawParts) → IsCode code → NoneBroken code → (k : ℕ) (m : Machine) → instructions_left code m ≤ k → Soon code (k + 1) m
soon code is none zero m h = by_move code is none 0 m (λ d less. absurd (omega (arith, h, less))) (next code m) refl
soon code is none (suc k) m h =
    by_move code is none (suc k) m (λ d less. let same : k + 1 ≡ suc k = omega arith in subst (λ n. Soon code n d) same (soon code is none k d (omega (arith, h, less)))) (next code m) refl

pub few_between_ticks : FewBetweenTicks
few_between_ticks code is none m = soon code is none (instructions_left code m) m (omega arith)
