-- Runs grow at their end, and what is left falls between ticks.
use Rattle.std.proofs.Common.{◌≡◌, ℕ, zero, suc, ◌+◌, ◌-◌, ◌*◌, ◌<◌, ◌≤◌, ⊎_elim, min, Bool, true, false, cond, List, [], ◌∷◌, length, take, Option, Some, None, refl, sym, ap, ◌∙◌, subst, arith}
use Rattle.std.specs.Prelude.{slice_get, All}
use Rattle.std.proofs.lemmas.Option.{slice_get_within, get_or_from_slice_get}
use Rattle.std.proofs.lemmas.List.Elements.{All-get_or}
use Rattle.ci_base.specs.declared.bounds.TheConstants.{MOST_ROOM}
use Rattle.ci_base.specs.declared.request.Request.TheVariants.{End}
use Rattle.ci_base.specs.declared.value.Value.{Value}
use Rattle.ci_base.specs.Steps.{Next, tick, quiet, asks, stuck, After, Steps}
use Rattle.ci_code.specs.declared.instruction.Instruction.{Instruction}
use Rattle.ci_code.specs.declared.instruction.Instruction.TheVariants as does
use Rattle.ci_code.specs.declared.instruction.Step.{Step}
use Rattle.ci_code.specs.declared.raw.RawFunction.{RawFunction}
use Rattle.ci_code.specs.declared.raw.RawParts.{RawParts}
use Rattle.ci_code.specs.Code.{IsCode, IsFunctionCounted}
use Rattle.ci_code.specs.Machine.{act, act_on, next, instruction_in, instruction_at, rooms}
use Rattle.ci_code.specs.Moves.{Frame, Machine, Move, on}
use Rattle.ci_verify.specs.Between.{left_in, places_left, instructions_left}
use Rattle.ci_verify.specs.Rules.{NoneBroken}
use Rattle.ci_verify.specs.Safe.{IsSafe, GoesSafely}
use Rattle.ci_verify.proofs.Between.{quiet_light}
use Rattle.ci_verify.proofs.Safe.{never_stuck, never_full}
use Rattle.ci_task.specs.declared.active.Active.{Active}
use Rattle.ci_task.specs.declared.heard.Heard.{Heard}
use Rattle.ci_task.specs.declared.went.Went.TheVariants as went
use Rattle.ci_task.specs.Spelled.{frames_of, spelled, AreStacked}
use Rattle.ci_task.specs.Courses.{at_place}
use Rattle.ci_task.specs.Going.{HasRoom, next_place, CanNow, Leads}
use Rattle.ci_task.specs.Running.{Holds, StandsAsking, Runs, most_counted}
use Rattle.ci_task.proofs.Operands.{rooms_frames}

-- Runs

after_more : {C Q : Type 0} → (x : Next C Q) (F G : C → ℕ → Type 0) (k j : ℕ) → ((d : C) (i : ℕ) → F d i → G d (i + j)) → After x F k → After x G (k + j)
after_more {C} {Q} (tick c) F G zero j f a = absurd a
after_more {C} {Q} (tick c) F G (suc k) j f a =
    let P : ℕ → Type 0 = λ i. After {C = C} {Q = Q} (tick c) G i in
    let e : suc (k + j) ≡ suc k + j = omega arith in
    subst P e (f c k a)
after_more (quiet c) F G k j f a = f c k a
after_more (asks q) F G k j f a = absurd a
after_more stuck F G k j f a = absurd a

pub steps_quiet : {C Q : Type 0} → (next : C → Next C Q) (n : ℕ) (c : C) (k : ℕ) (d e : C) → Steps next n c k d → next d ≡ quiet e → Steps next (n + 1) c k e
steps_quiet {C} {Q} next zero c k d e s h =
    let here : next c ≡ quiet e = ap next s.1 ∙ h in
    let P : Next C Q → Type 0 = λ x. After x (λ b i. (i ≡ 0) × (b ≡ e)) k in
    subst P (sym here) (s.0, refl)
steps_quiet {C} {Q} next (suc n) c k d e s h =
    let z : suc (n + 1) ≡ suc n + 1 = omega arith in
    let none : k + 0 ≡ k = omega arith in
    let R : ℕ → Type 0 = λ m. Steps next m c k e in
    let T : ℕ → Type 0 = λ i. Steps next (suc (n + 1)) c i e in
    subst R z (subst T none
    (after_more (next c) (λ (b : C) (i : ℕ). Steps next n b i d) (λ (b : C) (i : ℕ). Steps next (n + 1) b i e) k 0
    (λ b i f. let same : i ≡ i + 0 = omega arith in let U : ℕ → Type 0 = λ j. Steps next (n + 1) b j e in subst U same (steps_quiet next n b i d e f h)) s))

pub steps_tick : {C Q : Type 0} → (next : C → Next C Q) (n : ℕ) (c : C) (k : ℕ) (d e : C) → Steps next n c k d → next d ≡ tick e → Steps next (n + 1) c (k + 1) e
steps_tick {C} {Q} next zero c k d e s h =
    let here : next c ≡ tick e = ap next s.1 ∙ h in
    let P : Next C Q → Type 0 = λ x. After x (λ b i. (i ≡ 0) × (b ≡ e)) (k + 1) in
    let one : suc 0 ≡ k + 1 = omega (arith, s.0) in
    let T : ℕ → Type 0 = λ i. After {C = C} {Q = Q} (tick e) (λ b j. (j ≡ 0) × (b ≡ e)) i in
    subst P (sym here) (subst T one (refl, refl))
steps_tick {C} {Q} next (suc n) c k d e s h =
    let z : suc (n + 1) ≡ suc n + 1 = omega arith in
    let R : ℕ → Type 0 = λ m. Steps next m c (k + 1) e in
    subst R z (after_more (next c) (λ (b : C) (i : ℕ). Steps next n b i d) (λ (b : C) (i : ℕ). Steps next (n + 1) b i e) k 1 (λ b i f. steps_tick next n b i d e f h) s)

-- A machine that holds

-- there is room behind a safe move
roomy : (code : RawParts) → IsCode code → NoneBroken code → (move : Move) → GoesSafely code move → HasRoom move
roomy code is none (tick m) safe = omega (arith, never_full code is none m safe)
roomy code is none (quiet m) safe = omega (arith, never_full code is none m safe)
roomy code is none (asks q) safe = tt
roomy code is none stuck safe = absurd safe

pub next_is : (code : RawParts) (m : Machine) (what : Instruction) → instruction_at code m ≡ Some what → next code m ≡ act code what m
next_is code m what e = ap (λ (o : Option Instruction). act_on code o m) e

pub holds_can : (code : RawParts) (what : Instruction) (a : Active) (callers : List Active) (values : List Value) (heard : Heard) → IsCode code → NoneBroken code → Holds code a callers values heard → instruction_at code (spelled code a callers values heard) ≡ Some what → CanNow code what a callers values heard
holds_can code what a callers values heard is none holds e =
    let m : Machine = spelled code a callers values heard in
    let safe : GoesSafely code (next code m) = (never_stuck code is none).1 m holds.safe in
    (holds.stacked, roomy code is none (act code what m) (subst (GoesSafely code) (next_is code m what e) safe))

pub holds_on : (code : RawParts) (a a' : Active) (callers callers' : List Active) (values values' : List Value) (heard heard' : Heard) → IsCode code → NoneBroken code → Holds code a callers values heard → next code (spelled code a callers values heard) ≡ quiet (spelled code a' callers' values' heard') → AreStacked code (a' ∷ callers') (length values') → Holds code a' callers' values' heard'
holds_on code a a' callers callers' values values' heard heard' is none holds e s = record {
  safe = subst (GoesSafely code) e ((never_stuck code is none).1 (spelled code a callers values heard) holds.safe);
  stacked = s;
}

pub holds_tick : (code : RawParts) (a : Active) (callers : List Active) (values : List Value) (heard : Heard) → IsCode code → NoneBroken code → Holds code a callers values heard → next code (spelled code a callers values heard) ≡ tick (spelled code (next_place a) callers values heard) → Holds code (next_place a) callers values heard
holds_tick code a callers values heard is none holds e = record {
  safe = subst (GoesSafely code) e ((never_stuck code is none).1 (spelled code a callers values heard) holds.safe);
  stacked = holds.stacked;
}

-- its functions are few, and have few rooms
pub holds_few : (code : RawParts) (a : Active) (callers : List Active) (values : List Value) (heard : Heard) → Holds code a callers values heard → (a.rooms ≤ MOST_ROOM) × (length (a ∷ callers) ≤ MOST_ROOM)
holds_few code a callers values heard holds =
    let same : rooms code ((spelled code a callers values heard).top ∷ (spelled code a callers values heard).callers) ≡ a.rooms = rooms_frames code (a ∷ callers) values ∙ sym holds.stacked.1 in
    (omega (arith, same, holds.safe.room), omega (arith, same, holds.safe.room, holds.stacked.2))

-- What is left

abbrev pub tick_next : Option Instruction → Bool
tick_next (Some does.Tick) = true
tick_next _ = false

-- nothing before a tick
unfoldable pub weight : RawParts → Machine → ℕ
weight code m = cond (tick_next (instruction_at code m)) 0 (instructions_left code m + 1)

abbrev pub heaviest : ℕ
heaviest = 35184372088832

all_at : (functions : List RawFunction) (i : ℕ) (function : RawFunction) → All IsFunctionCounted functions → slice_get functions i ≡ Some function → IsFunctionCounted function
all_at functions i function all e = subst (λ (g : RawFunction). IsFunctionCounted g) (get_or_from_slice_get functions i function function e) (All-get_or (λ (g : RawFunction). IsFunctionCounted g) functions i function (slice_get_within functions i function e) all)

-- the steps of a function are counted
steps_few : (code : RawParts) → IsCode code → (f p : ℕ) → left_in (slice_get code.functions f) p ≤ 4294967295
steps_few code is f p = by (slice_get code.functions f) refl
  where
    by : (o : Option RawFunction) → slice_get code.functions f ≡ o → left_in o p ≤ 4294967295
    by None e = omega arith
    by (Some function) e = omega (arith, (all_at code.functions f function is.counted.each_function e).steps)

places_few : (code : RawParts) → IsCode code → (frames : List Frame) → places_left code frames ≤ length frames * 4294967295
places_few code is [] = omega arith
places_few code is (f ∷ frames) = omega (arith, steps_few code is f.function f.place, places_few code is frames)

frames_many : (code : RawParts) (callers : List Active) (values : List Value) → length (frames_of code callers values) ≡ length callers
frames_many code [] values = refl
frames_many code (a ∷ callers) values = ap suc (frames_many code callers (take a.base values))

pub light : (code : RawParts) (a : Active) (callers : List Active) (values : List Value) (heard : Heard) → IsCode code → Holds code a callers values heard → weight code (spelled code a callers values heard) < heaviest
unfolding weight
light code a callers values heard is holds =
    let m : Machine = spelled code a callers values heard in
    let many : length (m.top ∷ m.callers) ≡ length (a ∷ callers) = ap suc (frames_many code callers (take a.base values)) in
    let few : instructions_left code m ≤ length (m.top ∷ m.callers) * 4294967295 = places_few code is (m.top ∷ m.callers) in
    let all : length (a ∷ callers) ≤ 4096 = (holds_few code a callers values heard holds).1 in
    by (tick_next (instruction_at code m)) (omega (arith, many, few, all))
  where
    by : (b : Bool) → instructions_left code (spelled code a callers values heard) + 1 < heaviest → cond b 0 (instructions_left code (spelled code a callers values heard) + 1) < heaviest
    by true h = omega arith
    by false h = h

pub lighter : (code : RawParts) (m d : Machine) → IsCode code → NoneBroken code → next code m ≡ quiet d → weight code d < weight code m
unfolding weight
lighter code m d is none e =
    let here : tick_next (instruction_at code m) ≡ false = no_tick (instruction_at code m) e in
    let this : cond (tick_next (instruction_at code m)) 0 (instructions_left code m + 1) ≡ instructions_left code m + 1 = ap (λ b. cond b 0 (instructions_left code m + 1)) here in
    ⊎_elim
    (λ less. subst (λ n. cond (tick_next (instruction_at code d)) 0 (instructions_left code d + 1) < n) (sym this) (by (tick_next (instruction_at code d)) less))
    (λ at. subst (λ n. cond (tick_next (instruction_at code d)) 0 (instructions_left code d + 1) < n) (sym this)
    (subst (λ (o : Option Instruction). cond (tick_next o) 0 (instructions_left code d + 1) < instructions_left code m + 1) (sym at) (omega arith)))
    (quiet_light code is none m d e)
  where
    no_tick : (o : Option Instruction) → act_on code o m ≡ quiet d → tick_next o ≡ false
    no_tick None h = refl
    no_tick (Some does.Tick) h = absurd (cc h)
    no_tick (Some _) h = refl

    by : (b : Bool) → instructions_left code d < instructions_left code m → cond b 0 (instructions_left code d + 1) < instructions_left code m + 1
    by true h = omega arith
    by false h = omega arith

-- What a loop keeps

pub record Kept (code : RawParts) (start : Machine) (before ticks : ℕ) (a : Active) (callers : List Active) (values : List Value) (heard : Heard) (used count : ℕ) : Type 0 where
  pub number : ℕ
  pub steps : Steps (next code) number start used (spelled code a callers values heard)
  pub holds : Holds code a callers values heard
  pub within : used ≤ ticks
  pub counted : min count most_counted ≡ min (before + number) most_counted
  pub bounded : count + weight code (spelled code a callers values heard) ≤ most_counted + heaviest

pub kept_first : (code : RawParts) (before ticks : ℕ) (a : Active) (callers : List Active) (values : List Value) (heard : Heard) → IsCode code → before ≤ most_counted → Holds code a callers values heard → Kept code (spelled code a callers values heard) before ticks a callers values heard 0 before
kept_first code before ticks a callers values heard is small holds = record {
  number = 0;
  steps = (refl, refl);
  holds = holds;
  within = omega arith;
  counted = ap (λ n. min n most_counted) (none before);
  bounded = omega (arith, light code a callers values heard is holds);
}
  where
    none : (n : ℕ) → n ≡ n + 0
    none n = omega arith

one_more : (a b : ℕ) → min a most_counted ≡ min b most_counted → min (a + 1) most_counted ≡ min (b + 1) most_counted
one_more a b h = omega arith

pub kept_on : (code : RawParts) (start : Machine) (before ticks : ℕ) (a a' : Active) (callers callers' : List Active) (values values' : List Value) (heard heard' : Heard) (used count : ℕ) (what : Instruction) → IsCode code → NoneBroken code → Kept code start before ticks a callers values heard used count → instruction_at code (spelled code a callers values heard) ≡ Some what → Leads code what a callers values heard went.On a' callers' values' heard' → Kept code start before ticks a' callers' values' heard' used (count + 1)
kept_on code start before ticks a a' callers callers' values values' heard heard' used count what is none k e leads =
    let m : Machine = spelled code a callers values heard in
    let d : Machine = spelled code a' callers' values' heard' in
    let moves : next code m ≡ quiet d = next_is code m what e ∙ leads.0 in
    record {
      number = k.number + 1;
      steps = steps_quiet (next code) k.number start used m d k.steps moves;
      holds = holds_on code a a' callers callers' values values' heard heard' is none k.holds moves leads.1;
      within = k.within;
      counted = one_more count (before + k.number) k.counted ∙ ap (λ n. min n most_counted) (move_one before k.number);
      bounded = omega (arith, k.bounded, lighter code m d is none moves);
    }
  where
    move_one : (a n : ℕ) → a + n + 1 ≡ a + (n + 1)
    move_one a n = omega arith

pub weight_on : (code : RawParts) (a a' : Active) (callers callers' : List Active) (values values' : List Value) (heard heard' : Heard) (what : Instruction) → IsCode code → NoneBroken code → instruction_at code (spelled code a callers values heard) ≡ Some what → Leads code what a callers values heard went.On a' callers' values' heard' → weight code (spelled code a' callers' values' heard') < weight code (spelled code a callers values heard)
weight_on code a a' callers callers' values values' heard heard' what is none e leads =
    lighter code (spelled code a callers values heard) (spelled code a' callers' values' heard') is none (next_is code (spelled code a callers values heard) what e ∙ leads.0)

-- the same machine on another stack
pub kept_same : (code : RawParts) (start : Machine) (before ticks : ℕ) (a a' : Active) (callers callers' : List Active) (values values' : List Value) (heard heard' : Heard) (used count : ℕ) → Kept code start before ticks a callers values heard used count → spelled code a' callers' values' heard' ≡ spelled code a callers values heard → AreStacked code (a' ∷ callers') (length values') → Kept code start before ticks a' callers' values' heard' used count
kept_same code start before ticks a a' callers callers' values values' heard heard' used count k same s = record {
  number = k.number;
  steps = subst (λ (m : Machine). Steps (next code) k.number start used m) (sym same) k.steps;
  holds = record { safe = subst (λ (m : Machine). IsSafe code m) (sym same) k.holds.safe; stacked = s };
  within = k.within;
  counted = k.counted;
  bounded = subst (λ (m : Machine). count + weight code m ≤ most_counted + heaviest) (sym same) k.bounded;
}

-- a tick is made
pub kept_tick : (code : RawParts) (start : Machine) (before ticks : ℕ) (a : Active) (callers : List Active) (values : List Value) (heard : Heard) (used count : ℕ) → IsCode code → NoneBroken code → Kept code start before ticks a callers values heard used count → used < ticks → next code (spelled code a callers values heard) ≡ tick (spelled code (next_place a) callers values heard) → Kept code start before ticks (next_place a) callers values heard (used + 1) (min count most_counted + 1)
kept_tick code start before ticks a callers values heard used count is none k more moves =
    let holds : Holds code (next_place a) callers values heard = holds_tick code a callers values heard is none k.holds moves in
    record {
      number = k.number + 1;
      steps = steps_tick (next code) k.number start used (spelled code a callers values heard) (spelled code (next_place a) callers values heard) k.steps moves;
      holds = holds;
      within = omega arith;
      counted = one_more (min count most_counted) (before + k.number) (omega (arith, k.counted)) ∙ ap (λ n. min n most_counted) (move_one before k.number);
      bounded = omega (arith, light code (next_place a) callers values heard is holds);
    }
  where
    move_one : (a n : ℕ) → a + n + 1 ≡ a + (n + 1)
    move_one a n = omega arith

pub runs_of : (code : RawParts) (start : Machine) (before ticks : ℕ) (a : Active) (callers : List Active) (values : List Value) (heard : Heard) (used count : ℕ) → Kept code start before ticks a callers values heard used count → Runs code start used (spelled code a callers values heard) before (min count most_counted)
runs_of code start before ticks a callers values heard used count k = record { number = k.number; steps = k.steps; counted = k.counted }

-- an instruction behind which the machine stands where it was
pub leads_tick : (code : RawParts) (what : Instruction) (a a' : Active) (callers callers' : List Active) (values values' : List Value) (heard heard' : Heard) → instruction_at code (spelled code a callers values heard) ≡ Some what → Leads code what a callers values heard went.Tick a' callers' values' heard' → next code (spelled code a' callers' values' heard') ≡ tick (spelled code (next_place a') callers' values' heard')
leads_tick code what a a' callers callers' values values' heard heard' e leads =
    let m : Machine = spelled code a callers values heard in
    let d : Machine = spelled code a' callers' values' heard' in
    ap (next code) leads.0.1 ∙ next_is code m what e ∙ leads.0.0 ∙ ap (λ (x : Machine). tick (on x.top.operands x)) (sym leads.0.1)

pub leads_ends : (code : RawParts) (what : Instruction) (c : ℕ) (a a' : Active) (callers callers' : List Active) (values values' : List Value) (heard heard' : Heard) → instruction_at code (spelled code a callers values heard) ≡ Some what → Leads code what a callers values heard (went.Ends c) a' callers' values' heard' → next code (spelled code a' callers' values' heard') ≡ asks (End c)
leads_ends code what c a a' callers callers' values values' heard heard' e leads =
    ap (next code) leads.0.1 ∙ next_is code (spelled code a callers values heard) what e ∙ leads.0.0

pub leads_asks : (code : RawParts) (what : Instruction) (a a' : Active) (callers callers' : List Active) (values values' : List Value) (heard heard' : Heard) → instruction_at code (spelled code a callers values heard) ≡ Some what → Leads code what a callers values heard went.Asks a' callers' values' heard' → StandsAsking code (spelled code a' callers' values' heard')
leads_asks code what a a' callers callers' values values' heard heard' e leads = record {
  what = what;
  found = ap (instruction_at code) leads.0.1 ∙ e;
  request = leads.0.0.0;
  asked = leads.0.0.2;
  asks_it = ap (next code) leads.0.1 ∙ next_is code (spelled code a callers values heard) what e ∙ leads.0.0.1;
}

-- where the machine stands there is a function with an instruction
pub stands_in : (code : RawParts) (a : Active) (callers : List Active) (values : List Value) (heard : Heard) → IsCode code → Holds code a callers values heard → (function : RawFunction) × (slice_get code.functions a.function ≡ Some function) × (a.place < length function.steps) × (length function.steps ≤ 4294967295)
stands_in code a callers values heard is holds =
    let function : RawFunction = holds.safe.function in
    (function, holds.safe.top.found, slice_get_within function.steps a.place holds.safe.top.stands.step holds.safe.top.stands.at.found, omega (arith, (all_at code.functions a.function function is.counted.each_function holds.safe.top.found).steps))

pub found_at : (code : RawParts) (a : Active) (callers : List Active) (values : List Value) (heard : Heard) (function : RawFunction) (what : Instruction) → slice_get code.functions a.function ≡ Some function → instruction_in (Some function) a.place ≡ Some what → instruction_at code (spelled code a callers values heard) ≡ Some what
found_at code a callers values heard function what here e = ap (λ (o : Option RawFunction). instruction_in o a.place) here ∙ e

pub same_function : (f g : RawFunction) → Some f ≡ Some g → f ≡ g
same_function f g h = cc h

-- What the loop keeps

-- the run came to a place of a function, with nothing but instructions one behind the other since it landed there
pub record Loop (code : RawParts) (start : Machine) (before ticks : ℕ) (landed : Active) (place : ℕ) (callers : List Active) (values : List Value) (heard : Heard) (used count : ℕ) (function : RawFunction) (steps : List Step) : Type 0 where
  pub kept : Kept code start before ticks (at_place place landed) callers values heard used (count + (place - landed.place))
  pub here : slice_get code.functions landed.function ≡ Some function
  pub steps_are : steps ≡ function.steps
  pub behind : landed.place ≤ place

-- it has just landed
pub loop_landed : (code : RawParts) (start : Machine) (before ticks : ℕ) (a : Active) (callers : List Active) (values : List Value) (heard : Heard) (used count : ℕ) (function : RawFunction) (steps : List Step) → Kept code start before ticks a callers values heard used count → slice_get code.functions a.function ≡ Some function → steps ≡ function.steps → Loop code start before ticks a a.place callers values heard used count function steps
loop_landed code start before ticks a callers values heard used count function steps k here same = record {
  kept = subst (λ n. Kept code start before ticks a callers values heard used n) (none count a.place) k;
  here = here;
  steps_are = same;
  behind = omega arith;
}
  where
    none : (n p : ℕ) → n ≡ n + (p - p)
    none n p = omega arith

-- where the run stands
pub loop_kept : (code : RawParts) (start : Machine) (before ticks : ℕ) (landed at : Active) (place : ℕ) (callers : List Active) (values : List Value) (heard : Heard) (used count : ℕ) (function : RawFunction) (steps : List Step) → at ≡ at_place place landed → Loop code start before ticks landed place callers values heard used count function steps → Kept code start before ticks at callers values heard used (count + (place - landed.place))
loop_kept code start before ticks landed at place callers values heard used count function steps e l = subst (λ (a : Active). Kept code start before ticks a callers values heard used (count + (place - landed.place))) (sym e) l.kept

pub loop_here : (code : RawParts) (start : Machine) (before ticks : ℕ) (landed at : Active) (place : ℕ) (callers : List Active) (values : List Value) (heard : Heard) (used count : ℕ) (function : RawFunction) (steps : List Step) → at ≡ at_place place landed → Loop code start before ticks landed place callers values heard used count function steps → slice_get code.functions at.function ≡ Some function
loop_here code start before ticks landed at place callers values heard used count function steps e l = ap (λ (a : Active). slice_get code.functions a.function) e ∙ l.here

-- the place is among the steps, which are few
pub loop_within : (code : RawParts) (start : Machine) (before ticks : ℕ) (landed : Active) (place : ℕ) (callers : List Active) (values : List Value) (heard : Heard) (used count : ℕ) (function : RawFunction) (steps : List Step) → IsCode code → Loop code start before ticks landed place callers values heard used count function steps → (place < length function.steps) × (length function.steps ≤ 4294967295) × (place < length steps)
loop_within code start before ticks landed place callers values heard used count function steps is l =
    let t = stands_in code (at_place place landed) callers values heard is l.kept.holds in
    let same : length t.0.steps ≡ length function.steps = ap (λ (f : RawFunction). length f.steps) (same_function t.0 function (sym t.1 ∙ l.here)) in
    (omega (arith, t.2, same), omega (arith, t.3, same), omega (arith, t.2, same, ap (λ (s : List Step). length s) l.steps_are))

pub loop_found : (code : RawParts) (start : Machine) (before ticks : ℕ) (landed at : Active) (place : ℕ) (callers : List Active) (values : List Value) (heard : Heard) (used count : ℕ) (function : RawFunction) (steps : List Step) (what : Instruction) → at ≡ at_place place landed → Loop code start before ticks landed place callers values heard used count function steps → ((f : RawFunction) → steps ≡ f.steps → instruction_in (Some f) place ≡ Some what) → instruction_at code (spelled code at callers values heard) ≡ Some what
loop_found code start before ticks landed at place callers values heard used count function steps what e l there =
    ap (λ (a : Active). instruction_at code (spelled code a callers values heard)) e ∙ found_at code (at_place place landed) callers values heard function what l.here (there function l.steps_are)

-- the next instruction comes
pub loop_next : (code : RawParts) (start : Machine) (before ticks : ℕ) (landed at : Active) (place : ℕ) (callers callers' : List Active) (values values' : List Value) (heard heard' : Heard) (used count : ℕ) (function : RawFunction) (steps : List Step) (what : Instruction) → IsCode code → NoneBroken code → at ≡ at_place place landed → Loop code start before ticks landed place callers values heard used count function steps → instruction_at code (spelled code at callers values heard) ≡ Some what → Leads code what at callers values heard went.On (next_place at) callers' values' heard' → Loop code start before ticks landed (place + 1) callers' values' heard' used count function steps
loop_next code start before ticks landed at place callers callers' values values' heard heard' used count function steps what is none e l found leads =
    let k : Kept code start before ticks (next_place at) callers' values' heard' used (count + (place - landed.place) + 1) =
    kept_on code start before ticks at (next_place at) callers callers' values values' heard heard' used (count + (place - landed.place)) what is none (loop_kept code start before ticks landed at place callers values heard used count function steps e l) found leads in
    record {
      kept = subst (λ n. Kept code start before ticks (at_place (place + 1) landed) callers' values' heard' used n) (one_behind count place landed.place l.behind)
          (subst (λ (a : Active). Kept code start before ticks (next_place a) callers' values' heard' used (count + (place - landed.place) + 1)) e k);
      here = l.here;
      steps_are = l.steps_are;
      behind = omega (arith, l.behind);
    }
  where
    one_behind : (n p q : ℕ) → q ≤ p → n + (p - q) + 1 ≡ n + (p + 1 - q)
    one_behind n p q h = omega (arith, h)

-- the run lands elsewhere
pub loop_lands : (code : RawParts) (start : Machine) (before ticks : ℕ) (landed at to : Active) (place : ℕ) (callers callers' : List Active) (values values' : List Value) (heard heard' : Heard) (used count : ℕ) (function f : RawFunction) (steps s : List Step) (what : Instruction) → IsCode code → NoneBroken code → at ≡ at_place place landed → Loop code start before ticks landed place callers values heard used count function steps → instruction_at code (spelled code at callers values heard) ≡ Some what → Leads code what at callers values heard went.On to callers' values' heard' → slice_get code.functions to.function ≡ Some f → s ≡ f.steps → Loop code start before ticks to to.place callers' values' heard' used (count + (place - landed.place) + 1) f s
loop_lands code start before ticks landed at to place callers callers' values values' heard heard' used count function f steps s what is none e l found leads there same =
    loop_landed code start before ticks to callers' values' heard' used (count + (place - landed.place) + 1) f s
    (kept_on code start before ticks at to callers callers' values values' heard heard' used (count + (place - landed.place)) what is none (loop_kept code start before ticks landed at place callers values heard used count function steps e l) found leads)
    there same
