-- A machine begins, and moves on along its trail.
use Rattle.std.proofs.Common.{◌≡◌, ℕ, zero, suc, ◌+◌, ◌-◌, ◌<◌, ◌≤◌, ◌⊎◌, ⊎_elim, min, Bool, true, false, List, [], ◌∷◌, ◌++◌, length, take, drop, reverse, map, Option, Some, None, refl, sym, ap, ◌∙◌, subst, arith, length-append}
use Rattle.std.specs.Prelude.{slice_get, pos}
use Rattle.std.proofs.lemmas.List.{append-nil, length-map, length-drop, length-reverse, reverse-reverse, take-append-drop}
use Rattle.ci_base.specs.declared.bounds.TheConstants.{MOST_ROOM}
use Rattle.ci_base.specs.declared.reply.Answer.{Answer}
use Rattle.ci_base.specs.declared.request.Request.{Request}
use Rattle.ci_base.specs.declared.request.Request.TheVariants as requests
use Rattle.ci_base.specs.declared.task.Trail.{Trail}
use Rattle.ci_base.specs.declared.value.Value.{Value}
use Rattle.ci_base.specs.declared.value.Value.TheVariants.{Int}
use Rattle.ci_base.specs.Functions.{shared_takes}
use Rattle.ci_base.specs.Heard.{Element, error_kept, last_after, no_element}
use Rattle.ci_base.specs.Requests.{Fits, request_of}
use Rattle.ci_base.specs.Steps.{Next, tick, quiet, asks, stuck, After, Steps, Stands}
use Rattle.ci_base.specs.Values.{kind_of, first_of_kind}
use Rattle.ci_code.specs.declared.instruction.Instruction.{Instruction}
use Rattle.ci_code.specs.declared.instruction.Instruction.TheVariants as does
use Rattle.ci_code.specs.declared.raw.RawFunction.{RawFunction}
use Rattle.ci_code.specs.declared.raw.RawParts.{RawParts}
use Rattle.ci_code.specs.Code.{IsCode}
use Rattle.ci_code.specs.Machine.{act, next, opening, resume, resumed, answered, instruction_at, room_in}
use Rattle.ci_code.specs.Machine.{locals_in as first_locals}
use Rattle.ci_code.specs.Moves.{Frame, Machine, on, parameters_of}
use Rattle.ci_verify.specs.Rules.{NoneBroken}
use Rattle.ci_verify.specs.Safe.{IsSafe, values_held}
use Rattle.ci_verify.proofs.Safe.{never_stuck, never_full}
use Rattle.ci_verify.proofs.Resumed.{answers_keep}
use Rattle.ci_task.specs.declared.active.Active.{Active}
use Rattle.ci_task.specs.declared.behind.Behind.{Behind}
use Rattle.ci_task.specs.declared.heard.Heard.{Heard}
use Rattle.ci_task.specs.declared.machine.Pause.TheVariants as pauses
use Rattle.ci_task.specs.declared.went.Went.TheVariants as went
use Rattle.ci_task.specs.Spelled.{locals_in, locals_of, floor, spelled, AreStacked}
use Rattle.ci_task.specs.Going.{HasRoom, IsAskedBy, next_place}
use Rattle.ci_task.specs.Running.{Holds, StandsAsking, Stops, Runs, most_counted}
use Rattle.ci_task.specs.Moved.{Standing, machine_of, cell_kinds, Led, behind, behind_at, brought, Tells, HasMoved, moved, IsMade, Paused, ArgsFit, Begins, Asking}
use Rattle.ci_task.proofs.Operands.{length_over, spelled_over, held, below, above}
use Rattle.ci_task.proofs.Calling.{room_some, parameters_few, several_there}
use Rattle.ci_task.proofs.Running.{next_is, stands_in}
use Rattle.ci_task.proofs.Asking.{written_as}
use Rattle.ci_task.proofs.Coming.{read_array, write_array}

-- Runs one after another

after_join : {C Q : Type 0} → (x : Next C Q) (F G : C → ℕ → Type 0) (k j : ℕ) → ((d : C) (i : ℕ) → F d i → G d (i + j)) → After x F k → After x G (k + j)
after_join {C} {Q} (tick c) F G zero j f a = absurd a
after_join {C} {Q} (tick c) F G (suc k) j f a =
    let P : ℕ → Type 0 = λ i. After {C = C} {Q = Q} (tick c) G i in
    let e : suc (k + j) ≡ suc k + j = omega arith in
    subst P e (f c k a)
after_join (quiet c) F G k j f a = f c k a
after_join (asks q) F G k j f a = absurd a
after_join stuck F G k j f a = absurd a

pub steps_join : {C Q : Type 0} → (go : C → Next C Q) (n m : ℕ) (c d e : C) (k j : ℕ) → Steps go n c k d → Steps go m d j e → Steps go (n + m) c (k + j) e
steps_join {C} go zero m c d e k j s t =
    let P : C → Type 0 = λ b. Steps go m b j e in
    let more : Steps go m c j e = subst P (sym s.1) t in
    let ticks : j ≡ k + j = omega (arith, s.0) in
    let number : m ≡ 0 + m = omega arith in
    let R : ℕ → Type 0 = λ i. Steps go m c i e in
    let S : ℕ → Type 0 = λ i. Steps go i c (k + j) e in
    subst S number (subst R ticks more)
steps_join go (suc n) m c d e k j s t =
    let z : suc (n + m) ≡ suc n + m = omega arith in
    let R : ℕ → Type 0 = λ i. Steps go i c (k + j) e in
    subst R z (after_join (go c) (λ b i. Steps go n b i d) (λ b i. Steps go (n + m) b i e) k j (λ b i f. steps_join go n m b d e i j f t) s)

joined_count : (a n m : ℕ) (before after : ℕ) → before ≡ min n most_counted → after ≡ min (before + m) most_counted → after ≡ min (n + m) most_counted
joined_count a n m before after h k = omega arith

-- A run

pub run_moves : (code : RawParts) (trail : Trail) (before used : ℕ) (s s' : Standing) → HasMoved code trail before s → Runs code (machine_of code s) used (machine_of code s') s.count s'.count → Holds code s'.at s'.callers s'.values s'.heard → Tells code s'.told (machine_of code s') → HasMoved code trail (before + used) s'
run_moves code trail before used s s' h r holds tells = record {
  birth = h.birth;
  born = h.born;
  start = h.start;
  led = h.led;
  number = h.number + r.number;
  steps = steps_join (next code) h.number r.number h.start (machine_of code s) (machine_of code s') before used h.steps r.steps;
  counted = joined_count 0 h.number r.number s.count s'.count h.counted r.counted;
  tells = tells;
  holds = holds;
}

pub held_of : (code : RawParts) (trail : Trail) (before : ℕ) (s : Standing) → moved code trail before s → Holds code s.at s.callers s.values s.heard
unfolding moved
held_of code trail before s h = h.holds

pub out_of_ticks : (code : RawParts) (trail : Trail) (before used ticks : ℕ) (s s' : Standing) → moved code trail before s → Runs code (machine_of code s) used (machine_of code s') s.count s'.count → Holds code s'.at s'.callers s'.values s'.heard → s'.told ≡ None → Stops code went.Tick (machine_of code s') used ticks → Paused code trail before ticks (pauses.OutOfTicks used) s'
unfolding moved Paused
out_of_ticks code trail before used ticks s s' h r holds none stops =
    (stops.0, run_moves code trail before used s s' h r holds (subst (λ (o : Option Behind). Tells code o (machine_of code s')) (sym none) tt), stops.1, none)

pub asks_pause : (code : RawParts) (trail : Trail) (before used ticks : ℕ) (s s' : Standing) (q : Request) → moved code trail before s → Runs code (machine_of code s) used (machine_of code s') s.count s'.count → Holds code s'.at s'.callers s'.values s'.heard → used ≤ ticks → s'.told ≡ Some (behind_at (instruction_at code (machine_of code s'))) → (StandsAsking code (machine_of code s') ⊎ ((c : ℕ) × (next code (machine_of code s') ≡ asks (requests.End c)))) → next code (machine_of code s') ≡ asks q → IsMade code q → Paused code trail before ticks (pauses.Asks q used) s'
unfolding moved Paused
asks_pause code trail before used ticks s s' q h r holds within told stands asks_it made =
    (within, run_moves code trail before used s s' h r holds (subst (λ (o : Option Behind). Tells code o (machine_of code s')) (sym told) (refl, stands)), asks_it, made, told)

-- what an instruction asks over the values that a machine holds
pub asking_of : (code : RawParts) (a : Active) (callers : List Active) (values : List Value) (heard : Heard) (what : Instruction) → AreStacked code (a ∷ callers) (length values) → (t : StandsAsking code (spelled code a callers values heard)) → instruction_at code (spelled code a callers values heard) ≡ Some what → Asking code what values t.request
asking_of code a callers values heard what s t e =
    let m : Machine = spelled code a callers values heard in
    let same : t.what ≡ what = same_what t.what what (sym t.found ∙ e) in
    (a, callers, heard, s, sym (next_is code m what e) ∙ t.asks_it, subst (λ (w : Instruction). IsAskedBy w t.request) same t.asked)
  where
    same_what : (v w : Instruction) → Some v ≡ Some w → v ≡ w
    same_what v w h = cc h

-- A task begins

pub begin_room : (code : RawParts) (f : ℕ) (args : List Value) → IsCode code → NoneBroken code → (fit : ArgsFit code f args) → (length args + (length fit.function.locals - length args) ≤ MOST_ROOM) × (length args ≤ length fit.function.locals)
begin_room code f args is none fit =
    let safe : IsSafe code (opening code f args) = (never_stuck code is none).0 f fit.function args fit.found fit.kinds in
    let few : length (parameters_of code f) ≤ length fit.function.locals = parameters_few code f fit.function is fit.found in
    let many : length args ≡ length (parameters_of code f) = sym (length-map args kind_of) ∙ ap length fit.kinds in
    let locals : length (first_locals (slice_get code.functions f) args) ≡ length args + (length fit.function.locals - length args) =
    ap (λ (o : Option RawFunction). length (first_locals o args)) fit.found
    ∙ length-append args (map first_of_kind (drop (length args) fit.function.locals))
    ∙ ap (λ n. length args + n) (length-map (drop (length args) fit.function.locals) first_of_kind ∙ length-drop (length args) fit.function.locals) in
    (omega (arith, never_full code is none (opening code f args) safe, locals), omega arith)

pub begins : (code : RawParts) (f : ℕ) (args values : List Value) (heard : Heard) (s : Standing) → IsCode code → NoneBroken code → (fit : ArgsFit code f args) → values ≡ args ++ map first_of_kind (drop (length args) fit.function.locals) → s ≡ record { at = record { function = f; place = 0; base = 0; rooms = fit.function.room }; callers = []; values = values; heard = record { error = 0; sort = pos 0; text = []; goes_on = false }; count = 0; told = None } → Begins code f args s
unfolding moved
begins code f args values heard s is none fit e at = λ birth trail of_f of_args born led.
    let a : Active = record { function = f; place = 0; base = 0; rooms = fit.function.room } in
    let first : Heard = record { error = 0; sort = pos 0; text = []; goes_on = false } in
    let small = begin_room code f args is none fit in
    let counted : locals_of code f ≡ length fit.function.locals = ap locals_in fit.found in
    let long : length values ≡ length fit.function.locals =
    ap length e ∙ length-append args (map first_of_kind (drop (length args) fit.function.locals))
    ∙ omega (arith, length-map (drop (length args) fit.function.locals) first_of_kind, length-drop (length args) fit.function.locals, small.1) in
    let own : take (locals_of code f) values ≡ first_locals (slice_get code.functions f) args =
    ap (λ n. take n values) (counted ∙ sym long) ∙ take_all values ∙ e ∙ sym (ap (λ (o : Option RawFunction). first_locals o args) fit.found) in
    let zero_floor : 0 + locals_of code f ≡ length values = omega (arith, counted, long) in
    let none_left : reverse (drop (0 + locals_of code f) values) ≡ [] = ap reverse (ap (λ n. drop n values) zero_floor ∙ drop_all values) in
    let there : spelled code a [] values first ≡ opening code f args =
    ap (λ (l : List Value). machine l (reverse (drop (0 + locals_of code f) values))) own
    ∙ ap (λ (l : List Value). machine (first_locals (slice_get code.functions f) args) l) none_left in
    let safe : IsSafe code (opening code f args) = (never_stuck code is none).0 f fit.function args fit.found fit.kinds in
    let room : room_in (slice_get code.functions f) ≡ fit.function.room = ap room_in fit.found in
    let some : 0 < fit.function.room = room_some code is none f fit.function fit.found in
    let begun : HasMoved code trail 0 (record { at = a; callers = []; values = values; heard = first; count = 0; told = None }) =
    record {
      birth = birth;
      born = born;
      start = opening code f args;
      led = subst (λ (l : List Answer). Led code (opening code birth.function birth.args) l (opening code f args)) (sym led)
          (ap (λ (l : List Value). opening code f l) (sym of_args) ∙ ap (λ n. opening code n birth.args) (sym of_f));
      number = 0;
      steps = (refl, sym there);
      counted = refl;
      tells = tt;
      holds = record { safe = subst (IsSafe code) (sym there) safe; stacked = (omega arith, omega (arith, room), omega (arith, some), refl) };
    } in
    subst (λ (x : Standing). HasMoved code trail 0 x) (sym at) begun
  where
    machine : List Value → List Value → Machine
    machine locals operands = record { top = record { function = f; place = 0; locals = locals; operands = operands }; callers = []; error = 0; last = no_element; goes_on = false }

    take_all : (l : List Value) → take (length l) l ≡ l
    take_all [] = refl
    take_all (x ∷ l) = ap (λ (r : List Value). x ∷ r) (take_all l)

    drop_all : (l : List Value) → drop (length l) l ≡ []
    drop_all [] = refl
    drop_all (x ∷ l) = drop_all l

-- A task gets its answer

led_more : (code : RawParts) (answers : List Answer) (start m at : Machine) (k : ℕ) (q : Request) (answer : Answer) → Led code start answers m → Stands (next code) m k q at → Fits (cell_kinds code) q answer → Led code start (answers ++ answer ∷ []) (resume code at answer)
led_more code [] start m at k q answer led stands fit = (k, q, at, subst (λ (x : Machine). Stands (next code) x k q at) led stands, fit, refl)
led_more code (a ∷ answers) start m at k q answer led stands fit = (led.0, led.1, led.2, led.3, led.4, led_more code answers (resume code led.2 a) m at k q answer led.5 stands fit)

-- the operands that an answer replaces
record Answered (code : RawParts) (what : Instruction) (operands : List Value) (v : Value) : Type 0 where
  pub args : List Value
  pub rest : List Value
  pub split : operands ≡ reverse args ++ rest
  pub many : length args ≡ (behind what).taken
  pub left : answered (Some what) v operands ≡ Some (brought (behind what).gives v ++ rest)

answered_there : (code : RawParts) (what : Instruction) (m : Machine) (q : Request) (v : Value) → act code what m ≡ asks q → IsAskedBy what q → Answered code what m.top.operands v
answered_there code (does.ReadCell c) m q v e asked = record { args = []; rest = m.top.operands; split = refl; many = refl; left = refl }
answered_there code (does.WriteCell c) m q v e asked =
    let w = written_as code c m q e in
    record { args = w.0 ∷ []; rest = w.1; split = w.2; many = refl; left = ap (λ (l : List Value). Some (drop 1 l)) w.2 }
answered_there code (does.ReadAt k) m q v e asked =
    let w = read_array code (slice_get code.arrays k) m (subst HasRoom (sym e) tt) in
    record { args = Int w.1 ∷ []; rest = w.2; split = w.4; many = refl; left = ap (λ (l : List Value). Some (v ∷ drop 1 l)) w.4 }
answered_there code (does.WriteAt k) m q v e asked =
    let w = write_array code (slice_get code.arrays k) m (subst HasRoom (sym e) tt) in
    record { args = Int w.2 ∷ w.1 ∷ []; rest = w.3; split = w.5; many = refl; left = ap (λ (l : List Value). Some (drop 2 l)) w.5 }
answered_there code (does.Ask name) m q v e asked =
    let k : ℕ = length (shared_takes name) in
    let w = several_there (shared_takes name) (λ args operands. asks (request_of name args)) m.top.operands (subst HasRoom (sym e) tt) in
    record {
      args = reverse (take k m.top.operands);
      rest = drop k m.top.operands;
      split = sym (take-append-drop k m.top.operands) ∙ ap (λ (l : List Value). l ++ drop k m.top.operands) (sym (reverse-reverse (take k m.top.operands)));
      many = length-reverse (take k m.top.operands) ∙ w.0;
      left = refl;
    }
answered_there code _ m q v e asked = absurd asked

-- the stack behind it
brought_over : (fl : ℕ) (values rest : List Value) (b : Bool) (v : Value) → (take fl values ++ reverse rest) ++ brought b v ≡ take fl values ++ reverse (brought b v ++ rest)
brought_over fl values rest true v = above fl values rest v
brought_over fl values rest false v = append-nil (take fl values ++ reverse rest)

brought_many : (b : Bool) (v : Value) (rest : List Value) → length (brought b v ++ rest) ≡ length (brought b v) + length rest
brought_many true v rest = omega arith
brought_many false v rest = omega arith

-- what the answer does to the machine
pub record AfterAnswer (code : RawParts) (s : Standing) (b : Behind) (answer : Answer) : Type 0 where
  pub low : List Value
  pub high : List Value
  pub split : s.values ≡ low ++ high
  pub many : length high ≡ b.taken
  pub room : length low + length (brought b.gives answer.value) ≤ MOST_ROOM
  pub leads : (s' : Standing) → s'.at ≡ next_place s.at → s'.callers ≡ s.callers → s'.values ≡ low ++ brought b.gives answer.value → s'.heard.error ≡ error_kept answer.code s.heard.error → record { sort = s'.heard.sort; text = s'.heard.text } ≡ last_after answer.extra (record { sort = s.heard.sort; text = s.heard.text }) → s'.heard.goes_on ≡ s.heard.goes_on → (machine_of code s' ≡ resume code (machine_of code s) answer) × AreStacked code (s'.at ∷ s'.callers) (length s'.values)

after_answer : (code : RawParts) (s : Standing) (b : Behind) (q : Request) (answer : Answer) → IsCode code → NoneBroken code → Holds code s.at s.callers s.values s.heard → (t : StandsAsking code (machine_of code s)) → b ≡ behind_at (instruction_at code (machine_of code s)) → next code (machine_of code s) ≡ asks q → Fits (cell_kinds code) q answer → AfterAnswer code s b answer
after_answer code s b q answer is none holds t is_b asks_it fit =
    let m : Machine = machine_of code s in
    let fl : ℕ = floor code s.at in
    let move : act code t.what m ≡ asks t.request = sym (next_is code m t.what t.found) ∙ t.asks_it in
    let w = answered_there code t.what m t.request answer.value move t.asked in
    let same : b ≡ behind t.what = is_b ∙ ap behind_at t.found in
    let low : List Value = take fl s.values ++ reverse w.rest in
    let over : length low ≡ fl + length w.rest = length_over fl s.values w.rest holds.stacked.0 in
    let ops : List Value = brought (behind t.what).gives answer.value ++ w.rest in
    let given_ops : brought b.gives answer.value ≡ brought (behind t.what).gives answer.value = ap (λ (x : Behind). brought x.gives answer.value) same in
    let behind_it : resume code m answer ≡ record (on ops m) { error = error_kept answer.code m.error; last = last_after answer.extra m.last } =
    ap (λ (o : Option Instruction). record (resumed (answered o answer.value m.top.operands) m) { error = error_kept answer.code m.error; last = last_after answer.extra m.last }) t.found
    ∙ ap (λ (o : Option (List Value)). record (resumed o m) { error = error_kept answer.code m.error; last = last_after answer.extra m.last }) w.left in
    let safe : IsSafe code (resume code m answer) = answers_keep code is none m q answer holds.safe asks_it fit in
    let all : List Value = take fl s.values ++ reverse ops in
    let stacked : AreStacked code (next_place s.at ∷ s.callers) (length all) = (omega (arith, length_over fl s.values ops holds.stacked.0), holds.stacked.1, holds.stacked.2, holds.stacked.3) in
    let count : values_held ((on ops m).top ∷ m.callers) ≡ length all =
    ap (λ (x : Machine). values_held (x.top ∷ x.callers)) (sym (spelled_over code s.at s.callers s.values ops s.heard (s.at.place + 1) holds.stacked.0)) ∙ held code (next_place s.at) s.callers all s.heard stacked in
    let few : values_held ((on ops m).top ∷ m.callers) ≤ MOST_ROOM =
    let whole = never_full code is none (resume code m answer) safe in
    let there : values_held ((resume code m answer).top ∷ (resume code m answer).callers) ≡ values_held ((on ops m).top ∷ m.callers) = ap (λ (x : Machine). values_held (x.top ∷ x.callers)) behind_it in
    omega (arith, whole, there) in
    record {
      low = low;
      high = w.args;
      split = below fl s.values (reverse w.args) w.rest w.split ∙ ap (λ (l : List Value). low ++ l) (reverse-reverse w.args);
      many = w.many ∙ ap (λ (x : Behind). x.taken) (sym same);
      room = omega (arith, over, count, few, ap (λ (l : List Value). length l) given_ops, length_over fl s.values ops holds.stacked.0, brought_many (behind t.what).gives answer.value w.rest);
      leads = λ s' at callers values error last goes_on.
          let here : s'.values ≡ all = values ∙ ap (λ (l : List Value). low ++ l) given_ops ∙ brought_over fl s.values w.rest (behind t.what).gives answer.value in (
            ap (λ (a : Active). spelled code a s'.callers s'.values s'.heard) at
                ∙ ap (λ (l : List Active). spelled code (next_place s.at) l s'.values s'.heard) callers
                ∙ ap (λ (l : List Value). spelled code (next_place s.at) s.callers l s'.heard) here
                ∙ spelled_over code s.at s.callers s.values ops s'.heard (s.at.place + 1) holds.stacked.0
                ∙ ap (λ n. machine ((on ops m).top) m.callers n (record { sort = s'.heard.sort; text = s'.heard.text }) s'.heard.goes_on) error
                ∙ ap (λ (x : Element). machine ((on ops m).top) m.callers (error_kept answer.code m.error) x s'.heard.goes_on) last
                ∙ ap (λ g. machine ((on ops m).top) m.callers (error_kept answer.code m.error) (last_after answer.extra m.last) g) goes_on
                ∙ sym behind_it,
            subst (λ (a : Active). AreStacked code (a ∷ s'.callers) (length s'.values)) (sym at)
                (subst (λ (l : List Active). AreStacked code (next_place s.at ∷ l) (length s'.values)) (sym callers)
                (subst (λ (l : List Value). AreStacked code (next_place s.at ∷ s.callers) (length l)) (sym here) stacked)),
          );
    }
  where
    machine : Frame → List Frame → ℕ → Element → Bool → Machine
    machine top callers error last goes_on = record { top = top; callers = callers; error = error; last = last; goes_on = goes_on }

abbrev asking : Request → Next Machine Request
asking x = asks x

same_request : (x y : Request) → asking x ≡ asking y → x ≡ y
same_request x y h = cc h

-- what must be known of the machine before
pub after_told : (code : RawParts) (trail : Trail) (ticks : ℕ) (s : Standing) (b : Behind) (q : Request) (answer : Answer) → IsCode code → NoneBroken code → moved code trail ticks s → s.told ≡ Some b → next code (machine_of code s) ≡ asks q → Fits (cell_kinds code) q answer → AfterAnswer code s b answer
unfolding moved
after_told code trail ticks s b q answer is none h told asks_it fit =
    let tells : Tells code (Some b) (machine_of code s) = subst (λ (o : Option Behind). Tells code o (machine_of code s)) told h.tells in
    ⊎_elim
    (λ t. after_answer code s b q answer is none h.holds t tells.0 asks_it fit)
    (λ ended. absurd (subst (λ (x : Request). Fits (cell_kinds code) x answer) (same_request q (requests.End ended.0) (sym asks_it ∙ ended.1)) fit))
    tells.1

pub place_small : (code : RawParts) (trail : Trail) (ticks : ℕ) (s : Standing) → IsCode code → moved code trail ticks s → s.at.place + 1 < 4294967296
unfolding moved
place_small code trail ticks s is h =
    let t = stands_in code s.at s.callers s.values s.heard is h.holds in
    omega (arith, t.2, t.3)

pub resumes : (code : RawParts) (trail trail' : Trail) (ticks : ℕ) (s s' : Standing) (b : Behind) (q : Request) (answer : Answer) → IsCode code → NoneBroken code → moved code trail ticks s → next code (machine_of code s) ≡ asks q → Fits (cell_kinds code) q answer → trail'.birth ≡ trail.birth → trail'.answers ≡ trail.answers ++ answer ∷ [] → (machine_of code s' ≡ resume code (machine_of code s) answer) × AreStacked code (s'.at ∷ s'.callers) (length s'.values) → s'.count ≡ 0 → s'.told ≡ None → moved code trail' 0 s'
unfolding moved
resumes code trail trail' ticks s s' b q answer is none h asks_it fit born answers leads count told = record {
  birth = h.birth;
  born = born ∙ h.born;
  start = resume code (machine_of code s) answer;
  led = subst (λ (l : List Answer). Led code (opening code h.birth.function h.birth.args) l (resume code (machine_of code s) answer)) (sym answers)
      (led_more code trail.answers (opening code h.birth.function h.birth.args) h.start (machine_of code s) ticks q answer h.led ((h.number, h.steps), asks_it) fit);
  number = 0;
  steps = (refl, sym leads.0);
  counted = count;
  tells = subst (λ (o : Option Behind). Tells code o (machine_of code s')) (sym told) tt;
  holds = record { safe = subst (IsSafe code) (sym leads.0) (answers_keep code is none (machine_of code s) q answer h.holds.safe asks_it fit); stacked = leads.1 };
}

-- The same from what a function has at hand

pub out_of_ticks_here : (code parts : RawParts) (trail : Trail) (before used ticks : ℕ) (s0 s s' : Standing) → parts ≡ code → s0 ≡ s → moved code trail before s → Runs parts (machine_of parts s0) used (machine_of parts s') s0.count s'.count → Holds parts s'.at s'.callers s'.values s'.heard → s'.told ≡ None → Stops parts went.Tick (machine_of parts s') used ticks → Paused code trail before ticks (pauses.OutOfTicks used) s'
out_of_ticks_here code parts trail before used ticks s0 s s' same view h r holds none stops =
    let there : moved parts trail before s0 = subst (λ (p : RawParts). moved p trail before s0) (sym same) (subst (λ (x : Standing). moved code trail before x) (sym view) h) in
    subst (λ (p : RawParts). Paused p trail before ticks (pauses.OutOfTicks used) s') same (out_of_ticks parts trail before used ticks s0 s' there r holds none stops)

pub asks_here : (code parts : RawParts) (trail : Trail) (before used ticks : ℕ) (s0 s s' : Standing) (q : Request) → parts ≡ code → s0 ≡ s → moved code trail before s → Runs parts (machine_of parts s0) used (machine_of parts s') s0.count s'.count → Holds parts s'.at s'.callers s'.values s'.heard → used ≤ ticks → s'.told ≡ Some (behind_at (instruction_at parts (machine_of parts s'))) → (StandsAsking parts (machine_of parts s') ⊎ ((c : ℕ) × (next parts (machine_of parts s') ≡ asks (requests.End c)))) → next parts (machine_of parts s') ≡ asks q → IsMade parts q → Paused code trail before ticks (pauses.Asks q used) s'
asks_here code parts trail before used ticks s0 s s' q same view h r holds within told stands asks_it made =
    let there : moved parts trail before s0 = subst (λ (p : RawParts). moved p trail before s0) (sym same) (subst (λ (x : Standing). moved code trail before x) (sym view) h) in
    subst (λ (p : RawParts). Paused p trail before ticks (pauses.Asks q used) s') same (asks_pause parts trail before used ticks s0 s' q there r holds within told stands asks_it made)

pub held_here : (code parts : RawParts) (trail : Trail) (before : ℕ) (s0 s : Standing) → parts ≡ code → s0 ≡ s → moved code trail before s → Holds parts s0.at s0.callers s0.values s0.heard
held_here code parts trail before s0 s same view h =
    held_of parts trail before s0 (subst (λ (p : RawParts). moved p trail before s0) (sym same) (subst (λ (x : Standing). moved code trail before x) (sym view) h))

pub told_here : (code : RawParts) (m : Machine) (what : Instruction) (b : Behind) → instruction_at code m ≡ Some what → b ≡ behind what → Some b ≡ Some (behind_at (instruction_at code m))
told_here code m what b e is = ap (λ (x : Behind). Some x) (is ∙ ap behind_at (sym e))

-- what a task begins with, from the code that a function has at hand
pub fit_here : (code parts : RawParts) (f : ℕ) (args : List Value) → parts ≡ code → ArgsFit code f args → ArgsFit parts f args
fit_here code parts f args same fit = subst (λ (p : RawParts). ArgsFit p f args) (sym same) fit

pub same_entered : (parts : RawParts) (f : ℕ) (args : List Value) (function : RawFunction) → (fit : ArgsFit parts f args) → slice_get parts.functions f ≡ Some function → function ≡ fit.function
same_entered parts f args function fit found = some_same function fit.function (sym found ∙ fit.found)
  where
    some_same : (g h : RawFunction) → Some g ≡ Some h → g ≡ h
    some_same g h e = cc e

pub begins_here : (code parts : RawParts) (f : ℕ) (args values : List Value) (function : RawFunction) (s : Standing) → parts ≡ code → IsCode parts → NoneBroken parts → ArgsFit code f args → slice_get parts.functions f ≡ Some function → values ≡ args ++ map first_of_kind (drop (length args) function.locals) → s ≡ record { at = record { function = f; place = 0; base = 0; rooms = function.room }; callers = []; values = values; heard = record { error = 0; sort = pos 0; text = []; goes_on = false }; count = 0; told = None } → Begins code f args s
begins_here code parts f args values function s same is none fit found e at =
    let fits : ArgsFit parts f args = fit_here code parts f args same fit in
    let one : function ≡ fits.function = same_entered parts f args function fits found in
    subst (λ (p : RawParts). Begins p f args s) same
    (begins parts f args values (record { error = 0; sort = pos 0; text = []; goes_on = false }) s is none fits
    (e ∙ ap (λ (g : RawFunction). args ++ map first_of_kind (drop (length args) g.locals)) one)
    (at ∙ ap (λ (g : RawFunction). standing g) one))
  where
    standing : RawFunction → Standing
    standing g = record { at = record { function = f; place = 0; base = 0; rooms = g.room }; callers = []; values = values; heard = record { error = 0; sort = pos 0; text = []; goes_on = false }; count = 0; told = None }
