-- A function is called, and gives its value.
use Rattle.std.proofs.Common.{◌≡◌, ℕ, suc, ◌+◌, ◌-◌, ◌<◌, ◌≤◌, Bool, true, false, List, [], ◌∷◌, ◌++◌, length, take, drop, reverse, map, Option, Some, None, refl, sym, ap, ◌∙◌, subst, arith, length-append, append_assoc}
use Rattle.std.specs.Prelude.{slice_get, nat_le, ◌&&◌}
use Rattle.std.proofs.Math.Seq.{take-append_seam, drop-append_seam}
use Rattle.std.proofs.lemmas.List.{length-reverse, length-take, length-take-le, length-drop, length-map, reverse-reverse, take-append-drop}
use Rattle.ci_base.specs.declared.bounds.TheConstants.{MOST_ROOM}
use Rattle.ci_base.specs.declared.layout.Head.{Head}
use Rattle.ci_base.specs.declared.value.Kind.{Kind}
use Rattle.ci_base.specs.declared.value.Value.{Value}
use Rattle.ci_base.specs.Steps.{quiet}
use Rattle.ci_base.specs.Values.{first_of_kind}
use Rattle.ci_code.specs.declared.instruction.Instruction.TheVariants as does
use Rattle.ci_code.specs.declared.raw.RawFunction.{RawFunction}
use Rattle.ci_code.specs.declared.raw.RawParts.{RawParts}
use Rattle.ci_code.specs.Code.{IsCode}
use Rattle.ci_code.specs.Machine.{act, called, entered_if, ended, given, returned, rooms, room_in, running}
use Rattle.ci_code.specs.Moves.{Frame, Machine, Move, one, only_if, several, are_of, is_of, value_kind, locals_with, parameters_of, parameters_in}
use Rattle.ci_verify.specs.Rules.{NoneBroken}
use Rattle.ci_verify.proofs.Between.{sound}
use Rattle.ci_task.specs.declared.active.Active.{Active}
use Rattle.ci_task.specs.declared.heard.Heard.{Heard}
use Rattle.ci_task.specs.declared.went.Went.TheVariants as went
use Rattle.ci_task.specs.Spelled.{locals_in, locals_of, floor, frames_of, spelled, AreStacked}
use Rattle.ci_task.specs.Going.{HasRoom, next_place, CanNow, Leads}
use Rattle.ci_task.proofs.Operands.{below, above, from_floor, length_over, frame_over, under_over, spelled_over, rooms_frames, held}
use Rattle.ci_task.proofs.Acts.{one_there, only_there}

-- each function has room
pub room_some : (code : RawParts) → IsCode code → NoneBroken code → (f : ℕ) (function : RawFunction) → slice_get code.functions f ≡ Some function → 0 < function.room
room_some code is none f function e =
    let (head, good) = sound code is none f function e in
    (good.fine 0 good.empty.step [] good.empty.at).roomy.some

-- how many values have these kinds
are_many : (ks : List Kind) (values : List Value) → are_of ks values ≡ true → length values ≡ length ks
are_many [] [] h = refl
are_many [] (v ∷ values) h = absurd (cc h)
are_many (k ∷ ks) [] h = absurd (cc h)
are_many (k ∷ ks) (v ∷ values) h = by (is_of k v) (λ e. are_many ks values e) h
  where
    by : (b : Bool) → (are_of ks values ≡ true → length values ≡ length ks) → b && are_of ks values ≡ true → length (v ∷ values) ≡ length (k ∷ ks)
    by true again e = ap suc (again e)
    by false again e = absurd (cc e)

-- so many operands are there
pub several_there : (ks : List Kind) (go : List Value → List Value → Move) (operands : List Value) → HasRoom (several ks go operands) → (length (take (length ks) operands) ≡ length ks) × (several ks go operands ≡ go (reverse (take (length ks) operands)) (drop (length ks) operands))
several_there ks go operands room =
    let args : List Value = reverse (take (length ks) operands) in
    let good : are_of ks args ≡ true = only_there (are_of ks args) (go args (drop (length ks) operands)) room in
    (sym (length-reverse (take (length ks) operands)) ∙ are_many ks args good, ap (λ b. only_if b (go args (drop (length ks) operands))) good)

-- The call

called_there : (code : RawParts) (o : Option RawFunction) (f : ℕ) (m : Machine) → HasRoom (called code o f m) → (function : RawFunction) × (o ≡ Some function)
called_there code (Some function) f m room = (function, refl)
called_there code None f m room = absurd room

-- what a call meets: the function, and its arguments on top
pub record Called (code : RawParts) (f : ℕ) (a : Active) (callers : List Active) (values : List Value) (heard : Heard) : Type 0 where
  pub function : RawFunction
  pub found : slice_get code.functions f ≡ Some function
  pub args : List Value
  pub rest : List Value
  pub many : length args ≡ length (parameters_of code f)
  pub operands : reverse (drop (floor code a) values) ≡ reverse args ++ rest
  pub move : act code (does.Call f) (spelled code a callers values heard) ≡ entered_if (nat_le (function.room + a.rooms) MOST_ROOM) f function args rest (spelled code a callers values heard)

pub call_there : (code : RawParts) (f : ℕ) (a : Active) (callers : List Active) (values : List Value) (heard : Heard) → CanNow code (does.Call f) a callers values heard → Called code f a callers values heard
call_there code f a callers values heard can =
    let m : Machine = spelled code a callers values heard in
    let (function, found) = called_there code (slice_get code.functions f) f m can.1 in
    let go : List Value → List Value → Move = λ args operands. entered_if (nat_le (function.room + rooms code (m.top ∷ m.callers)) MOST_ROOM) f function args operands m in
    let acts : act code (does.Call f) m ≡ several (parameters_of code f) go m.top.operands = ap (λ (o : Option RawFunction). called code o f m) found in
    let there = several_there (parameters_of code f) go m.top.operands (subst HasRoom acts can.1) in
    let k : ℕ = length (parameters_of code f) in
    let same : rooms code (m.top ∷ m.callers) ≡ a.rooms = rooms_frames code (a ∷ callers) values ∙ sym can.0.1 in
    record {
      function = function;
      found = found;
      args = reverse (take k m.top.operands);
      rest = drop k m.top.operands;
      many = length-reverse (take k m.top.operands) ∙ there.0;
      operands = sym (take-append-drop k m.top.operands) ∙ ap (λ (l : List Value). l ++ drop k m.top.operands) (sym (reverse-reverse (take k m.top.operands)));
      move = acts ∙ there.1 ∙ ap (λ n. entered_if (nat_le (function.room + n) MOST_ROOM) f function (reverse (take k m.top.operands)) (drop k m.top.operands) m) same;
    }

-- the parameters are among the locals
pub parameters_few : (code : RawParts) (f : ℕ) (function : RawFunction) → IsCode code → slice_get code.functions f ≡ Some function → length (parameters_of code f) ≤ length function.locals
parameters_few code f function is e = by (slice_get code.layout.functions f) refl
  where
    by : (o : Option Head) → slice_get code.layout.functions f ≡ o → length (parameters_in o) ≤ length function.locals
    by None at = omega arith
    by (Some head) at =
        let front : take (length head.kinds) function.locals ≡ head.kinds = is.parameters f head function at e in
        omega (arith, ap length front, length-take (length head.kinds) function.locals)

-- where the function stands that is entered
abbrev pub entered : ℕ → RawFunction → Active → ℕ → Active
entered f function a base = record { function = f; place = 0; base = base; rooms = a.rooms + function.room }

pub call_leads : (code : RawParts) (f : ℕ) (a : Active) (callers : List Active) (values values' : List Value) (heard : Heard) → IsCode code → NoneBroken code → CanNow code (does.Call f) a callers values heard → (c : Called code f a callers values heard) → c.function.room + a.rooms ≤ MOST_ROOM → values' ≡ values ++ map first_of_kind (drop (length (parameters_of code f)) c.function.locals) → Leads code (does.Call f) a callers values heard went.On (entered f c.function a (length values - length (parameters_of code f))) (next_place a ∷ callers) values' heard
call_leads code f a callers values values' heard is none can c roomy e =
    let m : Machine = spelled code a callers values heard in
    let k : ℕ = length (parameters_of code f) in
    let fl : ℕ = floor code a in
    let firsts : List Value = map first_of_kind (drop k c.function.locals) in
    let low : List Value = take fl values ++ reverse c.rest in
    let split : values ≡ low ++ c.args = below fl values (reverse c.args) c.rest c.operands ∙ ap (λ (l : List Value). low ++ l) (reverse-reverse c.args) in
    let few : k ≤ length c.function.locals = parameters_few code f c.function is c.found in
    let wide : length firsts ≡ length c.function.locals - k = length-map (drop k c.function.locals) first_of_kind ∙ length-drop k c.function.locals in
    let long : length values ≡ length low + k = ap length split ∙ length-append low c.args ∙ ap (λ n. length low + n) c.many in
    let base : ℕ = length values - k in
    let at_base : base ≡ length low = omega arith in
    let all : values' ≡ low ++ (c.args ++ firsts) = e ∙ ap (λ (l : List Value). l ++ firsts) split ∙ append_assoc low c.args firsts in
    let entry : Active = entered f c.function a base in
    let counted : locals_of code f ≡ length c.function.locals = ap locals_in c.found in
    let total : length (c.args ++ firsts) ≡ length c.function.locals = length-append c.args firsts ∙ omega (arith, c.many, wide, few) in
    let front : take base values' ≡ low = ap (λ (l : List Value). take base l) all ∙ ap (λ n. take n (low ++ (c.args ++ firsts))) at_base ∙ take-append_seam low (c.args ++ firsts) in
    let back : drop base values' ≡ c.args ++ firsts = ap (λ (l : List Value). drop base l) all ∙ ap (λ n. drop n (low ++ (c.args ++ firsts))) at_base ∙ drop-append_seam low (c.args ++ firsts) in
    let locals : take (locals_of code f) (drop base values') ≡ locals_with c.function c.args =
    ap (λ n. take n (drop base values')) (counted ∙ sym total) ∙ ap (take (length (c.args ++ firsts))) back ∙ take_all (c.args ++ firsts)
    ∙ ap (λ n. c.args ++ map first_of_kind (drop n c.function.locals)) (sym c.many) in
    let long' : length values' ≡ base + locals_of code f = ap length all ∙ length-append low (c.args ++ firsts) ∙ omega (arith, total, counted, at_base) in
    let none_left : reverse (drop (base + locals_of code f) values') ≡ [] = ap reverse (ap (λ n. drop n values') (sym long') ∙ drop_all values') in
    let below_it : frames_of code (next_place a ∷ callers) low ≡ record { function = m.top.function; place = m.top.place + 1; locals = m.top.locals; operands = c.rest } ∷ m.callers =
    ap (λ (fr : Frame). fr ∷ frames_of code callers (take a.base low)) (frame_over code a values c.rest (a.place + 1) can.0.0)
    ∙ ap (λ (l : List Value). record { function = m.top.function; place = m.top.place + 1; locals = m.top.locals; operands = c.rest } ∷ frames_of code callers l) (under_over code a values c.rest can.0.0) in
    let there : spelled code entry (next_place a ∷ callers) values' heard ≡ machine (record { function = f; place = 0; locals = locals_with c.function c.args; operands = [] }) (record { function = m.top.function; place = m.top.place + 1; locals = m.top.locals; operands = c.rest } ∷ m.callers) heard =
    ap (λ (l : List Value). machine (record { function = f; place = 0; locals = l; operands = reverse (drop (base + locals_of code f) values') }) (frames_of code (next_place a ∷ callers) (take base values')) heard) locals
    ∙ ap (λ (l : List Value). machine (record { function = f; place = 0; locals = locals_with c.function c.args; operands = l }) (frames_of code (next_place a ∷ callers) (take base values')) heard) none_left
    ∙ ap (λ (l : List Value). machine (record { function = f; place = 0; locals = locals_with c.function c.args; operands = [] }) (frames_of code (next_place a ∷ callers) l) heard) front
    ∙ ap (λ (l : List Frame). machine (record { function = f; place = 0; locals = locals_with c.function c.args; operands = [] }) l heard) below_it in
    let own_room : room_in (slice_get code.functions f) ≡ c.function.room = ap room_in c.found in
    let some_room : 0 < c.function.room = room_some code is none f c.function c.found in
    let over : length low ≡ fl + length c.rest = length_over fl values c.rest can.0.0 in (
      c.move ∙ ap (λ b. entered_if b f c.function c.args c.rest m) (enough (c.function.room + a.rooms) roomy) ∙ ap (λ (x : Machine). quiet x) (sym there),
      (omega (arith, long'), omega (arith, own_room, can.0.1), omega (arith, can.0.2, some_room), (omega (arith, at_base, over), can.0.1, can.0.2, can.0.3)),
    )
  where
    machine : Frame → List Frame → Heard → Machine
    machine top callers heard = record { top = top; callers = callers; error = heard.error; last = record { sort = heard.sort; text = heard.text }; goes_on = heard.goes_on }

    enough : (n : ℕ) → n ≤ MOST_ROOM → nat_le n MOST_ROOM ≡ true
    enough n h = by (nat_le n MOST_ROOM) refl
      where
        by : (b : Bool) → nat_le n MOST_ROOM ≡ b → b ≡ true
        by true e = refl
        by false e = absurd (grind (arith, e, h))

    take_all : (l : List Value) → take (length l) l ≡ l
    take_all [] = refl
    take_all (x ∷ l) = ap (λ (r : List Value). x ∷ r) (take_all l)

    drop_all : (l : List Value) → drop (length l) l ≡ []
    drop_all [] = refl
    drop_all (x ∷ l) = drop_all l

pub call_ends : (code : RawParts) (f : ℕ) (a : Active) (callers : List Active) (values : List Value) (heard : Heard) → CanNow code (does.Call f) a callers values heard → (c : Called code f a callers values heard) → MOST_ROOM < c.function.room + a.rooms → Leads code (does.Call f) a callers values heard (went.Ends 12) a callers values heard
call_ends code f a callers values heard can c full =
    ((c.move ∙ ap (λ b. entered_if b f c.function c.args c.rest (spelled code a callers values heard)) (too_much (c.function.room + a.rooms) full), refl), can.0)
  where
    too_much : (n : ℕ) → MOST_ROOM < n → nat_le n MOST_ROOM ≡ false
    too_much n h = by (nat_le n MOST_ROOM) refl
      where
        by : (b : Bool) → nat_le n MOST_ROOM ≡ b → b ≡ false
        by true e = absurd (grind (arith, e, h))
        by false e = refl

-- The value

ended_there : (code : RawParts) (o : Option RawFunction) (m : Machine) → HasRoom (ended o m) → (function : RawFunction) × (v : Value) × (rest : List Value) × (o ≡ Some function) × (m.top.operands ≡ v ∷ rest) × (ended o m ≡ returned (given function.gives v) m.callers m)
ended_there code None m room = absurd room
ended_there code (Some function) m room =
    let go : Value → List Value → Move = λ v operands. only_if (is_of (value_kind function) v) (returned (given function.gives v) m.callers m) in
    let t = one_there go m.top.operands room in
    let acts : one go m.top.operands ≡ go t.0 t.1 = ap (λ (l : List Value). one go l) t.2 in
    let good : is_of (value_kind function) t.0 ≡ true = only_there (is_of (value_kind function) t.0) (returned (given function.gives t.0) m.callers m) (subst HasRoom acts room) in
    (function, t.0, t.1, refl, t.2, acts ∙ ap (λ b. only_if b (returned (given function.gives t.0) m.callers m)) good)

-- what a return meets: the value on top
pub record Ended (code : RawParts) (a : Active) (callers : List Active) (values : List Value) (heard : Heard) (function : RawFunction) : Type 0 where
  pub v : Value
  pub low : List Value
  pub split : values ≡ low ++ v ∷ []
  pub over : floor code a ≤ length low
  pub front : take a.base low ≡ take a.base values
  pub move : act code does.Return (spelled code a callers values heard) ≡ returned (given function.gives v) (frames_of code callers (take a.base values)) (spelled code a callers values heard)

pub ended_at : (code : RawParts) (a : Active) (callers : List Active) (values : List Value) (heard : Heard) (function : RawFunction) → slice_get code.functions a.function ≡ Some function → CanNow code does.Return a callers values heard → Ended code a callers values heard function
ended_at code a callers values heard function here can =
    let m : Machine = spelled code a callers values heard in
    let t = ended_there code (running code m) m can.1 in
    let same : t.0 ≡ function = some_same t.0 function (sym t.3 ∙ here) in
    record {
      v = t.1;
      low = take (floor code a) values ++ reverse t.2;
      split = below (floor code a) values (t.1 ∷ []) t.2 t.4;
      over = omega (arith, length_over (floor code a) values t.2 can.0.0);
      front = under_over code a values t.2 can.0.0;
      move = t.5 ∙ ap (λ (g : RawFunction). returned (given g.gives t.1) m.callers m) same;
    }
  where
    some_same : (f g : RawFunction) → Some f ≡ Some g → f ≡ g
    some_same f g h = cc h

pub gives_leads : (code : RawParts) (a b : Active) (callers : List Active) (values values' : List Value) (heard : Heard) (function : RawFunction) → AreStacked code (a ∷ b ∷ callers) (length values) → (e : Ended code a (b ∷ callers) values heard function) → values' ≡ take a.base values ++ given function.gives e.v ∷ [] → Leads code does.Return a (b ∷ callers) values heard went.On b callers values' heard
gives_leads code a b callers values values' heard function s e is =
    let m : Machine = spelled code a (b ∷ callers) values heard in
    let under : List Value = take a.base values in
    let v : Value = given function.gives e.v in
    let high : length under ≡ a.base = length-take-le a.base values (omega (arith, s.0)) in
    let inside : floor code b ≤ length under = omega (arith, high, s.3.0) in
    let ops : List Value = reverse (drop (floor code b) under) in
    let all : values' ≡ take (floor code b) under ++ reverse (v ∷ ops) =
    is ∙ ap (λ (l : List Value). l ++ v ∷ []) (from_floor (floor code b) under ops refl) ∙ above (floor code b) under ops v in
    let there : spelled code b callers values' heard ≡ record (spelled code b callers under heard) { top = record { function = b.function; place = b.place; locals = take (locals_of code b.function) (drop b.base under); operands = v ∷ ops } } =
    ap (λ (l : List Value). spelled code b callers l heard) all ∙ spelled_over code b callers under (v ∷ ops) heard b.place inside in
    (e.move ∙ ap (λ (x : Machine). quiet x) (sym there), (omega (arith, ap length all, length_over (floor code b) under (v ∷ ops) inside), s.3.1, s.3.2, s.3.3))

pub gives_ends : (code : RawParts) (a : Active) (values : List Value) (heard : Heard) (function : RawFunction) → AreStacked code (a ∷ []) (length values) → Ended code a [] values heard function → Leads code does.Return a [] values heard (went.Ends 0) a [] values heard
gives_ends code a values heard function s e = ((e.move, refl), s)

-- there is room for its locals
pub call_fits : (code : RawParts) (f : ℕ) (a : Active) (callers : List Active) (values : List Value) (heard : Heard) → IsCode code → NoneBroken code → CanNow code (does.Call f) a callers values heard → (c : Called code f a callers values heard) → c.function.room + a.rooms ≤ MOST_ROOM → length values + length (drop (length (parameters_of code f)) c.function.locals) ≤ MOST_ROOM
call_fits code f a callers values heard is none can c roomy =
    let firsts : List Value = map first_of_kind (drop (length (parameters_of code f)) c.function.locals) in
    let entry : Active = entered f c.function a (length values - length (parameters_of code f)) in
    let leads = call_leads code f a callers values (values ++ firsts) heard is none can c roomy refl in
    let there : HasRoom (quiet (spelled code entry (next_place a ∷ callers) (values ++ firsts) heard)) = subst HasRoom leads.0 can.1 in
    omega (arith, there, held code entry (next_place a ∷ callers) (values ++ firsts) heard leads.1, length-append values firsts, length-map (drop (length (parameters_of code f)) c.function.locals) first_of_kind)

pub args_there : (code : RawParts) (f : ℕ) (a : Active) (callers : List Active) (values : List Value) (heard : Heard) → (c : Called code f a callers values heard) → length (parameters_of code f) ≤ length values
args_there code f a callers values heard c =
    omega (arith, ap length (below (floor code a) values (reverse c.args) c.rest c.operands), length-append (take (floor code a) values ++ reverse c.rest) (reverse (reverse c.args)), length-reverse (reverse c.args), length-reverse c.args, c.many)

pub same_function : (f g : RawFunction) → Some f ≡ Some g → f ≡ g
same_function f g h = cc h

-- the call as it was made
pub call_done : (code : RawParts) (f : ℕ) (a : Active) (callers callers' : List Active) (values values' : List Value) (heard : Heard) (function : RawFunction) (k base rooms : ℕ) → IsCode code → NoneBroken code → CanNow code (does.Call f) a callers values heard → slice_get code.functions f ≡ Some function → function.room + a.rooms ≤ MOST_ROOM → k ≡ length (parameters_of code f) → base ≡ length values - k → rooms ≡ a.rooms + function.room → callers' ≡ next_place a ∷ callers → values' ≡ values ++ map first_of_kind (drop k function.locals) → Leads code (does.Call f) a callers values heard went.On (record { function = f; place = 0; base = base; rooms = rooms }) callers' values' heard
call_done code f a callers callers' values values' heard function k base rooms is none can found roomy ek eb er ec ev =
    let c = call_there code f a callers values heard can in
    let same : function ≡ c.function = same_function function c.function (sym found ∙ c.found) in
    let wide : c.function.room + a.rooms ≤ MOST_ROOM = subst (λ (g : RawFunction). g.room + a.rooms ≤ MOST_ROOM) same roomy in
    let values_are : values' ≡ values ++ map first_of_kind (drop (length (parameters_of code f)) c.function.locals) = ev ∙ ap (λ n. values ++ map first_of_kind (drop n function.locals)) ek ∙ ap (λ (g : RawFunction). values ++ map first_of_kind (drop (length (parameters_of code f)) g.locals)) same in
    let base_is : length values - length (parameters_of code f) ≡ base = sym (eb ∙ ap (λ n. length values - n) ek) in
    let rooms_are : a.rooms + c.function.room ≡ rooms = sym (er ∙ ap (λ (g : RawFunction). a.rooms + g.room) same) in
    let leads = call_leads code f a callers values values' heard is none can c wide values_are in
    subst (λ (l : List Active). Leads code (does.Call f) a callers values heard went.On (record { function = f; place = 0; base = base; rooms = rooms }) l values' heard) (sym ec)
    (subst (λ n. Leads code (does.Call f) a callers values heard went.On (record { function = f; place = 0; base = base; rooms = n }) (next_place a ∷ callers) values' heard) rooms_are
    (subst (λ n. Leads code (does.Call f) a callers values heard went.On (record { function = f; place = 0; base = n; rooms = a.rooms + c.function.room }) (next_place a ∷ callers) values' heard) base_is leads))

-- the value handed over
pub give_done : (code : RawParts) (a b : Active) (older newer : List Active) (values values' : List Value) (heard : Heard) (function : RawFunction) → slice_get code.functions a.function ≡ Some function → older ≡ b ∷ newer → CanNow code does.Return a older values heard → ((low : List Value) (v : Value) → values ≡ low ++ v ∷ [] → values' ≡ take a.base low ++ given function.gives v ∷ []) → Leads code does.Return a older values heard went.On b newer values' heard
give_done code a b older newer values values' heard function here e can did =
    let now : CanNow code does.Return a (b ∷ newer) values heard = subst (λ (l : List Active). CanNow code does.Return a l values heard) e can in
    let t = ended_at code a (b ∷ newer) values heard function here now in
    subst (λ (l : List Active). Leads code does.Return a l values heard went.On b newer values' heard) (sym e)
    (gives_leads code a b newer values values' heard function now.0 t (did t.low t.v t.split ∙ ap (λ (l : List Value). l ++ given function.gives t.v ∷ []) t.front))

pub give_can : (code : RawParts) (a : Active) (callers : List Active) (values : List Value) (heard : Heard) (function : RawFunction) → slice_get code.functions a.function ≡ Some function → CanNow code does.Return a callers values heard → a.base < length values
give_can code a callers values heard function here can =
    let t = ended_at code a callers values heard function here can in
    omega (arith, ap length t.split, length-append t.low (t.v ∷ []), t.over)
