-- The sections stay in byte order of their names.
use Rattle.std.proofs.Common.{◌≡◌, ◌≢◌, ◌⊎◌, ◌≤◌, ◌<◌, ◌++◌, ℕ, Bool, true, false, cond, List, [], ◌∷◌, length, Option, Some, None, refl, sym, ap, ◌∙◌, inl, inr, eq-eqb, arith, true≢false}
use Rattle.std.proofs.lemmas.Bool.{ltb-true, ltb-false, lt-ltb}
use Rattle.std.specs.Prelude.{slice_get, nat_eq, nat_lt, nat_le, not, ◌||◌, ◌&&◌}
use Rattle.ci_base.specs.declared.bounds.TheConstants.{MOST_COUNT, MOST_OBJECTS}
use Rattle.ci_base.specs.declared.value.Kind.{Kind}
use Rattle.ci_base.specs.declared.value.Value.{Value}
use Rattle.ci_base.specs.Values.{kind_of}
use Rattle.ci_shared.proofs.Numbers.{decide, eqb_same}
use Rattle.ci_shared.specs.Laws.{AllAfter, AskOrders, Ordered, ScriptOrders}
use Rattle.ci_shared.specs.Roster.{Killed, first_in, is_live_at, standing_at}
use Rattle.ci_shared.specs.Rows.{Answers, Attempt, Joins, Outcome, Row}
use Rattle.ci_shared.specs.Sections.{after, depart_at, enter, enter_at, given_sections, handed, section_of, with_held, with_section}
use Rattle.ci_shared.specs.Serving.{apply, script}
use Rattle.ci_shared.specs.Started.{Basis, Refused, Started, Starts, spawn}
use Rattle.ci_shared.specs.State.{Served, Shared, as_reply, attempted}
use Rattle.ci_shared.specs.Words.{comes_first, is_empty, same_kind, same_text, whole}
use Rattle.ci_shared.specs.declared.object.Section.{Section}
use Rattle.ci_shared.specs.declared.waiter.Waiter.{Waiter}
use Rattle.ci_base.specs.declared.event.EventKind.TheVariants as events
use Rattle.ci_base.specs.declared.place.Place.TheVariants as places
use Rattle.ci_base.specs.declared.reply.Reply.TheVariants as replies
use Rattle.ci_base.specs.declared.request.Request.TheVariants as requests
use Rattle.ci_shared.specs.Steps

both : (a b : Bool) → (a && b) ≡ true → (a ≡ true) × (b ≡ true)
both true b e = (refl, e)
both false b e = absurd (true≢false (sym e))

-- byte order, seen
seen : (a b : ℕ) (as' bs : List ℕ) → comes_first (a ∷ as') (b ∷ bs) ≡ true → (a < b) ⊎ ((a ≡ b) × (comes_first as' bs ≡ true))
seen a b as' bs e = by (nat_lt a b) refl e
  where
    by : (z : Bool) → nat_lt a b ≡ z → (z || (nat_eq a b && comes_first as' bs)) ≡ true → (a < b) ⊎ ((a ≡ b) × (comes_first as' bs ≡ true))
    by true i e = inl (ltb-true a b i)
    by false i e = let h = both (nat_eq a b) (comes_first as' bs) e in inr (eqb_same a b h.0, h.1)

made : (a b : ℕ) (as' bs : List ℕ) → (a < b) ⊎ ((a ≡ b) × (comes_first as' bs ≡ true)) → comes_first (a ∷ as') (b ∷ bs) ≡ true
made a b as' bs (inl lt) = ap (λ (z : Bool). z || (nat_eq a b && comes_first as' bs)) (lt-ltb a b lt)
made a b as' bs (inr h) = by (nat_lt a b) (ap (λ (z : Bool). z && comes_first as' bs) (eq-eqb a b h.0) ∙ h.1)
  where
    by : (z : Bool) → (nat_eq a b && comes_first as' bs) ≡ true → (z || (nat_eq a b && comes_first as' bs)) ≡ true
    by true e = refl
    by false e = e

first_first : (x y z : List ℕ) → comes_first x y ≡ true → comes_first y z ≡ true → comes_first x z ≡ true
first_first [] [] z e f = absurd (true≢false (sym e))
first_first [] (b ∷ bs) [] e f = absurd (true≢false (sym f))
first_first [] (b ∷ bs) (c ∷ cs) e f = refl
first_first (a ∷ as') [] z e f = absurd (true≢false (sym e))
first_first (a ∷ as') (b ∷ bs) [] e f = absurd (true≢false (sym f))
first_first (a ∷ as') (b ∷ bs) (c ∷ cs) e f = made a c as' cs (join (seen a b as' bs e) (seen b c bs cs f) (λ i j. first_first as' bs cs i j))
  where
    join : (a < b) ⊎ ((a ≡ b) × (comes_first as' bs ≡ true)) → (b < c) ⊎ ((b ≡ c) × (comes_first bs cs ≡ true)) → (comes_first as' bs ≡ true → comes_first bs cs ≡ true → comes_first as' cs ≡ true) → (a < c) ⊎ ((a ≡ c) × (comes_first as' cs ≡ true))
    join (inl p) (inl q) more = inl (omega (arith, p, q))
    join (inl p) (inr q) more = let e : b ≡ c = q.0 in inl (omega (arith, p, e))
    join (inr p) (inl q) more = let e : a ≡ b = p.0 in inl (omega (arith, q, e))
    join (inr p) (inr q) more = inr (p.0 ∙ q.0, more p.1 q.1)

other_first : (x y : List ℕ) → comes_first x y ≡ false → same_text y x ≡ false → comes_first y x ≡ true
other_first [] [] e f = absurd (true≢false f)
other_first [] (b ∷ bs) e f = absurd (true≢false e)
other_first (a ∷ as') [] e f = refl
other_first (a ∷ as') (b ∷ bs) e f = by (decide b a) (λ i j. other_first as' bs i j)
  where
    not_less : (z : Bool) → nat_lt a b ≡ z → (z || (nat_eq a b && comes_first as' bs)) ≡ false → (b ≤ a) × ((nat_eq a b && comes_first as' bs) ≡ false)
    not_less true i e = absurd (true≢false e)
    not_less false i e = (ltb-false a b i, e)

    rest : (z : Bool) → z ≡ true → (w : Bool) → (z && w) ≡ false → w ≡ false
    rest true i w e = e
    rest false i w e = absurd (true≢false (sym i))

    by : (b ≡ a) ⊎ (b ≢ a) → (comes_first as' bs ≡ false → same_text bs as' ≡ false → comes_first bs as' ≡ true) → comes_first (b ∷ bs) (a ∷ as') ≡ true
    by (inl same) more = made b a bs as' (inr (same, more (rest (nat_eq a b) (eq-eqb a b (sym same)) (comes_first as' bs) (not_less (nat_lt a b) refl e).1) (rest (nat_eq b a) (eq-eqb b a same) (same_text bs as') f)))
    by (inr n) more = let le : b ≤ a = (not_less (nat_lt a b) refl e).0 in made b a bs as' (inl (omega (arith, le, n)))

all_after : (n m : List ℕ) (xs : List Section) → comes_first n m ≡ true → AllAfter m xs → AllAfter n xs
all_after n m [] e h = tt
all_after n m (x ∷ xs) e h = (first_first n m x.name e h.0, all_after n m xs e h.1)

-- a new section
put_after : (n : List ℕ) (y : Section) (xs : List Section) → comes_first n y.name ≡ true → AllAfter n xs → AllAfter n (with_section y xs)
put_after n y [] e h = (e, tt)
put_after n y (x ∷ xs) e h = by (comes_first y.name x.name) (put_after n y xs e h.1)
  where
    by : (b : Bool) → AllAfter n (with_section y xs) → AllAfter n (cond b (y ∷ x ∷ xs) (x ∷ with_section y xs))
    by true more = (e, h)
    by false more = (h.0, more)

pub put_ordered : (y : Section) (xs : List Section) → section_of y.name xs ≡ None → Ordered xs → Ordered (with_section y xs)
put_ordered y [] e h = (tt, tt)
put_ordered y (x ∷ xs) e h = by (comes_first y.name x.name) refl (same_text x.name y.name) refl e (λ i. put_ordered y xs i h.1)
  where
    by : (b : Bool) → comes_first y.name x.name ≡ b → (z : Bool) → same_text x.name y.name ≡ z → cond z (Some x) (section_of y.name xs) ≡ None → (section_of y.name xs ≡ None → Ordered (with_section y xs)) → Ordered (cond b (y ∷ x ∷ xs) (x ∷ with_section y xs))
    by b i true j e more = absurd (cc e)
    by true i false j e more = ((i, all_after y.name x.name xs i h.0), h)
    by false i false j e more = (put_after x.name y xs (other_first y.name x.name i j) h.0, more e)

-- another count
held_after : (n name : List ℕ) (k : ℕ) (xs : List Section) → AllAfter n xs → AllAfter n (with_held name k xs)
held_after n name k [] h = tt
held_after n name k (x ∷ xs) h = by (same_text x.name name) (held_after n name k xs h.1)
  where
    by : (b : Bool) → AllAfter n (with_held name k xs) → AllAfter n (cond b (record { name = x.name; owner = x.owner; count = k } ∷ xs) (x ∷ with_held name k xs))
    by true more = h
    by false more = (h.0, more)

pub held_ordered : (name : List ℕ) (k : ℕ) (xs : List Section) → Ordered xs → Ordered (with_held name k xs)
held_ordered name k [] h = tt
held_ordered name k (x ∷ xs) h = by (same_text x.name name) (held_ordered name k xs h.1)
  where
    by : (b : Bool) → Ordered (with_held name k xs) → Ordered (cond b (record { name = x.name; owner = x.owner; count = k } ∷ xs) (x ∷ with_held name k xs))
    by true more = h
    by false more = (held_after x.name name k xs h.0, more)

-- sections given on
given_after : (n : List ℕ) (f : Section → Bool) (xs : List Section) (ws : List Waiter) → AllAfter n xs → AllAfter n (given_sections f xs ws)
given_after n f [] ws h = tt
given_after n f (x ∷ xs) ws h = by (f x) (λ vs. given_after n f xs vs h.1)
  where
    hand : (o : Option Waiter) → ((vs : List Waiter) → AllAfter n (given_sections f xs vs)) → AllAfter n (handed x o ++ given_sections f xs (after o ws))
    hand None more = more ws
    hand (Some w) more = (h.0, more (after (Some w) ws))

    by : (b : Bool) → ((vs : List Waiter) → AllAfter n (given_sections f xs vs)) → AllAfter n (cond b (handed x (first_in (places.Section x.name) ws) ++ given_sections f xs (after (first_in (places.Section x.name) ws) ws)) (x ∷ given_sections f xs ws))
    by true more = hand (first_in (places.Section x.name) ws) more
    by false more = (h.0, more ws)

pub given_ordered : (f : Section → Bool) (xs : List Section) (ws : List Waiter) → Ordered xs → Ordered (given_sections f xs ws)
given_ordered f [] ws h = tt
given_ordered f (x ∷ xs) ws h = by (f x) (λ vs. given_ordered f xs vs h.1)
  where
    hand : (o : Option Waiter) → ((vs : List Waiter) → Ordered (given_sections f xs vs)) → Ordered (handed x o ++ given_sections f xs (after o ws))
    hand None more = more ws
    hand (Some w) more = (given_after x.name f xs (after (Some w) ws) h.0, more (after (Some w) ws))

    by : (b : Bool) → ((vs : List Waiter) → Ordered (given_sections f xs vs)) → Ordered (cond b (handed x (first_in (places.Section x.name) ws) ++ given_sections f xs (after (first_in (places.Section x.name) ws) ws)) (x ∷ given_sections f xs ws))
    by true more = hand (first_in (places.Section x.name) ws) more
    by false more = (given_after x.name f xs ws h.0, more ws)

-- the rows
pick_row : (b : Bool) (x y : Row (List Section)) → Ordered x.objects → Ordered y.objects → Ordered (cond b x y).objects
pick_row true x y hx hy = hx
pick_row false x y hx hy = hy

pick_try : (b : Bool) (x y : Attempt (List Section)) → Ordered x.objects → Ordered y.objects → Ordered (cond b x y).objects
pick_try true x y hx hy = hx
pick_try false x y hx hy = hy

depart_ordered : (u : ℕ) (name : List ℕ) (xs : List Section) (ws : List Waiter) (o : Option Section) → Ordered xs → Ordered (depart_at u name xs ws o).objects
depart_ordered u name xs ws None h = h
depart_ordered u name xs ws (Some x) h = pick_row (not (nat_eq x.owner u)) _ _ h (pick_row (nat_lt 1 x.count) _ _ (held_ordered name _ xs h) (given_ordered _ xs ws h))

enter_of_ordered : (u : ℕ) (name : List ℕ) (xs : List Section) (o : Option Section) → section_of name xs ≡ o → Ordered xs → Ordered (enter_at u name xs o).objects
enter_of_ordered u name xs None e h = pick_try (nat_le MOST_OBJECTS (length xs)) _ _ h (put_ordered (record { name = name; owner = u; count = 1 }) xs e h)
enter_of_ordered u name xs (Some x) e h = pick_try (nat_eq x.owner u) _ _ (pick_try (nat_le MOST_COUNT x.count) _ _ h (held_ordered name _ xs h)) h

enter_ordered : (u : ℕ) (name : List ℕ) (xs : List Section) → Ordered xs → Ordered (enter u name xs).objects
enter_ordered u name xs h = pick_try (is_empty name) _ _ h (enter_of_ordered u name xs (section_of name xs) refl h)

came : (s : Shared) (u : ℕ) (o : Outcome) → Ordered s.sections → Ordered (attempted s u o).shared.sections
came s u (Answers a) h = h
came s u (Joins p limit) h = h

choose : {R : Type 0} (b : Bool) (x y : Served R) → Ordered x.shared.sections → Ordered y.shared.sections → Ordered (cond b x y).shared.sections
choose true x y hx hy = hx
choose false x y hx hy = hy

started : (s : Shared) (r : Started) → Ordered s.sections → Ordered (Steps.start s r).shared.sections
started s (Refused c) h = h
started s (Starts b) h = h

kill_ordered : (s : Shared) (n : ℕ) → Ordered s.sections → Ordered (Steps.kill s n).shared.sections
kill_ordered s n h = choose (is_live_at (standing_at s.roster n)) _ _ (given_ordered _ s.sections _ h) h

mark_ordered : (b : Bool) (s : Shared) (n : ℕ) → Ordered s.sections → Ordered (Steps.mark b s n).shared.sections
mark_ordered b s n h = choose (is_live_at (standing_at s.roster n)) _ _ h h

set_ordered : (s : Shared) (v : Value) (cell : ℕ) (o : Option Kind) → Ordered s.sections → Ordered (Steps.set_kind s v cell o).shared.sections
set_ordered s v cell None h = h
set_ordered s v cell (Some k) h = choose (same_kind k (kind_of v)) _ _ h h

cell_ordered : (l : Basis) (s : Shared) (v : Value) (o : Option ℕ) → Ordered s.sections → Ordered (Steps.set_cell l s v o).shared.sections
cell_ordered l s v None h = h
cell_ordered l s v (Some cell) h = set_ordered s v cell (slice_get l.kinds cell) h

kill_asked : (s : Shared) (u n : ℕ) (b : Bool) → Ordered s.sections → Ordered (cond b (Steps.gone Killed u s replies.Ends) (as_reply (Steps.kill s n))).shared.sections
kill_asked s u n true h = given_ordered _ s.sections _ h
kill_asked s u n false h = kill_ordered s n h

pub ask_orders : AskOrders
unfolding apply
ask_orders l s u (requests.Read cell) h = came s u (Steps.read (slice_get s.cells cell)) h
ask_orders l s u (requests.TaskNew name list mode) h = started s (spawn l.functions s.roster.tasks name list) h
ask_orders l s u (requests.TaskKill n) h = kill_asked s u (whole n) (nat_eq (whole n) u) h
ask_orders l s u (requests.TaskSuspend n) h = mark_ordered true s (whole n) h
ask_orders l s u (requests.TaskResume n) h = mark_ordered false s (whole n) h
ask_orders l s u (requests.Sleep n) h = came s u _ h
ask_orders l s u (requests.SleepMS n) h = came s u _ h
ask_orders l s u (requests.SemWait x n) h = came _ u _ h
ask_orders l s u (requests.QueRead x mode) h = came _ u _ h
ask_orders l s u (requests.Enter name) h = came _ u _ (enter_ordered u name s.sections h)
ask_orders l s u (requests.Leave name) h = depart_ordered u name s.sections s.roster.waiting (section_of name s.sections) h
ask_orders l s u (requests.End code) h = given_ordered _ s.sections _ h
ask_orders l s u _ h = h

pub script_orders : ScriptOrders
unfolding script
script_orders l s (events.Run name list) h = started s (spawn l.functions s.roster.tasks name list) h
script_orders l s (events.Kill n) h = kill_ordered s (whole n) h
script_orders l s (events.Suspend n) h = mark_ordered true s (whole n) h
script_orders l s (events.Resume n) h = mark_ordered false s (whole n) h
script_orders l s (events.Set name v) h = cell_ordered l s v _ h
script_orders l s _ h = h
