-- A section that somebody waits for is owned.
use Rattle.std.proofs.Common.{◌≡◌, ◌⊎◌, ◌+◌, ◌++◌, ℕ, zero, suc, ℤ, pos, negsuc, Bool, true, false, cond, List, [], ◌∷◌, length, Option, Some, None, refl, sym, ap, ◌∙◌, subst, inl, inr, true≢false}
use Rattle.std.specs.Ordering.{int_eq}
use Rattle.std.specs.Prelude.{slice_get, int_lt, nat_eq, nat_lt, nat_le, not, ◌||◌}
use Rattle.ci_base.specs.declared.bounds.TheConstants.{MOST_COUNT, MOST_OBJECTS}
use Rattle.ci_base.specs.declared.place.Place.{Place}
use Rattle.ci_base.specs.declared.task.Delivery.{Delivery}
use Rattle.ci_base.specs.declared.value.Kind.{Kind}
use Rattle.ci_base.specs.declared.value.Value.{Value}
use Rattle.ci_base.specs.Values.{kind_of}
use Rattle.ci_shared.proofs.Numbers.{place_itself, text_same}
use Rattle.ci_shared.specs.Laws.{AskOwns, AwaitedAreOwned, IsAwaited, IsOwned, OpeningOwns, ScriptOwns, Seated, seat_of}
use Rattle.ci_shared.specs.Roster.{Ended, Killed, Standing, Waiting, first_in, is_live_at, lines_after, same_place, seats, standing_at, without}
use Rattle.ci_shared.specs.Rows.{Answers, Attempt, Joins, Outcome, Row, coded, lines_with}
use Rattle.ci_shared.specs.Sections.{after, depart_at, enter, enter_at, given_answers, given_sections, handed, handed_to, section_of, with_held, with_section}
use Rattle.ci_shared.specs.Serving.{apply, script}
use Rattle.ci_shared.specs.Started.{Basis, Refused, Started, Starts, spawn}
use Rattle.ci_shared.specs.State.{Served, Shared, as_reply, attempted}
use Rattle.ci_shared.specs.Words.{comes_first, is_empty, same_kind, same_text, whole}
use Rattle.ci_shared.specs.declared.object.Item.{Item}
use Rattle.ci_shared.specs.declared.object.Section.{Section}
use Rattle.ci_shared.specs.declared.object.Semaphore.{Semaphore}
use Rattle.ci_shared.specs.declared.waiter.Waiter.{Waiter}
use Rattle.ci_base.specs.declared.event.EventKind.TheVariants as events
use Rattle.ci_base.specs.declared.place.Place.TheVariants as places
use Rattle.ci_base.specs.declared.reply.Reply.TheVariants as replies
use Rattle.ci_base.specs.declared.request.Request.TheVariants as requests
use Rattle.ci_shared.specs.Queues as queues
use Rattle.ci_shared.specs.Semaphores as sems
use Rattle.ci_shared.specs.Steps

-- somebody stands in the line of a place
abbrev IsStood : Place → List Waiter → Type 0
IsStood p ws = (w : Waiter) × (first_in p ws ≡ Some w)

-- those who are awaited are owned
abbrev Fine : List Waiter → List Section → Type 0
Fine ws xs = (name : List ℕ) → IsAwaited name ws → IsOwned name xs

-- fewer stand in line
left_stood : (t : ℕ) (p : Place) (ws : List Waiter) → IsStood p (without t ws) → IsStood p ws
left_stood t p [] (w, e) = absurd (cc)
left_stood t p (x ∷ ws) s = by (nat_eq x.task t) s (λ i. left_stood t p ws i)
  where
    gone : (here : Bool) → IsStood p ws → (w : Waiter) × (cond here (Some x) (first_in p ws) ≡ Some w)
    gone true more = (x, refl)
    gone false more = more

    stays : (here : Bool) → (IsStood p (without t ws) → IsStood p ws) → (w : Waiter) × (cond here (Some x) (first_in p (without t ws)) ≡ Some w) → (w : Waiter) × (cond here (Some x) (first_in p ws) ≡ Some w)
    stays true more i = (x, refl)
    stays false more i = more i

    by : (b : Bool) → IsStood p (cond b (without t ws) (x ∷ without t ws)) → (IsStood p (without t ws) → IsStood p ws) → IsStood p (x ∷ ws)
    by true i more = gone (same_place x.place p) (more i)
    by false i more = stays (same_place x.place p) more i

after_stood : (ds : List Delivery) (p : Place) (ws : List Waiter) → IsStood p (lines_after ds ws) → IsStood p ws
after_stood [] p ws s = s
after_stood (d ∷ ds) p ws s = left_stood d.task p ws (after_stood ds p (without d.task ws) s)

fewer : (ds : List Delivery) (ws : List Waiter) (xs : List Section) → Fine ws xs → Fine (lines_after ds ws) xs
fewer ds ws xs h name s = h name (after_stood ds (places.Section name) ws s)

fewer_by_one : (t : ℕ) (ws : List Waiter) (xs : List Section) → Fine ws xs → Fine (without t ws) xs
fewer_by_one t ws xs h name s = h name (left_stood t (places.Section name) ws s)

-- one more stands in line
joined_stood : (p : Place) (ws : List Waiter) (v : Waiter) → IsStood p (ws ++ v ∷ []) → IsStood p ws ⊎ (same_place v.place p ≡ true)
joined_stood p [] v s = by (same_place v.place p) s
  where
    by : (b : Bool) → (w : Waiter) × (cond b (Some v) None ≡ Some w) → IsStood p [] ⊎ (b ≡ true)
    by true s = inr refl
    by false (w, e) = absurd (cc)
joined_stood p (x ∷ ws) v s = by (same_place x.place p) s (λ i. joined_stood p ws v i)
  where
    by : (b : Bool) → (w : Waiter) × (cond b (Some x) (first_in p (ws ++ v ∷ [])) ≡ Some w) → (IsStood p (ws ++ v ∷ []) → IsStood p ws ⊎ (same_place v.place p ≡ true)) →
        ((w : Waiter) × (cond b (Some x) (first_in p ws) ≡ Some w)) ⊎ (same_place v.place p ≡ true)
    by true s more = inl (x, refl)
    by false s more = more s

-- the first of a list of sections is as before in name
front_owned : (name : List ℕ) (x y : Section) (xs ys : List Section) (b : Bool) → (IsOwned name xs → IsOwned name ys) → (z : Section) × (cond b (Some x) (section_of name xs) ≡ Some z) → (z : Section) × (cond b (Some y) (section_of name ys) ≡ Some z)
front_owned name x y xs ys true more o = (y, refl)
front_owned name x y xs ys false more o = more o

put_owned : (name : List ℕ) (y : Section) (xs : List Section) → IsOwned name xs → IsOwned name (with_section y xs)
put_owned name y [] (z, e) = absurd (cc)
put_owned name y (x ∷ xs) o = by (comes_first y.name x.name) (put_owned name y xs)
  where
    first : (b : Bool) → (z : Section) × (cond b (Some y) (section_of name (x ∷ xs)) ≡ Some z)
    first true = (y, refl)
    first false = o

    by : (b : Bool) → (IsOwned name xs → IsOwned name (with_section y xs)) → IsOwned name (cond b (y ∷ x ∷ xs) (x ∷ with_section y xs))
    by true more = first (same_text y.name name)
    by false more = front_owned name x x xs (with_section y xs) (same_text x.name name) more o

held_owned : (name of_it : List ℕ) (k : ℕ) (xs : List Section) → IsOwned name xs → IsOwned name (with_held of_it k xs)
held_owned name of_it k [] (z, e) = absurd (cc)
held_owned name of_it k (x ∷ xs) o = by (same_text x.name of_it) (held_owned name of_it k xs)
  where
    by : (b : Bool) → (IsOwned name xs → IsOwned name (with_held of_it k xs)) → IsOwned name (cond b (record { name = x.name; owner = x.owner; count = k } ∷ xs) (x ∷ with_held of_it k xs))
    by true more = front_owned name x (record { name = x.name; owner = x.owner; count = k }) xs xs (same_text x.name name) (λ i. i) o
    by false more = front_owned name x x xs (with_held of_it k xs) (same_text x.name name) more o

-- sections given on: one that is still awaited is still owned
abbrev GivesOn : List ℕ → (Section → Bool) → List Section → Type 0
GivesOn name f xs = (ws : List Waiter) → IsAwaited name (lines_after (given_answers f xs ws) ws) → IsOwned name xs → IsOwned name (given_sections f xs ws)

given_owned : (name : List ℕ) (f : Section → Bool) (xs : List Section) → GivesOn name f xs
given_owned name f [] ws s o = o
given_owned name f (x ∷ xs) ws s o = by (f x) (given_owned name f xs) s
  where
    none_stands : (w : Waiter) → first_in (places.Section x.name) ws ≡ None → IsAwaited name ws → same_text x.name name ≡ true → ⊥
    none_stands w e (v, at) same =
        let bad : None ≡ Some v = sym (ap (λ (n : List ℕ). first_in (places.Section n) ws) (sym (text_same x.name name same)) ∙ e) ∙ at in
        cc bad

    nobody : (b : Bool) → same_text x.name name ≡ b → first_in (places.Section x.name) ws ≡ None → GivesOn name f xs → IsAwaited name (lines_after (given_answers f xs ws) ws) → (z : Section) × (cond b (Some x) (section_of name xs) ≡ Some z) → IsOwned name (given_sections f xs ws)
    nobody true same e more i own = let there = after_stood (given_answers f xs ws) (places.Section name) ws i in absurd (none_stands there.0 e there same)
    nobody false same e more i own = more ws i own

    hand : (first : Option Waiter) → first_in (places.Section x.name) ws ≡ first → GivesOn name f xs → IsAwaited name (lines_after (handed_to first ++ given_answers f xs (after first ws)) ws) → IsOwned name (handed x first ++ given_sections f xs (after first ws))
    hand None e more i = nobody (same_text x.name name) refl e more i o
    hand (Some w) e more i = front_owned name x (record { name = x.name; owner = w.task; count = 1 }) xs (given_sections f xs (without w.task ws)) (same_text x.name name) (more (without w.task ws) i) o

    by : (b : Bool) → GivesOn name f xs → IsAwaited name (lines_after (cond b (handed_to (first_in (places.Section x.name) ws) ++ given_answers f xs (after (first_in (places.Section x.name) ws) ws)) (given_answers f xs ws)) ws) →
        IsOwned name (cond b (handed x (first_in (places.Section x.name) ws) ++ given_sections f xs (after (first_in (places.Section x.name) ws) ws)) (x ∷ given_sections f xs ws))
    by true more i = hand (first_in (places.Section x.name) ws) refl more i
    by false more i = front_owned name x x xs (given_sections f xs ws) (same_text x.name name) (more ws i) o

given : (f : Section → Bool) (xs : List Section) (ws : List Waiter) → Fine ws xs → Fine (lines_after (given_answers f xs ws) ws) (given_sections f xs ws)
given f xs ws h name s = given_owned name f xs ws s (fewer (given_answers f xs ws) ws xs h name s)

-- the rows of sections
abbrev RowFine : List Waiter → Row (List Section) → Type 0
RowFine ws r = Fine (lines_after r.deliveries ws) r.objects

pick_row : (ws : List Waiter) (b : Bool) (x y : Row (List Section)) → RowFine ws x → RowFine ws y → RowFine ws (cond b x y)
pick_row ws true x y hx hy = hx
pick_row ws false x y hx hy = hy

depart_owns : (u : ℕ) (name : List ℕ) (xs : List Section) (ws : List Waiter) (o : Option Section) → Fine ws xs → RowFine ws (depart_at u name xs ws o)
depart_owns u name xs ws None h = h
depart_owns u name xs ws (Some x) h = pick_row ws (not (nat_eq x.owner u)) _ _ h (pick_row ws (nat_lt 1 x.count) _ _ (λ n s. held_owned n name _ xs (h n s)) (given _ xs ws h))

abbrev TryFine : ℕ → List Waiter → Attempt (List Section) → Type 0
TryFine u ws r = Fine (lines_with u r.outcome ws) r.objects

pick_try : (u : ℕ) (ws : List Waiter) (b : Bool) (x y : Attempt (List Section)) → TryFine u ws x → TryFine u ws y → TryFine u ws (cond b x y)
pick_try u ws true x y hx hy = hx
pick_try u ws false x y hx hy = hy

-- who waits for a section waits for one that is owned
stands_owned : (u : ℕ) (name : List ℕ) (xs : List Section) (ws : List Waiter) → IsOwned name xs → Fine ws xs → Fine (lines_with u (Joins (places.Section name) None) ws) xs
stands_owned u name xs ws o h n s = elim (joined_stood (places.Section n) ws _ s) [
  | inl before ↦ h n before
  | inr same ↦ subst (λ (m : List ℕ). IsOwned m xs) (text_same name n same) o
]

enter_at_owns : (u : ℕ) (name : List ℕ) (xs : List Section) (ws : List Waiter) (o : Option Section) → section_of name xs ≡ o → Fine ws xs → TryFine u ws (enter_at u name xs o)
enter_at_owns u name xs ws None e h = pick_try u ws (nat_le MOST_OBJECTS (length xs)) _ _ h (λ n s. put_owned n _ xs (h n s))
enter_at_owns u name xs ws (Some x) e h =
    pick_try u ws (nat_eq x.owner u) _ _ (pick_try u ws (nat_le MOST_COUNT x.count) _ _ h (λ n s. held_owned n name _ xs (h n s)))
    (stands_owned u name xs ws (x, e) h)

enter_owns : (u : ℕ) (name : List ℕ) (xs : List Section) (ws : List Waiter) → Fine ws xs → TryFine u ws (enter u name xs)
enter_owns u name xs ws h = pick_try u ws (is_empty name) _ _ h (enter_at_owns u name xs ws (section_of name xs) refl h)

came : (s : Shared) (u : ℕ) (o : Outcome) → Fine (lines_with u o s.roster.waiting) s.sections → AwaitedAreOwned (attempted s u o).shared
came s u (Answers a) h = h
came s u (Joins p limit) h = h

-- nobody begins to wait for a section
abbrev IsElsewhere : Outcome → Type 0
IsElsewhere (Answers a) = Unit {0}
IsElsewhere (Joins p limit) = (name : List ℕ) → same_place p (places.Section name) ≡ true → ⊥

elsewhere : (s : Shared) (u : ℕ) (o : Outcome) → IsElsewhere o → AwaitedAreOwned s → AwaitedAreOwned (attempted s u o).shared
elsewhere s u (Answers a) free h = h
elsewhere s u (Joins p limit) free h = λ name i. elim (joined_stood (places.Section name) s.roster.waiting _ i) [ inl before ↦ h name before | inr same ↦ absurd (free name same) ]

pick_elsewhere : {O : Type 0} (b : Bool) (x y : Attempt O) → IsElsewhere x.outcome → IsElsewhere y.outcome → IsElsewhere (cond b x y).outcome
pick_elsewhere true x y hx hy = hx
pick_elsewhere false x y hx hy = hy

no_section : (name : List ℕ) → false ≡ true → ⊥
no_section name e = true≢false (sym e)

wait_elsewhere : (n : ℤ) (h : ℤ) (now : ℕ) (xs : List Semaphore) (o : Option Semaphore) → IsElsewhere (sems.wait_at h n now xs o).outcome
wait_elsewhere n h now xs None = tt
wait_elsewhere n h now xs (Some x) = pick_elsewhere (int_lt n (negsuc 0)) _ _ tt (pick_elsewhere (nat_lt 0 x.count) _ _ tt (pick_elsewhere (int_eq n (pos 0)) _ _ tt no_section))

take_elsewhere : (h mode : ℤ) (xs : List queues.Queue) (is : List Item) → IsElsewhere (queues.take_at h mode xs is).outcome
take_elsewhere h mode xs [] = pick_elsewhere (int_eq mode (pos 0)) _ _ tt no_section
take_elsewhere h mode xs (i ∷ is) = tt

read_elsewhere : (h mode : ℤ) (xs : List queues.Queue) (o : Option queues.Queue) → IsElsewhere (queues.read_at h mode xs o).outcome
read_elsewhere h mode xs None = tt
read_elsewhere h mode xs (Some x) = pick_elsewhere (int_eq mode (pos 0) || int_eq mode (pos 1)) _ _ (take_elsewhere h mode xs x.items) tt

sleep_elsewhere : (now : ℕ) (n : ℤ) (unit : ℕ) → IsElsewhere (Steps.sleep now n unit)
sleep_elsewhere now (negsuc n) unit = tt
sleep_elsewhere now (pos zero) unit = tt
sleep_elsewhere now (pos (suc n)) unit = no_section

-- the shared state
choose : {R : Type 0} (b : Bool) (x y : Served R) → AwaitedAreOwned x.shared → AwaitedAreOwned y.shared → AwaitedAreOwned (cond b x y).shared
choose true x y hx hy = hx
choose false x y hx hy = hy

started : (s : Shared) (r : Started) → AwaitedAreOwned s → AwaitedAreOwned (Steps.start s r).shared
started s (Refused c) h = h
started s (Starts b) h = h

gone_owns : {R : Type 0} (y : Standing) (t : ℕ) (s : Shared) (r : R) → AwaitedAreOwned s → AwaitedAreOwned (Steps.gone y t s r).shared
gone_owns y t s r h = given (λ x. nat_eq x.owner t) s.sections (without t s.roster.waiting) (fewer_by_one t s.roster.waiting s.sections h)

kill_owns : (s : Shared) (n : ℕ) → AwaitedAreOwned s → AwaitedAreOwned (Steps.kill s n).shared
kill_owns s n h = choose (is_live_at (standing_at s.roster n)) _ _ (gone_owns Killed n s (coded 0) h) h

kill_asked : (s : Shared) (u n : ℕ) (b : Bool) → AwaitedAreOwned s → AwaitedAreOwned (cond b (Steps.gone Killed u s replies.Ends) (as_reply (Steps.kill s n))).shared
kill_asked s u n true h = gone_owns Killed u s replies.Ends h
kill_asked s u n false h = kill_owns s n h

mark_owns : (b : Bool) (s : Shared) (n : ℕ) → AwaitedAreOwned s → AwaitedAreOwned (Steps.mark b s n).shared
mark_owns b s n h = choose (is_live_at (standing_at s.roster n)) _ _ h h

read_owns : (s : Shared) (u : ℕ) (o : Option Value) → AwaitedAreOwned s → AwaitedAreOwned (attempted s u (Steps.read o)).shared
read_owns s u None h = h
read_owns s u (Some v) h = h

set_owns : (s : Shared) (v : Value) (cell : ℕ) (o : Option Kind) → AwaitedAreOwned s → AwaitedAreOwned (Steps.set_kind s v cell o).shared
set_owns s v cell None h = h
set_owns s v cell (Some k) h = choose (same_kind k (kind_of v)) _ _ h h

cell_owns : (l : Basis) (s : Shared) (v : Value) (o : Option ℕ) → AwaitedAreOwned s → AwaitedAreOwned (Steps.set_cell l s v o).shared
cell_owns l s v None h = h
cell_owns l s v (Some cell) h = set_owns s v cell (slice_get l.kinds cell) h

answered : {O : Type 0} (r : Row O) (s : Shared) → AwaitedAreOwned s → Fine (lines_after r.deliveries s.roster.waiting) s.sections
answered r s h = fewer r.deliveries s.roster.waiting s.sections h

pub ask_owns : AskOwns
unfolding apply
ask_owns l s u (requests.Read cell) h = read_owns s u (slice_get s.cells cell) h
ask_owns l s u (requests.TaskNew name list mode) h = started s (spawn l.functions s.roster.tasks name list) h
ask_owns l s u (requests.TaskKill n) h = kill_asked s u (whole n) (nat_eq (whole n) u) h
ask_owns l s u (requests.TaskSuspend n) h = mark_owns true s (whole n) h
ask_owns l s u (requests.TaskResume n) h = mark_owns false s (whole n) h
ask_owns l s u (requests.Sleep n) h = elsewhere s u _ (sleep_elsewhere s.clock n 1000) h
ask_owns l s u (requests.SleepMS n) h = elsewhere s u _ (sleep_elsewhere s.clock n 1) h
ask_owns l s u (requests.SemWait x n) h = elsewhere _ u _ (wait_elsewhere n x s.clock s.semaphores (sems.semaphore_of x s.semaphores)) h
ask_owns l s u (requests.SemSignal x) h = answered (sems.sem_signal x s.semaphores s.roster.waiting) s h
ask_owns l s u (requests.SemClose x) h = answered (sems.sem_close x s.semaphores s.roster.waiting) s h
ask_owns l s u (requests.QueWrite x sort text) h = answered (queues.que_write x sort text s.queues s.roster.waiting) s h
ask_owns l s u (requests.QueRead x mode) h = elsewhere _ u _ (read_elsewhere x mode s.queues (queues.queue_of x s.queues)) h
ask_owns l s u (requests.QueClose x) h = answered (queues.que_close x s.queues s.roster.waiting) s h
ask_owns l s u (requests.Enter name) h = came _ u _ (enter_owns u name s.sections s.roster.waiting h)
ask_owns l s u (requests.Leave name) h = depart_owns u name s.sections s.roster.waiting (section_of name s.sections) h
ask_owns l s u (requests.End code) h = gone_owns (Ended code) u s replies.Ends h
ask_owns l s u _ h = h

pub script_owns : ScriptOwns
unfolding script
script_owns l s (events.Run name list) h = started s (spawn l.functions s.roster.tasks name list) h
script_owns l s (events.Tick ms) h = fewer (Steps.due (s.clock + whole ms) s.roster.waiting) s.roster.waiting s.sections h
script_owns l s (events.Kill n) h = kill_owns s (whole n) h
script_owns l s (events.Suspend n) h = mark_owns true s (whole n) h
script_owns l s (events.Resume n) h = mark_owns false s (whole n) h
script_owns l s (events.Put name sort text) h = answered (queues.put_named sort text s.queues s.roster.waiting (queues.queue_named name s.queues)) s h
script_owns l s (events.Signal name) h = answered (sems.signal_named s.semaphores s.roster.waiting (sems.semaphore_named name s.semaphores)) s h
script_owns l s (events.Set name v) h = cell_owns l s v _ h

pub opening_owns : OpeningOwns
opening_owns cells name (w, e) = absurd (cc)

-- who waits at a place stands in line there
seat_stood : (t : ℕ) (p : Place) (ws : List Waiter) → seats t ws ≡ p ∷ [] → IsStood p ws
seat_stood t p [] e = absurd (cc)
seat_stood t p (x ∷ ws) e = by (nat_eq x.task t) (λ i. seat_stood t p ws i) e
  where
    first : (b : Bool) → same_place x.place p ≡ b → x.place ≡ p → (w : Waiter) × (cond b (Some x) (first_in p ws) ≡ Some w)
    first true same is = (x, refl)
    first false same is = absurd (true≢false (sym (ap (λ (q : Place). same_place q p) is ∙ place_itself p) ∙ same))

    later : (b : Bool) → IsStood p ws → (w : Waiter) × (cond b (Some x) (first_in p ws) ≡ Some w)
    later true more = (x, refl)
    later false more = more

    by : (b : Bool) → (seats t ws ≡ p ∷ [] → IsStood p ws) → cond b (x.place ∷ seats t ws) (seats t ws) ≡ p ∷ [] → IsStood p (x ∷ ws)
    by true more i = first (same_place x.place p) refl (cc i)
    by false more i = later (same_place x.place p) (more i)

-- so a task that waits for a section waits for one that is owned
pub waits_for_owned : (s : Shared) (t : ℕ) (name : List ℕ) → Seated s.roster → AwaitedAreOwned s → standing_at s.roster t ≡ Some (Waiting (places.Section name)) → IsOwned name s.sections
waits_for_owned s t name seated owned is = owned name (seat_stood t (places.Section name) s.roster.waiting (seated t ∙ ap seat_of is))
