-- The next number stays above those of the semaphores and the queues.
use Rattle.std.proofs.Common.{◌≡◌, ◌++◌, ◌-◌, ℕ, suc, ℤ, pos, negsuc, Bool, true, false, cond, List, [], ◌∷◌, Option, Some, None, refl, sym, subst, arith}
use Rattle.std.specs.Prelude.{◌||◌, ◌<ℤ◌, ◌≤ℤ◌, ◌+ℤ◌, not, nat_le, nat_lt, nat_eq, int_lt, length, slice_get}
use Rattle.std.specs.List.{All}
use Rattle.std.specs.Ordering.{int_eq}
use Rattle.std.proofs.lemmas.Int.{ints}
use Rattle.std.proofs.lemmas.List.Elements.{All-cons, All-head, All-nil, All-push, All-tail, All-weaker}
use Rattle.ci_base.specs.declared.bounds.TheConstants.{MOST_COUNT, MOST_ELEMENTS, MOST_OBJECTS}
use Rattle.ci_base.specs.declared.event.EventKind.TheVariants as events
use Rattle.ci_base.specs.declared.place.Place.TheVariants as places
use Rattle.ci_base.specs.declared.reply.Reply.TheVariants as replies
use Rattle.ci_base.specs.declared.request.Request.TheVariants as requests
use Rattle.ci_base.specs.declared.value.Kind.{Kind}
use Rattle.ci_base.specs.declared.value.Value.{Value}
use Rattle.ci_base.specs.Values.{kind_of}
use Rattle.ci_shared.specs.declared.object.Item.{Item}
use Rattle.ci_shared.specs.declared.object.Semaphore.{Semaphore}
use Rattle.ci_shared.specs.declared.waiter.Waiter.{Waiter}
use Rattle.ci_shared.specs.Laws.{AskNumbers, IsNumbered, OpeningNumbers, ScriptNumbers}
use Rattle.ci_shared.specs.Queues as queues
use Rattle.ci_shared.specs.Roster.{Killed, first_in, is_live_at, standing_at}
use Rattle.ci_shared.specs.Rows.{Answers, Attempt, Joins, Naming, Outcome, Row, last_number, opens, refused}
use Rattle.ci_shared.specs.Sections as sections
use Rattle.ci_shared.specs.Semaphores as sems
use Rattle.ci_shared.specs.Serving.{apply, script}
use Rattle.ci_shared.specs.Started.{Basis, Refused, Started, Starts, spawn}
use Rattle.ci_shared.specs.State.{Served, Shared, as_reply, attempted}
use Rattle.ci_shared.specs.Steps
use Rattle.ci_shared.specs.Words.{is_empty, is_mode, same_kind, whole}

-- each number is below the next one
abbrev Below : {X : Type 0} → (X → ℤ) → ℤ → List X → Type 0
Below number next xs = All (λ x. number x <ℤ next) xs

abbrev sem_number : Semaphore → ℤ
sem_number x = x.number

abbrev queue_number : queues.Queue → ℤ
queue_number x = x.number

-- a member changes, or goes
module _ (X : Type 0) (number : X → ℤ) (next : ℤ) where
  on_front : (b : Bool) (x y : X) (xs ys : List X) → number y <ℤ next → Below number next (x ∷ xs) → Below number next ys → Below number next (cond b (y ∷ xs) (x ∷ ys))
  on_front true x y xs ys h a more = All-cons (λ (z : X). number z <ℤ next) y xs h (All-tail (λ (z : X). number z <ℤ next) x xs a)
  on_front false x y xs ys h a more = All-cons (λ (z : X). number z <ℤ next) x ys (All-head (λ (z : X). number z <ℤ next) x xs a) more

  off_front : (b : Bool) (x : X) (xs ys : List X) → Below number next (x ∷ xs) → Below number next ys → Below number next (cond b xs (x ∷ ys))
  off_front true x xs ys a more = All-tail (λ (z : X). number z <ℤ next) x xs a
  off_front false x xs ys a more = All-cons (λ (z : X). number z <ℤ next) x ys (All-head (λ (z : X). number z <ℤ next) x xs a) more

  pick_row : (b : Bool) (x y : Row (List X)) → Below number next x.objects → Below number next y.objects → Below number next (cond b x y).objects
  pick_row true x y hx hy = hx
  pick_row false x y hx hy = hy

  pick_attempt : (b : Bool) (x y : Attempt (List X)) → Below number next x.objects → Below number next y.objects → Below number next (cond b x y).objects
  pick_attempt true x y hx hy = hx
  pick_attempt false x y hx hy = hy

below_more : (n next : ℤ) → n <ℤ next → n <ℤ (next +ℤ pos 1)
below_more n next h = omega (arith, ints, h)

below_next : (next : ℤ) → next <ℤ (next +ℤ pos 1)
below_next next = omega (arith, ints)

least_more : (next : ℤ) → pos 1 ≤ℤ next → pos 1 ≤ℤ (next +ℤ pos 1)
least_more next h = omega (arith, ints, h)

raised : {X : Type 0} (number : X → ℤ) (next : ℤ) (xs : List X) → Below number next xs → Below number (next +ℤ pos 1) xs
raised {X = X} number next xs a = All-weaker (λ (y : X). number y <ℤ next) (λ (y : X). number y <ℤ (next +ℤ pos 1)) (λ y h. below_more (number y) next h) xs a

-- semaphores
counted : (next h : ℤ) (n : ℕ) (xs : List Semaphore) → Below sem_number next xs → Below sem_number next (sems.with_count h n xs)
counted next h n [] a = a
counted next h n (x ∷ xs) a =
    on_front Semaphore sem_number next (int_eq x.number h) x (record { number = x.number; name = x.name; count = n }) xs (sems.with_count h n xs) (All-head (λ (z : Semaphore). z.number <ℤ next) x xs a) a
    (counted next h n xs (All-tail (λ (z : Semaphore). z.number <ℤ next) x xs a))

one_less : (next h : ℤ) (xs : List Semaphore) → Below sem_number next xs → Below sem_number next (sems.no_semaphore h xs)
one_less next h [] a = a
one_less next h (x ∷ xs) a = off_front Semaphore sem_number next (int_eq x.number h) x xs (sems.no_semaphore h xs) a (one_less next h xs (All-tail (λ (z : Semaphore). z.number <ℤ next) x xs a))

wait_below : (next h n : ℤ) (now : ℕ) (xs : List Semaphore) (o : Option Semaphore) → Below sem_number next xs → Below sem_number next (sems.wait_at h n now xs o).objects
wait_below next h n now xs None a = a
wait_below next h n now xs (Some x) a =
    pick_attempt Semaphore sem_number next (int_lt n (negsuc 0)) _ _ a
    (pick_attempt Semaphore sem_number next (nat_lt 0 x.count) _ _ (counted next h (x.count - 1) xs a) (pick_attempt Semaphore sem_number next (int_eq n (pos 0)) _ _ a a))

raise_below : (next h : ℤ) (xs : List Semaphore) (x : Semaphore) (o : Option Waiter) → Below sem_number next xs → Below sem_number next (sems.raise h xs x o).objects
raise_below next h xs x None a = pick_row Semaphore sem_number next (nat_le MOST_COUNT x.count) _ _ a (counted next h (suc x.count) xs a)
raise_below next h xs x (Some w) a = a

signal_below : (next h : ℤ) (xs : List Semaphore) (ws : List Waiter) (o : Option Semaphore) → Below sem_number next xs → Below sem_number next (sems.signal_at h xs ws o).objects
signal_below next h xs ws None a = a
signal_below next h xs ws (Some x) a = raise_below next h xs x (first_in (places.Semaphore h) ws) a

signal_named_below : (next : ℤ) (xs : List Semaphore) (ws : List Waiter) (o : Option ℤ) → Below sem_number next xs → Below sem_number next (sems.signal_named xs ws o).objects
signal_named_below next xs ws None a = a
signal_named_below next xs ws (Some h) a = signal_below next h xs ws (sems.semaphore_of h xs) a

sem_close_below : (next h : ℤ) (xs : List Semaphore) (ws : List Waiter) (o : Option Semaphore) → Below sem_number next xs → Below sem_number next (sems.close_at h xs ws o).objects
sem_close_below next h xs ws None a = a
sem_close_below next h xs ws (Some x) a = one_less next h xs a

-- queues
filled : (next h : ℤ) (is : List Item) (xs : List queues.Queue) → Below queue_number next xs → Below queue_number next (queues.with_items h is xs)
filled next h is [] a = a
filled next h is (x ∷ xs) a =
    on_front queues.Queue queue_number next (int_eq x.number h) x (record { number = x.number; name = x.name; items = is }) xs (queues.with_items h is xs) (All-head (λ (z : queues.Queue). z.number <ℤ next) x xs a) a
    (filled next h is xs (All-tail (λ (z : queues.Queue). z.number <ℤ next) x xs a))

queue_less : (next h : ℤ) (xs : List queues.Queue) → Below queue_number next xs → Below queue_number next (queues.no_queue h xs)
queue_less next h [] a = a
queue_less next h (x ∷ xs) a = off_front queues.Queue queue_number next (int_eq x.number h) x xs (queues.no_queue h xs) a (queue_less next h xs (All-tail (λ (z : queues.Queue). z.number <ℤ next) x xs a))

put_below : (next h sort : ℤ) (text : List ℕ) (xs : List queues.Queue) (x : queues.Queue) (o : Option Waiter) → Below queue_number next xs → Below queue_number next (queues.put_at h sort text xs x o).objects
put_below next h sort text xs x (Some w) a = a
put_below next h sort text xs x None a = pick_row queues.Queue queue_number next (nat_le MOST_ELEMENTS (queues.count_items xs)) _ _ a (filled next h (x.items ++ record { sort = sort; text = text } ∷ []) xs a)

write_below : (next h sort : ℤ) (text : List ℕ) (xs : List queues.Queue) (ws : List Waiter) (o : Option queues.Queue) → Below queue_number next xs → Below queue_number next (queues.write_at h sort text xs ws o).objects
write_below next h sort text xs ws None a = a
write_below next h sort text xs ws (Some x) a = put_below next h sort text xs x (first_in (places.Queue h) ws) a

put_named_below : (next sort : ℤ) (text : List ℕ) (xs : List queues.Queue) (ws : List Waiter) (o : Option ℤ) → Below queue_number next xs → Below queue_number next (queues.put_named sort text xs ws o).objects
put_named_below next sort text xs ws None a = a
put_named_below next sort text xs ws (Some h) a = write_below next h sort text xs ws (queues.queue_of h xs) a

take_below : (next h mode : ℤ) (xs : List queues.Queue) (is : List Item) → Below queue_number next xs → Below queue_number next (queues.take_at h mode xs is).objects
take_below next h mode xs (i ∷ is) a = filled next h is xs a
take_below next h mode xs [] a = pick_attempt queues.Queue queue_number next (int_eq mode (pos 0)) _ _ a a

read_below : (next h mode : ℤ) (xs : List queues.Queue) (o : Option queues.Queue) → Below queue_number next xs → Below queue_number next (queues.read_at h mode xs o).objects
read_below next h mode xs None a = a
read_below next h mode xs (Some x) a = pick_attempt queues.Queue queue_number next (int_eq mode (pos 0) || int_eq mode (pos 1)) _ _ (take_below next h mode xs x.items a) a

que_close_below : (next h : ℤ) (xs : List queues.Queue) (ws : List Waiter) (o : Option queues.Queue) → Below queue_number next xs → Below queue_number next (queues.close_at h xs ws o).objects
que_close_below next h xs ws None a = a
que_close_below next h xs ws (Some x) a = queue_less next h xs a

-- an opening: the new object, and the other list beside it
record Opened (X Y : Type 0) (number : X → ℤ) (other : Y → ℤ) (ys : List Y) (r : Naming (List X)) : Type 0 where
  pub least : pos 1 ≤ℤ r.next
  pub here : Below number r.next r.objects
  pub there : Below other r.next ys

module _ (X Y : Type 0) (number : X → ℤ) (other : Y → ℤ) (ys : List Y) where
  pick : (b : Bool) (x y : Naming (List X)) → Opened X Y number other ys x → Opened X Y number other ys y → Opened X Y number other ys (cond b x y)
  pick true x y hx hy = hx
  pick false x y hx hy = hy

  opened : (mode next : ℤ) (o : Option ℤ) (xs : List X) (x : X) → number x ≡ next → pos 1 ≤ℤ next → Below number next xs → Below other next ys → Opened X Y number other ys (opens mode next o (length xs) xs (xs ++ x ∷ []))
  opened mode next (Some n) xs x is least a b = record { least = least; here = a; there = b }
  opened mode next None xs x is least a b =
      pick (int_eq mode (pos 0)) _ _ (record { least = least; here = a; there = b })
      (pick (nat_le MOST_OBJECTS (length xs) || int_eq next last_number) _ _ (record { least = least; here = a; there = b })
      (record {
        least = least_more next least;
        here = All-push (λ (y : X). number y <ℤ (next +ℤ pos 1)) xs x (raised number next xs a) (subst (λ (n : ℤ). n <ℤ (next +ℤ pos 1)) (sym is) (below_next next));
        there = raised other next ys b;
      }))

  opening_is : (bad : Bool) (mode next : ℤ) (o : Option ℤ) (xs : List X) (x : X) → number x ≡ next → pos 1 ≤ℤ next → Below number next xs → Below other next ys →
      Opened X Y number other ys (cond bad (record { objects = xs; next = next; reply = refused 10 }) (opens mode next o (length xs) xs (xs ++ x ∷ [])))
  opening_is bad mode next o xs x is least a b = pick bad _ _ (record { least = least; here = a; there = b }) (opened mode next o xs x is least a b)

-- what becomes of the state
with_semaphores : (s : Shared) (xs : List Semaphore) → IsNumbered s → Below sem_number s.next xs → IsNumbered (record s { semaphores = xs })
with_semaphores s xs k a = record { least = k.least; semaphores = a; queues = k.queues }

with_queues : (s : Shared) (xs : List queues.Queue) → IsNumbered s → Below queue_number s.next xs → IsNumbered (record s { queues = xs })
with_queues s xs k a = record { least = k.least; semaphores = k.semaphores; queues = a }

same : (s s' : Shared) → s'.next ≡ s.next → s'.semaphores ≡ s.semaphores → s'.queues ≡ s.queues → IsNumbered s → IsNumbered s'
same s s' n x q k = record {
  least = subst (λ (m : ℤ). pos 1 ≤ℤ m) (sym n) k.least;
  semaphores = subst (λ (m : ℤ). Below sem_number m s'.semaphores) (sym n) (subst (λ (l : List Semaphore). Below sem_number s.next l) (sym x) k.semaphores);
  queues = subst (λ (m : ℤ). Below queue_number m s'.queues) (sym n) (subst (λ (l : List queues.Queue). Below queue_number s.next l) (sym q) k.queues);
}

came : (s : Shared) (u : ℕ) (o : Outcome) → IsNumbered s → IsNumbered (attempted s u o).shared
came s u (Answers a) k = k
came s u (Joins p limit) k = same s (attempted s u (Joins p limit)).shared refl refl refl k

choose : {R : Type 0} (b : Bool) (x y : Served R) → IsNumbered x.shared → IsNumbered y.shared → IsNumbered (cond b x y).shared
choose true x y hx hy = hx
choose false x y hx hy = hy

started : (s : Shared) (r : Started) → IsNumbered s → IsNumbered (Steps.start s r).shared
started s (Refused c) k = k
started s (Starts b) k = same s (Steps.start s (Starts b)).shared refl refl refl k

killed : (s : Shared) (n : ℕ) → IsNumbered s → IsNumbered (Steps.kill s n).shared
killed s n k = choose (is_live_at (standing_at s.roster n)) _ _ (same s _ refl refl refl k) k

marked : (b : Bool) (s : Shared) (n : ℕ) → IsNumbered s → IsNumbered (Steps.mark b s n).shared
marked b s n k = choose (is_live_at (standing_at s.roster n)) _ _ (same s _ refl refl refl k) k

set_kind : (s : Shared) (v : Value) (cell : ℕ) (o : Option Kind) → IsNumbered s → IsNumbered (Steps.set_kind s v cell o).shared
set_kind s v cell None k = k
set_kind s v cell (Some x) k = choose (same_kind x (kind_of v)) _ _ (same s _ refl refl refl k) k

set_cell : (b : Basis) (s : Shared) (v : Value) (o : Option ℕ) → IsNumbered s → IsNumbered (Steps.set_cell b s v o).shared
set_cell b s v None k = k
set_cell b s v (Some cell) k = set_kind s v cell (slice_get b.kinds cell) k

kill_asked : (s : Shared) (u n : ℕ) (b : Bool) → IsNumbered s → IsNumbered (cond b (Steps.gone Killed u s replies.Ends) (as_reply (Steps.kill s n))).shared
kill_asked s u n true k = same s _ refl refl refl k
kill_asked s u n false k = killed s n k

sem_opened : (s : Shared) (name : List ℕ) (mode : ℤ) → IsNumbered s → IsNumbered (Steps.open_semaphore s (sems.sem_open name mode s.next s.semaphores)).shared
sem_opened s name mode k =
    let x = opening_is Semaphore queues.Queue sem_number queue_number s.queues (is_empty name || not (is_mode mode)) mode s.next (sems.semaphore_named name s.semaphores) s.semaphores (record { number = s.next; name = name; count = 1 }) refl k.least k.semaphores k.queues in
    record { least = x.least; semaphores = x.here; queues = x.there }

queue_opened : (s : Shared) (name : List ℕ) (mode : ℤ) → IsNumbered s → IsNumbered (Steps.open_queue s (queues.que_open name mode s.next s.queues)).shared
queue_opened s name mode k =
    let x = opening_is queues.Queue Semaphore queue_number sem_number s.semaphores (is_empty name || not (is_mode mode)) mode s.next (queues.queue_named name s.queues) s.queues (record { number = s.next; name = name; items = [] }) refl k.least k.queues k.semaphores in
    record { least = x.least; semaphores = x.there; queues = x.here }

pub ask_numbers : AskNumbers
unfolding apply
ask_numbers b s u (requests.Read cell) k = came s u (Steps.read (slice_get s.cells cell)) k
ask_numbers b s u (requests.Write cell v) k = same s _ refl refl refl k
ask_numbers b s u (requests.TaskNew name list mode) k = started s (spawn b.functions s.roster.tasks name list) k
ask_numbers b s u (requests.TaskKill n) k = kill_asked s u (whole n) (nat_eq (whole n) u) k
ask_numbers b s u (requests.TaskSuspend n) k = marked true s (whole n) k
ask_numbers b s u (requests.TaskResume n) k = marked false s (whole n) k
ask_numbers b s u (requests.Sleep n) k = came s u _ k
ask_numbers b s u (requests.SleepMS n) k = came s u _ k
ask_numbers b s u (requests.SemOpen name mode) k = sem_opened s name mode k
ask_numbers b s u (requests.SemWait h n) k = came _ u _ (with_semaphores s _ k (wait_below s.next h n s.clock s.semaphores (sems.semaphore_of h s.semaphores) k.semaphores))
ask_numbers b s u (requests.SemSignal h) k = same (record s { semaphores = (sems.sem_signal h s.semaphores s.roster.waiting).objects }) _ refl refl refl (with_semaphores s _ k (signal_below s.next h s.semaphores s.roster.waiting (sems.semaphore_of h s.semaphores) k.semaphores))
ask_numbers b s u (requests.SemClose h) k = same (record s { semaphores = (sems.sem_close h s.semaphores s.roster.waiting).objects }) _ refl refl refl (with_semaphores s _ k (sem_close_below s.next h s.semaphores s.roster.waiting (sems.semaphore_of h s.semaphores) k.semaphores))
ask_numbers b s u (requests.QueOpen name mode) k = queue_opened s name mode k
ask_numbers b s u (requests.QueWrite h sort text) k = same (record s { queues = (queues.que_write h sort text s.queues s.roster.waiting).objects }) _ refl refl refl (with_queues s _ k (write_below s.next h sort text s.queues s.roster.waiting (queues.queue_of h s.queues) k.queues))
ask_numbers b s u (requests.QueRead h mode) k = came _ u _ (with_queues s _ k (read_below s.next h mode s.queues (queues.queue_of h s.queues) k.queues))
ask_numbers b s u (requests.QueLength h) k = k
ask_numbers b s u (requests.QueClose h) k = same (record s { queues = (queues.que_close h s.queues s.roster.waiting).objects }) _ refl refl refl (with_queues s _ k (que_close_below s.next h s.queues s.roster.waiting (queues.queue_of h s.queues) k.queues))
ask_numbers b s u (requests.Enter name) k = came (record s { sections = (sections.enter u name s.sections).objects }) u (sections.enter u name s.sections).outcome (same s _ refl refl refl k)
ask_numbers b s u (requests.Leave name) k = same s _ refl refl refl k
ask_numbers b s u (requests.End code) k = same s _ refl refl refl k
ask_numbers b s u _ k = k

pub script_numbers : ScriptNumbers
unfolding script
script_numbers b s (events.Run name list) k = started s (spawn b.functions s.roster.tasks name list) k
script_numbers b s (events.Tick ms) k = same s _ refl refl refl k
script_numbers b s (events.Kill n) k = killed s (whole n) k
script_numbers b s (events.Suspend n) k = marked true s (whole n) k
script_numbers b s (events.Resume n) k = marked false s (whole n) k
script_numbers b s (events.Put name sort text) k = same (record s { queues = (queues.put_named sort text s.queues s.roster.waiting (queues.queue_named name s.queues)).objects }) _ refl refl refl (with_queues s _ k (put_named_below s.next sort text s.queues s.roster.waiting (queues.queue_named name s.queues) k.queues))
script_numbers b s (events.Signal name) k = same (record s { semaphores = (sems.signal_named s.semaphores s.roster.waiting (sems.semaphore_named name s.semaphores)).objects }) _ refl refl refl (with_semaphores s _ k (signal_named_below s.next s.semaphores s.roster.waiting (sems.semaphore_named name s.semaphores) k.semaphores))
script_numbers b s (events.Set name v) k = set_cell b s v _ k

pub opening_numbers : OpeningNumbers
opening_numbers cells = record { least = omega (arith, ints); semaphores = All-nil (λ (x : Semaphore). x.number <ℤ pos 1); queues = All-nil (λ (x : queues.Queue). x.number <ℤ pos 1) }
