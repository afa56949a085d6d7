-- What the rows of the tables owe: each answer goes to a task that waits for it, and fits its place.
use Rattle.std.proofs.Common.{Contains, ◌≡◌, ◌<◌, ◌+◌, ℕ, zero, suc, ℤ, Bool, true, false, cond, List, [], ◌∷◌, length, Option, Some, None, refl, sym, ap, ◌∙◌, subst, inl, inr, map, arith}
use Rattle.std.specs.Prelude.{slice_get, slice_set, ◌&&◌, not, nat_eq, nat_lt, nat_le}
use Rattle.std.specs.Str.{str_eq_ignore_ascii_case}
use Rattle.ci_base.specs.declared.bounds.TheConstants.{MOST_COUNT, MOST_ELEMENTS}
use Rattle.ci_base.specs.declared.event.EventReply.{EventReply}
use Rattle.ci_base.specs.declared.layout.Head.{Head}
use Rattle.ci_base.specs.declared.place.Place.{Place}
use Rattle.ci_base.specs.declared.task.Birth.{Birth}
use Rattle.ci_base.specs.declared.value.Kind.{Kind}
use Rattle.ci_base.specs.declared.value.Value.{Value}
use Rattle.ci_base.specs.Values.{kind_of}
use Rattle.ci_shared.proofs.Fair.{Fair, fair_answers, fair_born, fair_gone, fair_if, fair_mark, fair_only}
use Rattle.ci_shared.proofs.Fit.{AreFit, by_limit_all, by_limit_picked, chosen_all, chosen_picked, first_fit, given_fit, picked_fit}
use Rattle.ci_shared.proofs.Numbers.{place_same}
use Rattle.ci_shared.proofs.Seats.{leaves_seated}
use Rattle.ci_shared.specs.Laws.{FitsPlace, Keeps, Seated}
use Rattle.ci_shared.specs.Arguments.{arguments}
use Rattle.ci_shared.specs.Roster.{Killed, Roster, first_in, is_due, is_full, leaves, line, same_place}
use Rattle.ci_shared.specs.Rows.{Row, coded, plain, replying, turned_away}
use Rattle.ci_shared.specs.Started.{Basis, Refused, Starts, public_from, spawn, spawn_of, spawn_with}
use Rattle.ci_shared.specs.State.{Shared, only}
use Rattle.ci_shared.specs.Words.{same_kind, same_text}
use Rattle.ci_shared.specs.declared.object.Section.{Section}
use Rattle.ci_shared.specs.declared.object.Semaphore.{Semaphore}
use Rattle.ci_shared.specs.declared.waiter.Waiter.{Waiter}
use Rattle.ci_base.specs.declared.value.Kind.TheVariants as kinds
use Rattle.ci_base.specs.declared.place.Place.TheVariants as places
use Rattle.ci_shared.specs.Semaphores as sems
use Rattle.ci_shared.specs.Queues as queues
use Rattle.ci_shared.specs.Sections as sections
use Rattle.ci_shared.specs.Steps

-- the answers of a row
pub record FitRow {O : Type 0} (c : Roster) (r : Row O) : Type 0 where
  pub fit : AreFit c r.deliveries

quiet : {O : Type 0} (c : Roster) (xs : O) (r : EventReply) → FitRow c (replying xs r)
quiet c xs r = record { fit = tt }

either : {O : Type 0} (c : Roster) (b : Bool) (x y : Row O) → FitRow c x → FitRow c y → FitRow c (cond b x y)
either c true x y hx hy = hx
either c false x y hx hy = hy

-- a closed semaphore or queue
turned_fit : (c : Roster) (p : Place) → Seated c → ((w : Waiter) → same_place w.place p ≡ true → FitsPlace w.place (plain (coded 1))) → AreFit c (turned_away p c.waiting)
turned_fit c p k h = picked_fit _ (line p c.waiting) c (chosen_picked _ c k) (chosen_all _ _ h c.waiting)

turned_semaphore : (n : ℤ) (w : Waiter) → same_place w.place (places.Semaphore n) ≡ true → FitsPlace w.place (plain (coded 1))
turned_semaphore n w e = subst (λ (p : Place). FitsPlace p (plain (coded 1))) (sym (place_same w.place (places.Semaphore n) e)) (1, omega arith, refl)

turned_queue : (n : ℤ) (w : Waiter) → same_place w.place (places.Queue n) ≡ true → FitsPlace w.place (plain (coded 1))
turned_queue n w e = subst (λ (p : Place). FitsPlace p (plain (coded 1))) (sym (place_same w.place (places.Queue n) e)) (inl refl)

module _ (c : Roster) (k : Seated c) where
  -- semaphores
  raise_fit : (h : ℤ) (xs : List Semaphore) (x : Semaphore) (o : Option Waiter) → first_in (places.Semaphore h) c.waiting ≡ o → FitRow c (sems.raise h xs x o)
  raise_fit h xs x (Some w) e = record { fit = first_fit c (places.Semaphore h) w _ k e (0, omega arith, refl) }
  raise_fit h xs x None e = either c (nat_le MOST_COUNT x.count) _ _ (quiet c _ _) (quiet c _ _)

  signal_to_fit : (h : ℤ) (xs : List Semaphore) (o : Option Semaphore) → FitRow c (sems.signal_at h xs c.waiting o)
  signal_to_fit h xs None = quiet c _ _
  signal_to_fit h xs (Some x) = raise_fit h xs x (first_in (places.Semaphore h) c.waiting) refl

  pub signal_fit : (h : ℤ) (xs : List Semaphore) → FitRow c (sems.sem_signal h xs c.waiting)
  signal_fit h xs = signal_to_fit h xs (sems.semaphore_of h xs)

  pub signal_named_fit : (xs : List Semaphore) (o : Option ℤ) → FitRow c (sems.signal_named xs c.waiting o)
  signal_named_fit xs None = quiet c _ _
  signal_named_fit xs (Some h) = signal_fit h xs

  sem_close_of_fit : (h : ℤ) (xs : List Semaphore) (o : Option Semaphore) → FitRow c (sems.close_at h xs c.waiting o)
  sem_close_of_fit h xs None = quiet c _ _
  sem_close_of_fit h xs (Some x) = record { fit = turned_fit c (places.Semaphore h) k (turned_semaphore h) }

  pub sem_close_fit : (h : ℤ) (xs : List Semaphore) → FitRow c (sems.sem_close h xs c.waiting)
  sem_close_fit h xs = sem_close_of_fit h xs (sems.semaphore_of h xs)

  -- queues
  put_last_fit : (h : ℤ) (sort : ℤ) (text : List ℕ) (xs : List queues.Queue) (x : queues.Queue) (o : Option Waiter) → first_in (places.Queue h) c.waiting ≡ o → FitRow c (queues.put_at h sort text xs x o)
  put_last_fit h sort text xs x (Some w) e = record { fit = first_fit c (places.Queue h) w _ k e (inr (sort, text, refl)) }
  put_last_fit h sort text xs x None e = either c (nat_le MOST_ELEMENTS (queues.count_items xs)) _ _ (quiet c _ _) (quiet c _ _)

  write_to_fit : (h : ℤ) (sort : ℤ) (text : List ℕ) (xs : List queues.Queue) (o : Option queues.Queue) → FitRow c (queues.write_at h sort text xs c.waiting o)
  write_to_fit h sort text xs None = quiet c _ _
  write_to_fit h sort text xs (Some x) = put_last_fit h sort text xs x (first_in (places.Queue h) c.waiting) refl

  pub write_fit : (h : ℤ) (sort : ℤ) (text : List ℕ) (xs : List queues.Queue) → FitRow c (queues.que_write h sort text xs c.waiting)
  write_fit h sort text xs = write_to_fit h sort text xs (queues.queue_of h xs)

  pub put_named_fit : (sort : ℤ) (text : List ℕ) (xs : List queues.Queue) (o : Option ℤ) → FitRow c (queues.put_named sort text xs c.waiting o)
  put_named_fit sort text xs None = quiet c _ _
  put_named_fit sort text xs (Some h) = write_fit h sort text xs

  que_close_of_fit : (h : ℤ) (xs : List queues.Queue) (o : Option queues.Queue) → FitRow c (queues.close_at h xs c.waiting o)
  que_close_of_fit h xs None = quiet c _ _
  que_close_of_fit h xs (Some x) = record { fit = turned_fit c (places.Queue h) k (turned_queue h) }

  pub que_close_fit : (h : ℤ) (xs : List queues.Queue) → FitRow c (queues.que_close h xs c.waiting)
  que_close_fit h xs = que_close_of_fit h xs (queues.queue_of h xs)

  -- sections
  giving_fit : (f : Section → Bool) (xs : List Section) → FitRow c (sections.giving f xs c.waiting)
  giving_fit f xs = record { fit = given_fit f xs c k }

  depart_from_fit : (u : ℕ) (name : List ℕ) (xs : List Section) (o : Option Section) → FitRow c (sections.depart_at u name xs c.waiting o)
  depart_from_fit u name xs None = quiet c _ _
  depart_from_fit u name xs (Some x) = either c (not (nat_eq x.owner u)) _ _ (quiet c _ _) (either c (nat_lt 1 x.count) _ _ (quiet c _ _) (giving_fit (λ y. same_text y.name name) xs))

  pub depart_fit : (u : ℕ) (name : List ℕ) (xs : List Section) → FitRow c (sections.depart u name xs c.waiting)
  depart_fit u name xs = depart_from_fit u name xs (sections.section_of name xs)

-- the late ones
late_fits : (p : Place) → FitsPlace p (Steps.late p)
late_fits (places.Semaphore n) = (2, omega arith, refl)
late_fits (places.Queue n) = inl refl
late_fits (places.Section name) = refl
late_fits places.Clock = refl

pub due_fit : (now : ℕ) (c : Roster) → Seated c → AreFit c (Steps.due now c.waiting)
due_fit now c k = picked_fit _ _ c (by_limit_picked c _ (chosen_picked (is_due now) c k)) (by_limit_all _ _ (chosen_all _ _ (λ w e. late_fits w.place) c.waiting))

-- cells
pub kinds_set : (cells : List Value) (n : ℕ) (w : Value) (k : Kind) → k ≡ kind_of w → slice_get (map kind_of cells) n ≡ Some k → map kind_of (slice_set cells n w) ≡ map kind_of cells
kinds_set [] n w k e is = refl
kinds_set (c ∷ cs) zero w k e is = let here : kind_of c ≡ k = cc is in ap (λ (z : Kind). z ∷ map kind_of cs) (sym (here ∙ e))
kinds_set (c ∷ cs) (suc n) w k e is = ap (λ (z : List Kind). kind_of c ∷ z) (kinds_set cs n w k e is)

kind_same : (a b : Kind) → same_kind a b ≡ true → a ≡ b
kind_same kinds.Int kinds.Int e = refl
kind_same kinds.Int kinds.Str e = absurd (cc)
kind_same kinds.Str kinds.Int e = absurd (cc)
kind_same kinds.Str kinds.Str e = refl

-- a birth
public_below : (n : ℕ) (name : List ℕ) (hs : List Head) (f : ℕ) → public_from n name hs ≡ Some f → f < n + length hs
public_below n name [] f e = absurd (cc)
public_below n name (h ∷ hs) f e = by (h.public && str_eq_ignore_ascii_case name h.name) (λ i. public_below (suc n) name hs f i) e
  where
    by : (b : Bool) → (public_from (suc n) name hs ≡ Some f → f < suc n + length hs) → cond b (Some n) (public_from (suc n) name hs) ≡ Some f → f < n + suc (length hs)
    by true more i = let here : n ≡ f = cc i in omega (arith, here)
    by false more i = let h = more i in omega (arith, h)

module _ (l : Basis) (s : Shared) (k : Keeps l s) (F : Type 0) (vs : List ℕ) (u : ℕ) where
  -- the tables
  pub by_semaphores_fair : (r : Row (List Semaphore)) → FitRow s.roster r → Fair EventReply F l vs u s (Steps.by_semaphores s r)
  by_semaphores_fair r h = fair_answers l s k F vs u _ _ r.deliveries refl (λ f. k.kinds) h.fit

  pub by_queues_fair : (r : Row (List queues.Queue)) → FitRow s.roster r → Fair EventReply F l vs u s (Steps.by_queues s r)
  by_queues_fair r h = fair_answers l s k F vs u _ _ r.deliveries refl (λ f. k.kinds) h.fit

  pub by_sections_fair : (r : Row (List Section)) → FitRow s.roster r → Fair EventReply F l vs u s (Steps.by_sections s r)
  by_sections_fair r h = fair_answers l s k F vs u _ _ r.deliveries refl (λ f. k.kinds) h.fit

  -- nothing changes but objects
  pub still : (new : Shared) (r : EventReply) → new.roster ≡ s.roster → map kind_of new.cells ≡ l.kinds → Fair EventReply F l vs u s (only new r)
  still new r e kinds = fair_only l s k F vs u new r e (λ f. kinds)

  -- tasks
  spawn_with_fair : (f : ℕ) (list : List ℕ) (o : Option (List Value)) → f < length l.functions → arguments l.functions f list ≡ o → Fair EventReply F l vs u s (Steps.start s (spawn_with s.roster.tasks f o))
  spawn_with_fair f list None below e = still _ _ refl k.kinds
  spawn_with_fair f list (Some args) below e = by (is_full s.roster.tasks) refl
    where
      b : Birth
      b = record { task = suc (length s.roster.tasks); function = f; args = args }

      by : (full : Bool) → is_full s.roster.tasks ≡ full → Fair EventReply F l vs u s (Steps.start s (cond full (Refused 11) (Starts (record { task = suc (length s.roster.tasks); function = f; args = args }))))
      by true full = still _ _ refl k.kinds
      by false full = fair_born l s k F vs u _ list refl below full e

  spawn_of_fair : (name list : List ℕ) (o : Option ℕ) → public_from 0 name l.functions ≡ o → Fair EventReply F l vs u s (Steps.start s (spawn_of l.functions s.roster.tasks list o))
  spawn_of_fair name list None e = still _ _ refl k.kinds
  spawn_of_fair name list (Some f) e = let below : f < 0 + length l.functions = public_below 0 name l.functions f e in spawn_with_fair f list (arguments l.functions f list) (omega (arith, below)) refl

  pub start_fair : (name list : List ℕ) → Fair EventReply F l vs u s (Steps.start s (spawn l.functions s.roster.tasks name list))
  start_fair name list = spawn_of_fair name list (public_from 0 name l.functions) refl

  pub kill_fair : (n : ℕ) → Contains vs n → Fair EventReply F l vs u s (Steps.kill s n)
  kill_fair n named = fair_if l s k F vs u _ _ _ (fair_gone l s k F vs u _ _ Killed n _ refl refl (inl named) refl k.kinds (given_fit _ s.sections (leaves Killed n s.roster) (leaves_seated s.roster n Killed refl k.seated))) (still _ _ refl k.kinds)

  pub mark_fair : (b : Bool) (n : ℕ) → Fair EventReply F l vs u s (Steps.mark b s n)
  mark_fair b n = fair_if l s k F vs u _ _ _ (fair_mark l s k F vs u b n (coded 0)) (still _ _ refl k.kinds)

  -- events
  pub tick_fair : (ms : ℕ) → Fair EventReply F l vs u s (Steps.tick s ms)
  tick_fair ms = fair_answers l s k F vs u _ _ _ refl (λ f. k.kinds) (due_fit _ s.roster k.seated)

  set_kind_fair : (w : Value) (cell : ℕ) (o : Option Kind) → slice_get l.kinds cell ≡ o → Fair EventReply F l vs u s (Steps.set_kind s w cell o)
  set_kind_fair w cell None e = still _ _ refl k.kinds
  set_kind_fair w cell (Some kind) e = by (same_kind kind (kind_of w)) refl
    where
      by : (b : Bool) → same_kind kind (kind_of w) ≡ b → Fair EventReply F l vs u s (cond b (only (Steps.written s cell w) (coded 0)) (only s (coded 10)))
      by true is = still _ _ refl (kinds_set s.cells cell w kind (kind_same kind (kind_of w) is) (ap (λ (z : List Kind). slice_get z cell) k.kinds ∙ e) ∙ k.kinds)
      by false is = still _ _ refl k.kinds

  pub set_cell_fair : (w : Value) (o : Option ℕ) → Fair EventReply F l vs u s (Steps.set_cell l s w o)
  set_cell_fair w None = still _ _ refl k.kinds
  set_cell_fair w (Some cell) = set_kind_fair w cell (slice_get l.kinds cell) refl
