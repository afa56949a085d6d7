-- The tasks of the table, with their places from the lines.
use Rattle.std.proofs.Common.{◌≡◌, ◌≢◌, ◌<◌, ◌+◌, ◌++◌, ℕ, zero, suc, Bool, true, false, List, [], ◌∷◌, Option, Some, None, refl, sym, ap, ap₂, ◌∙◌, subst, arith, add-zero, true≢false, drop, drop-cons, get_or, length, add-one}
use Rattle.std.specs.Prelude.{option_map, slice_get}
use Rattle.ci_base.specs.declared.place.Place.{Place}
use Rattle.ci_base.specs.declared.place.Status.{Status}
use Rattle.ci_base.specs.declared.place.Status.TheVariants as statuses
use Rattle.ci_base.specs.declared.task.Delivery.{Delivery}
use Rattle.ci_shared.proofs.Fit.{AreFit}
use Rattle.ci_shared.proofs.Counting.{all_waited}
use Rattle.ci_shared.proofs.Seats.{seats_append, seats_there, without_other}
use Rattle.ci_shared.specs.declared.waiter.Waiter.{Waiter}
use Rattle.ci_shared.specs.Laws.{AllWaited}
use Rattle.ci_shared.specs.Roster as roster
use Rattle.ci_shared.specs.Roster.{Ready, Roster, Standing, Task, Waiting, change_task, joins, lines_after, seats, set_standing, standing_from, standing_in, tasks_after, with_standing, without}
use Rattle.ci_shared.specs.Words.{change}
use Rattle.ci_tasktab.specs.declared.slot.Slot.{Slot}
use Rattle.ci_tasktab.specs.Births.{fresh_slot}
use Rattle.ci_tasktab.specs.Slots.{change_slot, is_live, is_live_at, is_live_slot, set_status, slot_at, standing_of, tasks_from, tasks_in, with_mark, with_status}
use Rattle.ci_store.specs.Done.{AllLive, freed}

-- all but one stand where they stood
abbrev pub Elsewhere : ℕ → List Waiter → List Waiter → Type 0
Elsewhere u ws ws' = (t : ℕ) → t ≢ u → seats t ws' ≡ seats t ws

same_from : (u n : ℕ) (ws ws' : List Waiter) (xs : List Slot) → u < n → Elsewhere u ws ws' → tasks_from n ws' xs ≡ tasks_from n ws xs
same_from u n ws ws' [] l h = refl
same_from u n ws ws' (x ∷ xs) l h =
    let more : u < suc n = omega (arith, l) in
    ap₂ (λ (ps : List Place) (ts : List Task). record { function = x.function; standing = standing_of x.status ps; suspended = x.suspended } ∷ ts) (h n (λ e. omega (arith, l, e))) (same_from u (suc n) ws ws' xs more h)

changed_from : (status : Status) (new : Standing) (u i n : ℕ) (ws ws' : List Waiter) (xs : List Slot) → u ≡ n + i → Elsewhere u ws ws' → standing_of status (seats u ws') ≡ new →
    tasks_from n ws' (change (with_status status) i xs) ≡ change (with_standing new) i (tasks_from n ws xs)
changed_from status new u i n ws ws' [] e h s = refl
changed_from status new u zero n ws ws' (x ∷ xs) e h s =
    let here : n ≡ u = omega (arith, e) in
    let less : u < suc n = omega (arith, here) in
    ap₂ (λ (st : Standing) (ts : List Task). record { function = x.function; standing = st; suspended = x.suspended } ∷ ts) (ap (λ (t : ℕ). standing_of status (seats t ws')) here ∙ s) (same_from u (suc n) ws ws' xs less h)
changed_from status new u (suc i) n ws ws' (x ∷ xs) e h s =
    let next : u ≡ suc n + i = omega (arith, e) in
    ap₂ (λ (ps : List Place) (ts : List Task). record { function = x.function; standing = standing_of x.status ps; suspended = x.suspended } ∷ ts) (h n (λ f. omega (arith, e, f)))
    (changed_from status new u i (suc n) ws ws' xs next h s)

-- one task stands otherwise, and the others as before
pub one_changed : (status : Status) (new : Standing) (u : ℕ) (ws ws' : List Waiter) (xs : List Slot) → Elsewhere u ws ws' → standing_of status (seats u ws') ≡ new → tasks_in ws' (set_status status u xs) ≡ set_standing new u (tasks_in ws xs)
one_changed status new zero ws ws' xs h s = let less : 0 < 1 = omega arith in same_from 0 1 ws ws' xs less h
one_changed status new (suc i) ws ws' xs h s = let e : suc i ≡ 1 + i = omega arith in changed_from status new (suc i) i 1 ws ws' xs e h s

pub elsewhere_without : (u : ℕ) (ws : List Waiter) → Elsewhere u ws (without u ws)
elsewhere_without u ws = λ t n. without_other t u ws n

pub elsewhere_joined : (u : ℕ) (ws : List Waiter) (w : Waiter) → w.task ≡ u → Elsewhere u ws (ws ++ w ∷ [])
elsewhere_joined u ws w e = λ t n. seats_append t ws w ∙ ap (λ (l : List Place). seats t ws ++ l) (seats_there t w [] (λ same. n (sym same ∙ e))) ∙ append_nil (seats t ws)
  where
    append_nil : (xs : List Place) → xs ++ [] ≡ xs
    append_nil [] = refl
    append_nil (x ∷ xs) = ap (λ (l : List Place). x ∷ l) (append_nil xs)

-- the answered leave their lines and are ready
pub freed_is : (ds : List Delivery) (ws : List Waiter) (xs : List Slot) → tasks_in (lines_after ds ws) (freed ds xs) ≡ tasks_after ds (tasks_in ws xs)
freed_is [] ws xs = refl
freed_is (d ∷ ds) ws xs =
    freed_is ds (without d.task ws) (set_status statuses.Ready d.task xs)
    ∙ ap (λ (ts : List Task). tasks_after ds ts) (one_changed statuses.Ready Ready d.task ws (without d.task ws) xs (elsewhere_without d.task ws) refl)

-- how a task stands
stands_from : (ws : List Waiter) (n i : ℕ) (xs : List Slot) → standing_from (tasks_from n ws xs) i ≡ option_map (λ (x : Slot). standing_of x.status (seats (n + i) ws)) (slice_get xs i)
stands_from ws n i [] = refl
stands_from ws n zero (x ∷ xs) = ap (λ (t : ℕ). Some (standing_of x.status (seats t ws))) (sym (add-zero n))
stands_from ws n (suc i) (x ∷ xs) =
    let e : suc n + i ≡ n + suc i = omega arith in
    stands_from ws (suc n) i xs ∙ ap (λ (t : ℕ). option_map (λ (y : Slot). standing_of y.status (seats t ws)) (slice_get xs i)) e

pub standing_is : (ws : List Waiter) (xs : List Slot) (t : ℕ) → standing_in (tasks_in ws xs) t ≡ option_map (λ (x : Slot). standing_of x.status (seats t ws)) (slot_at xs t)
standing_is ws xs zero = refl
standing_is ws xs (suc i) =
    let e : 1 + i ≡ suc i = omega arith in
    stands_from ws 1 i xs ∙ ap (λ (t : ℕ). option_map (λ (y : Slot). standing_of y.status (seats t ws)) (slice_get xs i)) e

live_same : (status : Status) (ps : List Place) → roster.is_live (standing_of status ps) ≡ is_live status
live_same statuses.Ready ps = refl
live_same statuses.Waits [] = refl
live_same statuses.Waits (p ∷ ps) = refl
live_same (statuses.Ended code) ps = refl
live_same statuses.Killed ps = refl

pub live_is : (ws : List Waiter) (xs : List Slot) (t : ℕ) → roster.is_live_at (standing_in (tasks_in ws xs) t) ≡ is_live_at xs t
live_is ws xs t = ap (λ (o : Option Standing). roster.is_live_at o) (standing_is ws xs t) ∙ by (slot_at xs t)
  where
    by : (o : Option Slot) → roster.is_live_at (option_map (λ (x : Slot). standing_of x.status (seats t ws)) o) ≡ is_live_slot o
    by None = refl
    by (Some x) = live_same x.status (seats t ws)

pub stands_live : (ws : List Waiter) (xs : List Slot) (t : ℕ) (st : Standing) → standing_in (tasks_in ws xs) t ≡ Some st → roster.is_live st ≡ true → is_live_at xs t ≡ true
stands_live ws xs t st e l = sym (live_is ws xs t) ∙ ap (λ (o : Option Standing). roster.is_live_at o) e ∙ l

-- those who are answered are live
all_live : (ws : List Waiter) (xs : List Slot) (ds : List Delivery) → AllWaited (record { tasks = tasks_in ws xs; waiting = ws }) ds → AllLive ds xs
all_live ws xs [] h = tt
all_live ws xs (d ∷ ds) h = (stands_live ws xs d.task (Waiting h.0.0) h.0.1 refl, all_live ws xs ds h.1)

pub fit_lives : (ws : List Waiter) (xs : List Slot) (ds : List Delivery) → AreFit (record { tasks = tasks_in ws xs; waiting = ws }) ds → AllLive ds xs
fit_lives ws xs ds h = all_live ws xs ds (all_waited ds (record { tasks = tasks_in ws xs; waiting = ws }) h)

-- and stay so
kept_from : (xs : List Slot) (i j : ℕ) → is_live_slot (slice_get xs j) ≡ true → is_live_slot (slice_get (change (with_status statuses.Ready) i xs) j) ≡ true
kept_from [] i j e = e
kept_from (x ∷ xs) zero zero e = refl
kept_from (x ∷ xs) zero (suc j) e = e
kept_from (x ∷ xs) (suc i) zero e = e
kept_from (x ∷ xs) (suc i) (suc j) e = kept_from xs i j e

live_kept : (xs : List Slot) (t u : ℕ) → is_live_at xs u ≡ true → is_live_at (set_status statuses.Ready t xs) u ≡ true
live_kept xs zero u e = e
live_kept xs (suc i) zero e = absurd (true≢false (sym e))
live_kept xs (suc i) (suc j) e = kept_from xs i j e

pub all_kept : (ds : List Delivery) (xs : List Slot) (t : ℕ) → AllLive ds xs → AllLive ds (set_status statuses.Ready t xs)
all_kept [] xs t h = tt
all_kept (d ∷ ds) xs t h = (live_kept xs t d.task h.0, all_kept ds xs t h.1)

-- marks and new tasks
marked_from : (b : Bool) (n i : ℕ) (ws : List Waiter) (xs : List Slot) → tasks_from n ws (change (with_mark b) i xs) ≡ change (roster.with_mark b) i (tasks_from n ws xs)
marked_from b n i ws [] = refl
marked_from b n zero ws (x ∷ xs) = refl
marked_from b n (suc i) ws (x ∷ xs) = ap (λ (ts : List Task). record { function = x.function; standing = standing_of x.status (seats n ws); suspended = x.suspended } ∷ ts) (marked_from b (suc n) i ws xs)

pub marked_is : (b : Bool) (t : ℕ) (ws : List Waiter) (xs : List Slot) → tasks_in ws (change_slot (with_mark b) t xs) ≡ change_task (roster.with_mark b) t (tasks_in ws xs)
marked_is b zero ws xs = refl
marked_is b (suc i) ws xs = marked_from b 1 i ws xs

pushed_from : (f n : ℕ) (ws : List Waiter) (xs : List Slot) → tasks_from n ws (xs ++ fresh_slot f ∷ []) ≡ tasks_from n ws xs ++ record { function = f; standing = Ready; suspended = false } ∷ []
pushed_from f n ws [] = refl
pushed_from f n ws (x ∷ xs) = ap (λ (ts : List Task). record { function = x.function; standing = standing_of x.status (seats n ws); suspended = x.suspended } ∷ ts) (pushed_from f (suc n) ws xs)

pub pushed_is : (f : ℕ) (ws : List Waiter) (xs : List Slot) → tasks_in ws (xs ++ fresh_slot f ∷ []) ≡ tasks_in ws xs ++ record { function = f; standing = Ready; suspended = false } ∷ []
pushed_is f ws xs = pushed_from f 1 ws xs

-- one after another
pub one_freed : (ds : List Delivery) (i : ℕ) (e : Delivery) (xs : List Slot) → i < length ds → AllLive (drop i ds) xs →
    (is_live_at xs (get_or ds i e).task ≡ true) × AllLive (drop (i + 1) ds) (set_status statuses.Ready (get_or ds i e).task xs) × (freed (drop (i + 1) ds) (set_status statuses.Ready (get_or ds i e).task xs) ≡ freed (drop i ds) xs)
one_freed ds i e xs l h =
    let cut : drop i ds ≡ get_or ds i e ∷ drop (i + 1) ds = drop-cons ds i e l ∙ ap (λ (n : ℕ). get_or ds i e ∷ drop n ds) (sym (add-one i)) in
    let live : AllLive (get_or ds i e ∷ drop (i + 1) ds) xs = subst (λ (es : List Delivery). AllLive es xs) cut h in
    (live.0, all_kept (drop (i + 1) ds) xs (get_or ds i e).task live.1, sym (ap (λ (es : List Delivery). freed es xs) cut))
