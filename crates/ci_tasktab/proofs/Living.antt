-- Which tasks are live, and which one is found.
use Rattle.std.proofs.Common.{◌≡◌, ◌≢◌, ◌≤◌, ◌<◌, ◌+◌, ◌++◌, ℕ, zero, suc, Bool, true, false, cond, List, [], ◌∷◌, length, Option, Some, None, true≢false, refl, sym, ap, ap₂, ◌∙◌, eq-eqb, ne_eqb, add-zero, arith}
use Rattle.std.specs.Prelude.{filter, find, nat_eq, nat_le, not, slice_get, IfSome, ◌&&◌, ◌||◌}
use Rattle.ci_base.specs.declared.bounds.TheConstants.{MOST_LIVE_TASKS, MOST_TASKS}
use Rattle.ci_base.specs.declared.layout.Head.{Head}
use Rattle.ci_base.specs.declared.place.Place.{Place}
use Rattle.ci_base.specs.declared.place.Status.{Status}
use Rattle.ci_base.specs.declared.place.Status.TheVariants as statuses
use Rattle.ci_shared.specs.declared.waiter.Waiter.{Waiter}
use Rattle.ci_shared.specs.Roster as roster
use Rattle.ci_shared.specs.Started.{has_name, least_live}
use Rattle.ci_shared.specs.Words.{change}
use Rattle.ci_tasktab.proofs.Placing.{got_within}
use Rattle.ci_tasktab.specs.declared.slot.Slot.{Slot}
use Rattle.ci_tasktab.specs.Births.{fresh_slot}
use Rattle.ci_tasktab.specs.Slots.{change_slot, is_crowded, is_live, is_live_at, is_live_slot, live_from, live_in, runs, runs_slot, set_status, slot_at, standing_of, tasks_from, tasks_in, waiting, with_mark, with_status}

-- as the definitions see it
live_same : (status : Status) (ps : List Place) → roster.is_live (standing_of status ps) ≡ is_live status
live_same statuses.Ready ps = refl
live_same statuses.Waits [] = refl
live_same statuses.Waits (p ∷ ps) = refl
live_same (statuses.Ended code) ps = refl
live_same statuses.Killed ps = refl

counted : (ws : List Waiter) (n : ℕ) (xs : List Slot) → roster.count_live (tasks_from n ws xs) ≡ length (live_from n xs)
counted ws n [] = refl
counted ws n (x ∷ xs) =
    ap₂ (λ (b : Bool) (m : ℕ). cond b (suc m) m) (live_same x.status (roster.seats n ws)) (counted ws (suc n) xs) ∙ by (is_live x.status)
  where
    by : (b : Bool) → cond b (suc (length (live_from (suc n) xs))) (length (live_from (suc n) xs)) ≡ length (cond b (n ∷ live_from (suc n) xs) (live_from (suc n) xs))
    by true = refl
    by false = refl

pub count_live_is : (ws : List Waiter) (xs : List Slot) → roster.count_live (tasks_in ws xs) ≡ length (live_in xs)
count_live_is ws xs = counted ws 1 xs

long : (ws : List Waiter) (n : ℕ) (xs : List Slot) → length (tasks_from n ws xs) ≡ length xs
long ws n [] = refl
long ws n (x ∷ xs) = ap suc (long ws (suc n) xs)

pub length_is : (ws : List Waiter) (xs : List Slot) → length (tasks_in ws xs) ≡ length xs
length_is ws xs = long ws 1 xs

pub crowded_is : (ws : List Waiter) (xs : List Slot) → is_crowded xs ≡ roster.is_full (tasks_in ws xs)
crowded_is ws xs = ap₂ (λ (m n : ℕ). nat_le MOST_LIVE_TASKS m || nat_le MOST_TASKS n) (sym (count_live_is ws xs)) (sym (length_is ws xs))

-- a new one
pushed : (f n : ℕ) (xs : List Slot) → live_from n (xs ++ fresh_slot f ∷ []) ≡ live_from n xs ++ (n + length xs) ∷ []
pushed f n [] = ap (λ (m : ℕ). m ∷ []) (sym (add-zero n))
pushed f n (x ∷ xs) = by (is_live x.status) (pushed f (suc n) xs ∙ ap (λ (m : ℕ). live_from (suc n) xs ++ m ∷ []) more)
  where
    more : suc n + length xs ≡ n + suc (length xs)
    more = omega arith

    by : (b : Bool) → live_from (suc n) (xs ++ fresh_slot f ∷ []) ≡ live_from (suc n) xs ++ (n + suc (length xs)) ∷ [] →
        cond b (n ∷ live_from (suc n) (xs ++ fresh_slot f ∷ [])) (live_from (suc n) (xs ++ fresh_slot f ∷ [])) ≡ cond b (n ∷ live_from (suc n) xs) (live_from (suc n) xs) ++ (n + suc (length xs)) ∷ []
    by true e = ap (λ (l : List ℕ). n ∷ l) e
    by false e = e

pub live_pushed : (f : ℕ) (xs : List Slot) → live_in (xs ++ fresh_slot f ∷ []) ≡ live_in xs ++ (length xs + 1) ∷ []
live_pushed f xs = let e : 1 + length xs ≡ length xs + 1 = omega arith in pushed f 1 xs ∙ ap (λ (m : ℕ). live_in xs ++ m ∷ []) e

-- a mark, and another live status
marked_from : (b : Bool) (i n : ℕ) (xs : List Slot) → live_from n (change (with_mark b) i xs) ≡ live_from n xs
marked_from b i n [] = refl
marked_from b zero n (x ∷ xs) = refl
marked_from b (suc i) n (x ∷ xs) = ap (λ (l : List ℕ). cond (is_live x.status) (n ∷ l) l) (marked_from b i (suc n) xs)

pub live_marked : (b : Bool) (t : ℕ) (xs : List Slot) → live_in (change_slot (with_mark b) t xs) ≡ live_in xs
live_marked b zero xs = refl
live_marked b (suc i) xs = marked_from b i 1 xs

kept_from : (status : Status) → is_live status ≡ true → (i n : ℕ) (xs : List Slot) → is_live_slot (slice_get xs i) ≡ true → live_from n (change (with_status status) i xs) ≡ live_from n xs
kept_from status l i n [] e = refl
kept_from status l zero n (x ∷ xs) e = ap (λ (b : Bool). cond b (n ∷ live_from (suc n) xs) (live_from (suc n) xs)) (l ∙ sym e)
kept_from status l (suc i) n (x ∷ xs) e = ap (λ (m : List ℕ). cond (is_live x.status) (n ∷ m) m) (kept_from status l i (suc n) xs e)

pub live_kept : (status : Status) (t : ℕ) (xs : List Slot) → is_live status ≡ true → is_live_at xs t ≡ true → live_in (set_status status t xs) ≡ live_in xs
live_kept status zero xs l e = refl
live_kept status (suc i) xs l e = kept_from status l i 1 xs e

-- one is no longer live
abbrev others : ℕ → ℕ → Bool
others t n = not (nat_eq n t)

greater : (t n : ℕ) (xs : List Slot) → t < n → filter (others t) (live_from n xs) ≡ live_from n xs
greater t n [] h = refl
greater t n (x ∷ xs) h = by (is_live x.status) (let g : t < suc n = omega (arith, h) in greater t (suc n) xs g)
  where
    apart : n ≢ t
    apart e = omega (arith, h, e)

    by : (b : Bool) → filter (others t) (live_from (suc n) xs) ≡ live_from (suc n) xs → filter (others t) (cond b (n ∷ live_from (suc n) xs) (live_from (suc n) xs)) ≡ cond b (n ∷ live_from (suc n) xs) (live_from (suc n) xs)
    by true e = ap (λ (c : Bool). cond (not c) (n ∷ filter (others t) (live_from (suc n) xs)) (filter (others t) (live_from (suc n) xs))) (ne_eqb n t apart) ∙ ap (λ (l : List ℕ). n ∷ l) e
    by false e = e

gone_from : (status : Status) → is_live status ≡ false → (i n t : ℕ) (xs : List Slot) → t ≡ n + i → i < length xs → live_from n (change (with_status status) i xs) ≡ filter (others t) (live_from n xs)
gone_from status d i n t [] e h = absurd (omega (arith, h))
gone_from status d zero n t (x ∷ xs) e h =
    ap (λ (b : Bool). cond b (n ∷ live_from (suc n) xs) (live_from (suc n) xs)) d ∙ sym (by (is_live x.status))
  where
    here : n ≡ t
    here = omega (arith, e)

    rest : filter (others t) (live_from (suc n) xs) ≡ live_from (suc n) xs
    rest = let g : t < suc n = omega (arith, e) in greater t (suc n) xs g

    by : (b : Bool) → filter (others t) (cond b (n ∷ live_from (suc n) xs) (live_from (suc n) xs)) ≡ live_from (suc n) xs
    by true = ap (λ (c : Bool). cond (not c) (n ∷ filter (others t) (live_from (suc n) xs)) (filter (others t) (live_from (suc n) xs))) (eq-eqb n t here) ∙ rest
    by false = rest
gone_from status d (suc i) n t (x ∷ xs) e h = by (is_live x.status) (let f : t ≡ suc n + i = omega (arith, e) in let g : i < length xs = omega (arith, h) in gone_from status d i (suc n) t xs f g)
  where
    apart : n ≢ t
    apart f = omega (arith, e, f)

    by : (b : Bool) → live_from (suc n) (change (with_status status) i xs) ≡ filter (others t) (live_from (suc n) xs) →
        cond b (n ∷ live_from (suc n) (change (with_status status) i xs)) (live_from (suc n) (change (with_status status) i xs)) ≡ filter (others t) (cond b (n ∷ live_from (suc n) xs) (live_from (suc n) xs))
    by true f = ap (λ (l : List ℕ). n ∷ l) f ∙ sym (ap (λ (c : Bool). cond (not c) (n ∷ filter (others t) (live_from (suc n) xs)) (filter (others t) (live_from (suc n) xs))) (ne_eqb n t apart))
    by false f = f

pub live_gone : (status : Status) (t : ℕ) (xs : List Slot) → is_live status ≡ false → 1 ≤ t → t ≤ length xs → live_in (set_status status t xs) ≡ filter (λ (n : ℕ). not (nat_eq n t)) (live_in xs)
live_gone status zero xs d l m = absurd (omega (arith, l))
live_gone status (suc i) xs d l m = let e : suc i ≡ 1 + i = omega arith in let h : i < length xs = omega (arith, m) in gone_from status d i 1 (suc i) xs e h

-- the least live one of a function
found_from : (hs : List Head) (name : List ℕ) (ws : List Waiter) (zs : List Slot) (n : ℕ) (xs : List Slot) → ((k : ℕ) → slot_at zs (n + k) ≡ slice_get xs k) →
    least_live hs name n (tasks_from n ws xs) ≡ find (runs hs name zs) (live_from n xs)
found_from hs name ws zs n [] h = refl
found_from hs name ws zs n (x ∷ xs) h =
    ap₂ (λ (b : Bool) (o : Option ℕ). cond (b && has_name name (slice_get hs x.function)) (Some n) o) (live_same x.status (roster.seats n ws)) (found_from hs name ws zs (suc n) xs rest)
    ∙ by (is_live x.status)
  where
    rest : (k : ℕ) → slot_at zs (suc n + k) ≡ slice_get xs k
    rest k = let e : suc n + k ≡ n + suc k = omega arith in ap (λ (m : ℕ). slot_at zs m) e ∙ h (suc k)

    here : runs hs name zs n ≡ has_name name (slice_get hs x.function)
    here = ap (λ (m : ℕ). runs hs name zs m) (sym (add-zero n)) ∙ ap (λ (o : Option Slot). runs_slot hs name o) (h 0)

    by : (b : Bool) → cond (b && has_name name (slice_get hs x.function)) (Some n) (find (runs hs name zs) (live_from (suc n) xs)) ≡ find (runs hs name zs) (cond b (n ∷ live_from (suc n) xs) (live_from (suc n) xs))
    by true = ap (λ (c : Bool). cond c (Some n) (find (runs hs name zs) (live_from (suc n) xs))) (sym here)
    by false = refl

pub found : (hs : List Head) (name : List ℕ) (ws : List Waiter) (xs : List Slot) → least_live hs name 1 (tasks_in ws xs) ≡ find (runs hs name xs) (live_in xs)
found hs name ws xs = found_from hs name ws xs 1 xs (λ k. let e : 1 + k ≡ suc k = omega arith in ap (λ (m : ℕ). slot_at xs m) e)

pub waiting_lives : (status : Status) (waits : Bool) → status ≡ waiting waits → is_live status ≡ true
waiting_lives status true e = ap (λ (s : Status). is_live s) e
waiting_lives status false e = ap (λ (s : Status). is_live s) e

-- the one that is found was started
find_holds : (test : ℕ → Bool) (ts : List ℕ) (t : ℕ) → find test ts ≡ Some t → test t ≡ true
find_holds test [] t e = absurd (cc e)
find_holds test (u ∷ ts) t e = by (test u) refl (λ f. find_holds test ts t f) e
  where
    by : (b : Bool) → test u ≡ b → (find test ts ≡ Some t → test t ≡ true) → cond b (Some u) (find test ts) ≡ Some t → test t ≡ true
    by true i more f = let same : u ≡ t = cc f in ap (λ (n : ℕ). test n) (sym same) ∙ i
    by false i more f = more f

runs_within : (hs : List Head) (name : List ℕ) (xs : List Slot) (t : ℕ) → runs hs name xs t ≡ true → t ≤ length xs
runs_within hs name xs zero e = omega arith
runs_within hs name xs (suc i) e = by (slice_get xs i) refl e
  where
    by : (o : Option Slot) → slice_get xs i ≡ o → runs_slot hs name o ≡ true → suc i ≤ length xs
    by None is r = absurd (true≢false (sym r))
    by (Some x) is r = let lt : i < length xs = got_within xs i x is in omega (arith, lt)

pub found_within : (hs : List Head) (name : List ℕ) (xs : List Slot) (ts : List ℕ) (r : Option ℕ) → length xs ≤ MOST_TASKS → r ≡ find (runs hs name xs) ts → IfSome r (λ t. t ≤ MOST_TASKS)
found_within hs name xs ts None many e = tt
found_within hs name xs ts (Some t) many e = let lt : t ≤ length xs = runs_within hs name xs t (find_holds (runs hs name xs) ts t (sym e)) in omega (arith, lt, many)
