-- How many are live, wait, and are answered.
use Rattle.std.proofs.Common.{◌≡◌, ◌≤◌, ◌<◌, ◌+◌, ◌++◌, ℕ, zero, suc, Bool, true, false, cond, List, [], ◌∷◌, length, Option, Some, refl, sym, ap, ◌∙◌, subst, inl, inr, eq-eqb, eqb, arith, length-append}
use Rattle.ci_base.specs.declared.place.Place.{Place}
use Rattle.ci_base.specs.declared.task.Delivery.{Delivery}
use Rattle.ci_shared.proofs.Fit.{AreFit, alone}
use Rattle.ci_shared.proofs.Numbers.{decide}
use Rattle.ci_shared.proofs.Seats.{joins_seated, leaves_seated, seats_here, standing_other, unplaced}
use Rattle.ci_shared.specs.Laws.{AllWaited, Seated, seat_of}
use Rattle.ci_shared.specs.Roster.{Killed, Ready, Roster, Standing, Task, Waiting, after_answers, change_task, count_live, is_live, leaves, seats, set_standing, standing_at, standing_from, standing_in, with_mark, with_standing, without}
use Rattle.ci_shared.specs.Words.{change}
use Rattle.ci_shared.specs.declared.waiter.Waiter.{Waiter}

-- live ones
one_if : Bool → ℕ → ℕ
one_if b n = cond b (suc n) n

same_live_from : (xs : List Task) (n : ℕ) (s y : Standing) → standing_from xs n ≡ Some s → is_live s ≡ is_live y → count_live (change (with_standing y) n xs) ≡ count_live xs
same_live_from [] n s y e h = refl
same_live_from (x ∷ xs) zero s y e h = let same : x.standing ≡ s = cc e in ap (λ (b : Bool). cond b (suc (count_live xs)) (count_live xs)) (sym h ∙ ap is_live (sym same))
same_live_from (x ∷ xs) (suc n) s y e h = ap (λ (m : ℕ). cond (is_live x.standing) (suc m) m) (same_live_from xs n s y e h)

pub same_live : (xs : List Task) (t : ℕ) (s y : Standing) → standing_in xs t ≡ Some s → is_live s ≡ is_live y → count_live (set_standing y t xs) ≡ count_live xs
same_live xs zero s y e h = refl
same_live xs (suc n) s y e h = same_live_from xs n s y e h

fewer_from : (xs : List Task) (n : ℕ) (s y : Standing) → standing_from xs n ≡ Some s → is_live s ≡ true → is_live y ≡ false → suc (count_live (change (with_standing y) n xs)) ≡ count_live xs
fewer_from [] n s y e a b = absurd (cc)
fewer_from (x ∷ xs) zero s y e a b =
    let same : x.standing ≡ s = cc e in
    ap (λ (z : Bool). suc (cond z (suc (count_live xs)) (count_live xs))) b ∙ sym (ap (λ (z : Bool). cond z (suc (count_live xs)) (count_live xs)) (ap is_live same ∙ a))
fewer_from (x ∷ xs) (suc n) s y e a b = by (is_live x.standing) (fewer_from xs n s y e a b)
  where
    by : (z : Bool) → suc (count_live (change (with_standing y) n xs)) ≡ count_live xs → suc (cond z (suc (count_live (change (with_standing y) n xs))) (count_live (change (with_standing y) n xs))) ≡ cond z (suc (count_live xs)) (count_live xs)
    by true h = ap suc h
    by false h = h

fewer : (xs : List Task) (t : ℕ) (s y : Standing) → standing_in xs t ≡ Some s → is_live s ≡ true → is_live y ≡ false → suc (count_live (set_standing y t xs)) ≡ count_live xs
fewer xs zero s y e a b = absurd (cc)
fewer xs (suc n) s y e a b = fewer_from xs n s y e a b

no_more_from : (xs : List Task) (n : ℕ) (y : Standing) → is_live y ≡ false → count_live (change (with_standing y) n xs) ≤ count_live xs
no_more_from [] n y b = omega arith
no_more_from (x ∷ xs) zero y b = subst (λ (m : ℕ). m ≤ count_live (x ∷ xs)) (sym (ap (λ (z : Bool). cond z (suc (count_live xs)) (count_live xs)) b)) (by (is_live x.standing))
  where
    by : (z : Bool) → count_live xs ≤ cond z (suc (count_live xs)) (count_live xs)
    by true = omega arith
    by false = omega arith
no_more_from (x ∷ xs) (suc n) y b = by (is_live x.standing) (no_more_from xs n y b)
  where
    by : (z : Bool) → count_live (change (with_standing y) n xs) ≤ count_live xs → cond z (suc (count_live (change (with_standing y) n xs))) (count_live (change (with_standing y) n xs)) ≤ cond z (suc (count_live xs)) (count_live xs)
    by true h = omega (arith, h)
    by false h = h

pub no_more : (xs : List Task) (t : ℕ) (y : Standing) → is_live y ≡ false → count_live (set_standing y t xs) ≤ count_live xs
no_more xs zero y b = omega arith
no_more xs (suc n) y b = no_more_from xs n y b

marked_live_from : (b : Bool) (xs : List Task) (n : ℕ) → count_live (change (with_mark b) n xs) ≡ count_live xs
marked_live_from b [] n = refl
marked_live_from b (x ∷ xs) zero = refl
marked_live_from b (x ∷ xs) (suc n) = ap (λ (m : ℕ). cond (is_live x.standing) (suc m) m) (marked_live_from b xs n)

pub marked_live : (b : Bool) (xs : List Task) (t : ℕ) → count_live (change_task (with_mark b) t xs) ≡ count_live xs
marked_live b xs zero = refl
marked_live b xs (suc n) = marked_live_from b xs n

pub pushed_live : (xs : List Task) (y : Task) → count_live (xs ++ y ∷ []) ≤ suc (count_live xs)
pushed_live [] y = by (is_live y.standing)
  where
    by : (z : Bool) → cond z 1 0 ≤ 1
    by true = omega arith
    by false = omega arith
pushed_live (x ∷ xs) y = by (is_live x.standing) (pushed_live xs y)
  where
    by : (z : Bool) → count_live (xs ++ y ∷ []) ≤ suc (count_live xs) → cond z (suc (count_live (xs ++ y ∷ []))) (count_live (xs ++ y ∷ [])) ≤ suc (cond z (suc (count_live xs)) (count_live xs))
    by true h = omega (arith, h)
    by false h = h

pub answers_live : (ds : List Delivery) (c : Roster) → AreFit c ds → count_live (after_answers ds c).tasks ≡ count_live c.tasks
answers_live [] c f = refl
answers_live (d ∷ ds) c f = answers_live ds (leaves Ready d.task c) f.1 ∙ same_live c.tasks d.task (Waiting f.0.0) Ready f.0.1 refl

-- those who wait are live
pub without_nobody : (t : ℕ) (ws : List Waiter) → seats t ws ≡ [] → without t ws ≡ ws
without_nobody t [] e = refl
without_nobody t (w ∷ ws) e = by (eqb w.task t) (λ i. without_nobody t ws i) e
  where
    by : (b : Bool) → (seats t ws ≡ [] → without t ws ≡ ws) → cond b (w.place ∷ seats t ws) (seats t ws) ≡ [] → cond b (without t ws) (w ∷ without t ws) ≡ w ∷ ws
    by true more i = absurd (cc i)
    by false more i = ap (λ (l : List Waiter). w ∷ l) (more i)

without_first : (w : Waiter) (ws : List Waiter) → seats w.task ws ≡ [] → without w.task (w ∷ ws) ≡ ws
without_first w ws e = ap (λ (b : Bool). cond b (without w.task ws) (w ∷ without w.task ws)) (eq-eqb w.task w.task refl) ∙ without_nobody w.task ws e

pub waiting_live : (ws : List Waiter) (xs : List Task) → Seated (record { tasks = xs; waiting = ws }) → length ws ≤ count_live xs
waiting_live [] xs h = omega arith
waiting_live (w ∷ ws) xs h =
    let one : (standing_in xs w.task ≡ Some (Waiting w.place)) × (seats w.task ws ≡ []) = alone (standing_in xs w.task) w.place (seats w.task ws) (sym (seats_here w.task w ws refl) ∙ h w.task) in
    let next : Seated (record { tasks = set_standing Killed w.task xs; waiting = ws }) =
    subst (λ (l : List Waiter). Seated (record { tasks = set_standing Killed w.task xs; waiting = l })) (without_first w ws one.1) (leaves_seated (record { tasks = xs; waiting = w ∷ ws }) w.task Killed refl h) in
    let rest : length ws ≤ count_live (set_standing Killed w.task xs) = waiting_live ws (set_standing Killed w.task xs) next in
    let fall : suc (count_live (set_standing Killed w.task xs)) ≡ count_live xs = fewer xs w.task (Waiting w.place) Killed one.0 refl refl in
    omega (arith, rest, fall)

-- room to wait
pub room_to_wait : (c : Roster) (u : ℕ) (p : Place) (limit : Option ℕ) → Seated c → standing_at c u ≡ Some Ready → length c.waiting < count_live c.tasks
room_to_wait c u p limit h ready =
    let more : length (c.waiting ++ record { task = u; place = p; limit = limit } ∷ []) ≤ count_live (set_standing (Waiting p) u c.tasks) = waiting_live _ _ (joins_seated c u p limit ready h) in
    let live : count_live (set_standing (Waiting p) u c.tasks) ≡ count_live c.tasks = same_live c.tasks u Ready (Waiting p) ready refl in
    let long : length (c.waiting ++ record { task = u; place = p; limit = limit } ∷ []) ≡ length c.waiting + 1 = length-append c.waiting (record { task = u; place = p; limit = limit } ∷ []) in
    omega (arith, more, live, long)

-- each answered one leaves
pub no_longer : (t : ℕ) (ws : List Waiter) → length (without t ws) ≤ length ws
no_longer t [] = omega arith
no_longer t (w ∷ ws) = step (eqb w.task t) (no_longer t ws)
  where
    step : (b : Bool) → length (without t ws) ≤ length ws → length (cond b (without t ws) (w ∷ without t ws)) ≤ suc (length ws)
    step true h = omega (arith, h)
    step false h = omega (arith, h)

pub shorter : (t : ℕ) (ws : List Waiter) (p : Place) (l : List Place) → seats t ws ≡ p ∷ l → suc (length (without t ws)) ≤ length ws
shorter t [] p l e = absurd (cc)
shorter t (w ∷ ws) p l e = by (eqb w.task t) (no_longer t ws) (λ i. shorter t ws p l i) e
  where
    by : (b : Bool) → length (without t ws) ≤ length ws → (seats t ws ≡ p ∷ l → suc (length (without t ws)) ≤ length ws) → cond b (w.place ∷ seats t ws) (seats t ws) ≡ p ∷ l → suc (length (cond b (without t ws) (w ∷ without t ws))) ≤ suc (length ws)
    by true h more i = omega (arith, h)
    by false h more i = let r : suc (length (without t ws)) ≤ length ws = more i in omega (arith, r)

pub answers_few : (ds : List Delivery) (c : Roster) → Seated c → AreFit c ds → length ds ≤ length c.waiting
answers_few [] c h f = omega arith
answers_few (d ∷ ds) c h f =
    let rest : length ds ≤ length (without d.task c.waiting) = answers_few ds (leaves Ready d.task c) (leaves_seated c d.task Ready refl h) f.1 in
    let short : suc (length (without d.task c.waiting)) ≤ length c.waiting = shorter d.task c.waiting f.0.0 [] (h d.task ∙ ap seat_of f.0.1) in
    omega (arith, rest, short)

-- they waited before as well
waited_before : (c : Roster) (n t : ℕ) (y : Standing) (p : Place) → seat_of (Some y) ≡ [] → standing_at (leaves y n c) t ≡ Some (Waiting p) → standing_at c t ≡ Some (Waiting p)
waited_before c n t y p out e = elim (decide t n) [
  | inl same ↦ absurd (no (sym (ap seat_of e) ∙ ap (λ (k : ℕ). seat_of (standing_in (set_standing y n c.tasks) k)) same ∙ unplaced c.tasks n y out))
  | inr o ↦ sym (standing_other c.tasks n t y o) ∙ e
]
  where
    no : p ∷ [] ≡ [] → ⊥
    no e = cc

pub all_before : (ds : List Delivery) (c : Roster) (n : ℕ) (y : Standing) → seat_of (Some y) ≡ [] → AllWaited (leaves y n c) ds → AllWaited c ds
all_before [] c n y out h = tt
all_before (d ∷ ds) c n y out h = ((h.0.0, waited_before c n d.task y h.0.0 out h.0.1, h.0.2), all_before ds c n y out h.1)

pub all_waited : (ds : List Delivery) (c : Roster) → AreFit c ds → AllWaited c ds
all_waited [] c f = tt
all_waited (d ∷ ds) c f = (f.0, all_before ds c d.task Ready refl (all_waited ds (leaves Ready d.task c) f.1))
