-- Who sits where, after a task leaves or joins a line.
use Rattle.std.proofs.Common.{◌≡◌, ◌≢◌, ◌++◌, ℕ, zero, suc, Bool, true, false, cond, List, [], ◌∷◌, Option, Some, refl, sym, ap, ◌∙◌, subst, inl, inr, ne_eqb, eq-eqb, eqb}
use Rattle.ci_base.specs.declared.place.Place.{Place}
use Rattle.ci_shared.proofs.Numbers.{decide, eqb_apart, eqb_same}
use Rattle.ci_shared.specs.Laws.{Seated, functions, seat_of}
use Rattle.ci_shared.specs.Roster.{Ready, Roster, Standing, Task, Waiting, change_task, joins, leaves, seats, set_standing, standing_at, standing_from, standing_in, with_mark, with_standing, without}
use Rattle.ci_shared.specs.Words.{change}
use Rattle.ci_shared.specs.declared.waiter.Waiter.{Waiter}

-- how tasks stand
set_here : (xs : List Task) (n : ℕ) (s y : Standing) → standing_from xs n ≡ Some s → standing_from (change (with_standing y) n xs) n ≡ Some y
set_here [] n s y e = absurd (cc)
set_here (x ∷ xs) zero s y e = refl
set_here (x ∷ xs) (suc n) s y e = set_here xs n s y e

set_there : (f : Task → Task) (xs : List Task) (i j : ℕ) → j ≢ i → standing_from (change f i xs) j ≡ standing_from xs j
set_there f [] i j n = refl
set_there f (x ∷ xs) zero zero n = absurd (n refl)
set_there f (x ∷ xs) zero (suc j) n = refl
set_there f (x ∷ xs) (suc i) zero n = refl
set_there f (x ∷ xs) (suc i) (suc j) n = set_there f xs i j (λ e. n (ap suc e))

pub standing_set : (xs : List Task) (t : ℕ) (s y : Standing) → standing_in xs t ≡ Some s → standing_in (set_standing y t xs) t ≡ Some y
standing_set xs zero s y e = absurd (cc)
standing_set xs (suc n) s y e = set_here xs n s y e

pub standing_other : (xs : List Task) (u t : ℕ) (y : Standing) → t ≢ u → standing_in (set_standing y u xs) t ≡ standing_in xs t
standing_other xs zero t y n = refl
standing_other xs (suc u) zero y n = refl
standing_other xs (suc u) (suc t) y n = set_there (with_standing y) xs u t (λ e. n (ap suc e))

marked_from : (b : Bool) (xs : List Task) (i j : ℕ) → standing_from (change (with_mark b) i xs) j ≡ standing_from xs j
marked_from b [] i j = refl
marked_from b (x ∷ xs) zero zero = refl
marked_from b (x ∷ xs) zero (suc j) = refl
marked_from b (x ∷ xs) (suc i) zero = refl
marked_from b (x ∷ xs) (suc i) (suc j) = marked_from b xs i j

pub standing_marked : (b : Bool) (xs : List Task) (u t : ℕ) → standing_in (change_task (with_mark b) u xs) t ≡ standing_in xs t
standing_marked b xs zero t = refl
standing_marked b xs (suc u) zero = refl
standing_marked b xs (suc u) (suc t) = marked_from b xs u t

pushed_from : (xs : List Task) (y : Task) (n : ℕ) (s : Standing) → standing_from xs n ≡ Some s → standing_from (xs ++ y ∷ []) n ≡ Some s
pushed_from [] y n s e = absurd (cc)
pushed_from (x ∷ xs) y zero s e = e
pushed_from (x ∷ xs) y (suc n) s e = pushed_from xs y n s e

pub standing_pushed : (xs : List Task) (y : Task) (t : ℕ) (s : Standing) → standing_in xs t ≡ Some s → standing_in (xs ++ y ∷ []) t ≡ Some s
standing_pushed xs y zero s e = absurd (cc)
standing_pushed xs y (suc n) s e = pushed_from xs y n s e

-- functions stay
same_functions_at : (f : Task → Task) → ((x : Task) → (f x).function ≡ x.function) → (xs : List Task) (n : ℕ) → functions (change f n xs) ≡ functions xs
same_functions_at f h [] n = refl
same_functions_at f h (x ∷ xs) zero = ap (λ (m : ℕ). m ∷ functions xs) (h x)
same_functions_at f h (x ∷ xs) (suc n) = ap (λ (l : List ℕ). x.function ∷ l) (same_functions_at f h xs n)

pub same_functions : (f : Task → Task) → ((x : Task) → (f x).function ≡ x.function) → (xs : List Task) (t : ℕ) → functions (change_task f t xs) ≡ functions xs
same_functions f h xs zero = refl
same_functions f h xs (suc n) = same_functions_at f h xs n

-- seats
pub seats_here : (t : ℕ) (w : Waiter) (ws : List Waiter) → w.task ≡ t → seats t (w ∷ ws) ≡ w.place ∷ seats t ws
seats_here t w ws e = ap (λ (b : Bool). cond b (w.place ∷ seats t ws) (seats t ws)) (eq-eqb w.task t e)

pub seats_there : (t : ℕ) (w : Waiter) (ws : List Waiter) → w.task ≢ t → seats t (w ∷ ws) ≡ seats t ws
seats_there t w ws n = ap (λ (b : Bool). cond b (w.place ∷ seats t ws) (seats t ws)) (ne_eqb w.task t n)

pub without_gone : (t : ℕ) (ws : List Waiter) → seats t (without t ws) ≡ []
without_gone t [] = refl
without_gone t (w ∷ ws) = by (eqb w.task t) refl (without_gone t ws)
  where
    by : (b : Bool) → eqb w.task t ≡ b → seats t (without t ws) ≡ [] → seats t (cond b (without t ws) (w ∷ without t ws)) ≡ []
    by true e h = h
    by false e h = seats_there t w (without t ws) (eqb_apart w.task t e) ∙ h

pub without_other : (t u : ℕ) (ws : List Waiter) → t ≢ u → seats t (without u ws) ≡ seats t ws
without_other t u [] n = refl
without_other t u (w ∷ ws) n = by (eqb w.task u) refl (without_other t u ws n)
  where
    by : (b : Bool) → eqb w.task u ≡ b → seats t (without u ws) ≡ seats t ws → seats t (cond b (without u ws) (w ∷ without u ws)) ≡ seats t (w ∷ ws)
    by true e h = h ∙ sym (seats_there t w ws (λ same. n (sym same ∙ eqb_same w.task u e)))
    by false e h = ap (λ (l : List Place). cond (eqb w.task t) (w.place ∷ l) l) h

pub seats_append : (t : ℕ) (ws : List Waiter) (v : Waiter) → seats t (ws ++ v ∷ []) ≡ seats t ws ++ seats t (v ∷ [])
seats_append t [] v = refl
seats_append t (w ∷ ws) v = by (eqb w.task t) (seats_append t ws v)
  where
    by : (b : Bool) → seats t (ws ++ v ∷ []) ≡ seats t ws ++ seats t (v ∷ []) → cond b (w.place ∷ seats t (ws ++ v ∷ [])) (seats t (ws ++ v ∷ [])) ≡ cond b (w.place ∷ seats t ws) (seats t ws) ++ seats t (v ∷ [])
    by true h = ap (λ (l : List Place). w.place ∷ l) h
    by false h = h

-- the invariant
unplaced_from : (xs : List Task) (n : ℕ) (y : Standing) → seat_of (Some y) ≡ [] → seat_of (standing_from (change (with_standing y) n xs) n) ≡ []
unplaced_from [] n y e = refl
unplaced_from (x ∷ xs) zero y e = e
unplaced_from (x ∷ xs) (suc n) y e = unplaced_from xs n y e

pub unplaced : (xs : List Task) (t : ℕ) (y : Standing) → seat_of (Some y) ≡ [] → seat_of (standing_in (set_standing y t xs) t) ≡ []
unplaced xs zero y e = refl
unplaced xs (suc n) y e = unplaced_from xs n y e

pub leaves_seated : (c : Roster) (u : ℕ) (y : Standing) → seat_of (Some y) ≡ [] → Seated c → Seated (leaves y u c)
leaves_seated c u y e h t = elim (decide t u) [
  | inl same ↦ subst (λ (k : ℕ). seats t (without k c.waiting) ≡ seat_of (standing_in (set_standing y k c.tasks) t)) same (without_gone t c.waiting ∙ sym (unplaced c.tasks t y e))
  | inr n ↦ without_other t u c.waiting n ∙ h t ∙ ap seat_of (sym (standing_other c.tasks u t y n))
]

pub joins_seated : (c : Roster) (u : ℕ) (p : Place) (limit : Option ℕ) → standing_at c u ≡ Some Ready → Seated c → Seated (joins u p limit c)
joins_seated c u p limit ready h t = elim (decide t u) [
  | inl same ↦ subst (λ (k : ℕ). seats k (joins u p limit c).waiting ≡ seat_of (standing_in (joins u p limit c).tasks k)) (sym same)
      (seats_append u c.waiting v ∙ ap (λ (l : List Place). l ++ seats u (v ∷ [])) (h u ∙ ap seat_of ready) ∙ seats_here u v [] refl ∙ ap seat_of (sym (standing_set c.tasks u Ready (Waiting p) ready)))
  | inr n ↦ seats_append t c.waiting v ∙ ap (λ (l : List Place). seats t c.waiting ++ l) (seats_there t v [] (λ same. n (sym same))) ∙ append_nil (seats t c.waiting) ∙ h t ∙ ap seat_of (sym (standing_other c.tasks u t (Waiting p) n))
]
  where
    v : Waiter
    v = record { task = u; place = p; limit = limit }

    append_nil : (xs : List Place) → xs ++ [] ≡ xs
    append_nil [] = refl
    append_nil (x ∷ xs) = ap (λ (l : List Place). x ∷ l) (append_nil xs)
