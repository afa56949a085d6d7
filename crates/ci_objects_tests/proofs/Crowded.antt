-- One who leaves the lines makes them shorter.
use Rattle.std.proofs.Common.{◌≡◌, ◌≤◌, ◌-◌, ◌⊎◌, ℕ, suc, Bool, true, false, cond, List, [], ◌∷◌, length, Option, Some, None, refl, sym, ap, ◌∙◌, arith, inl, inr, eqb}
use Rattle.ci_base.specs.declared.place.Place.{Place}
use Rattle.ci_lines.specs.Found.{first, first_due, task_and_place, task_of}
use Rattle.ci_shared.proofs.Counting.{no_longer, shorter}
use Rattle.ci_shared.proofs.Lines.{first_shorter}
use Rattle.ci_shared.proofs.Seats.{without_gone}
use Rattle.ci_shared.proofs.Seats.{seats_here}
use Rattle.ci_shared.specs.declared.waiter.Waiter.{Waiter}
use Rattle.ci_shared.specs.Roster.{by_limit, chosen, first_in, is_due, is_sooner, put_by_limit, seats, without}
use Rattle.ci_shared.specs.Sections.{after}

abbrev Has : Waiter → List Waiter → Type 0
Has w [] = ⊥
Has w (x ∷ xs) = (x ≡ w) ⊎ Has w xs

first_has : (w : Waiter) (ws : List Waiter) → first ws ≡ Some w → Has w ws
first_has w [] e = absurd (cc)
first_has w (x ∷ xs) e = inl (cc e)

chosen_has : (f : Waiter → Bool) (w : Waiter) (ws : List Waiter) → Has w (chosen f ws) → Has w ws
chosen_has f w [] h = h
chosen_has f w (x ∷ xs) h = by (f x) (λ i. chosen_has f w xs i) h
  where
    by : (b : Bool) → (Has w (chosen f xs) → Has w xs) → Has w (cond b (x ∷ chosen f xs) (chosen f xs)) → (x ≡ w) ⊎ Has w xs
    by true more (inl e) = inl e
    by true more (inr i) = inr (more i)
    by false more i = inr (more i)

put_has : (w x : Waiter) (ws : List Waiter) → Has w (put_by_limit x ws) → (x ≡ w) ⊎ Has w ws
put_has w x [] h = h
put_has w x (y ∷ ys) h = by (is_sooner x y) (λ i. put_has w x ys i) h
  where
    by : (b : Bool) → (Has w (put_by_limit x ys) → (x ≡ w) ⊎ Has w ys) → Has w (cond b (x ∷ y ∷ ys) (y ∷ put_by_limit x ys)) → (x ≡ w) ⊎ ((y ≡ w) ⊎ Has w ys)
    by true more i = i
    by false more (inl e) = inr (inl e)
    by false more (inr i) = elim (more i) [
      | inl e ↦ inl e
      | inr j ↦ inr (inr j)
    ]

sorted_has : (w : Waiter) (ws : List Waiter) → Has w (by_limit ws) → Has w ws
sorted_has w [] h = h
sorted_has w (x ∷ xs) h = elim (put_has w x (by_limit xs) h) [
  | inl e ↦ inl e
  | inr i ↦ inr (sorted_has w xs i)
]

has_seat : (w : Waiter) (ws : List Waiter) → Has w ws → seats w.task ws ≡ [] → ⊥
has_seat w [] h e = h
has_seat w (x ∷ xs) h e = either (λ i. has_seat w xs i) h
  where
    by : (b : Bool) → (seats w.task xs ≡ [] → ⊥) → cond b (x.place ∷ seats w.task xs) (seats w.task xs) ≡ [] → ⊥
    by true never i = absurd (cc i)
    by false never i = never i

    either : (Has w xs → seats w.task xs ≡ [] → ⊥) → (x ≡ w) ⊎ Has w xs → ⊥
    either more (inl same) =
        let bad : x.place ∷ seats w.task xs ≡ [] = sym (seats_here w.task x xs (ap (λ (y : Waiter). y.task) same)) ∙ e in
        absurd (cc bad)
    either more (inr i) = by (eqb x.task w.task) (more i) e

has_shorter : (w : Waiter) (ws : List Waiter) → Has w ws → suc (length (without w.task ws)) ≤ length ws
has_shorter w ws h = by (seats w.task ws) refl
  where
    by : (l : List Place) → seats w.task ws ≡ l → suc (length (without w.task ws)) ≤ length ws
    by [] e = absurd (has_seat w ws h e)
    by (p ∷ ps) e = shorter w.task ws p ps e

fewer : (t : ℕ) (ws ws' : List Waiter) (n : ℕ) → suc (length (without t ws)) ≤ length ws → ws' ≡ without t ws → length ws ≤ n → length ws' ≤ n - 1
fewer t ws ws' n less is few =
    let long : length ws' ≡ length (without t ws) = ap (λ (l : List Waiter). length l) is in
    omega (arith, less, long, few)

-- a task left its line
pub fewer_left : (t : ℕ) (ws ws' : List Waiter) (n : ℕ) (p : Place) → seats t ws ≡ p ∷ [] → ws' ≡ without t ws → length ws ≤ n → length ws' ≤ n - 1
fewer_left t ws ws' n p seat is few = fewer t ws ws' n (shorter t ws p [] seat) is few

pub no_more_left : (t : ℕ) (ws ws' : List Waiter) (n : ℕ) → ws' ≡ without t ws → length ws ≤ n → length ws' ≤ n
no_more_left t ws ws' n is few =
    let long : length ws' ≡ length (without t ws) = ap (λ (l : List Waiter). length l) is in
    let short : length (without t ws) ≤ length ws = no_longer t ws in
    omega (arith, short, long, few)

-- and stands nowhere
pub seat_left : (t : ℕ) (ws ws' : List Waiter) → ws' ≡ without t ws → seats t ws' ≡ []
seat_left t ws ws' is = ap (λ (l : List Waiter). seats t l) is ∙ without_gone t ws

-- the one who was found left, if somebody was
pub no_more : (o : Option Waiter) (ws ws' : List Waiter) (n : ℕ) → ws' ≡ after o ws → length ws ≤ n → length ws' ≤ n
no_more None ws ws' n is few = let long : length ws' ≡ length ws = ap (λ (l : List Waiter). length l) is in omega (arith, long, few)
no_more (Some w) ws ws' n is few = no_more_left w.task ws ws' n is few

pub fewer_first : (p : Place) (ws ws' : List Waiter) (n t : ℕ) → Some t ≡ task_of (first_in p ws) → ws' ≡ after (first_in p ws) ws → length ws ≤ n → length ws' ≤ n - 1
fewer_first p ws ws' n t e is few = by (first_in p ws) refl e is
  where
    by : (o : Option Waiter) → first_in p ws ≡ o → Some t ≡ task_of o → ws' ≡ after o ws → length ws' ≤ n - 1
    by None found some rest = absurd (cc some)
    by (Some w) found some rest = fewer w.task ws ws' n (first_shorter p ws w found) rest few

pub fewer_due : (now : ℕ) (ws ws' : List Waiter) (n : ℕ) (x : ℕ × Place) → Some x ≡ task_and_place (first_due now ws) → ws' ≡ after (first_due now ws) ws → length ws ≤ n → length ws' ≤ n - 1
fewer_due now ws ws' n x e is few = by (first_due now ws) refl e is
  where
    by : (o : Option Waiter) → first_due now ws ≡ o → Some x ≡ task_and_place o → ws' ≡ after o ws → length ws' ≤ n - 1
    by None found some rest = absurd (cc some)
    by (Some w) found some rest = fewer w.task ws ws' n (has_shorter w ws (chosen_has (is_due now) w ws (sorted_has w (chosen (is_due now) ws) (first_has w (by_limit (chosen (is_due now) ws)) found)))) rest few
