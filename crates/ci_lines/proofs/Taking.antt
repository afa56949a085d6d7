-- A waiter leaves the list.
use Rattle.std.proofs.Common.{◌≡◌, ◌<◌, ◌⊎◌, ℕ, zero, suc, Bool, true, false, cond, List, [], ◌∷◌, length, Option, Some, None, refl, sym, ap, ◌∙◌, subst, get_or, eqb, inl, inr}
use Rattle.std.specs.Prelude.{slice_get}
use Rattle.std.specs.List.{remove}
use Rattle.ci_base.specs.declared.place.Place.{Place}
use Rattle.ci_shared.specs.declared.waiter.Waiter.{Waiter}
use Rattle.ci_shared.specs.Roster.{Once, seats, without}
use Rattle.ci_shared.proofs.Counting.{without_nobody}
use Rattle.ci_shared.proofs.Lines.{once_without, without_at}
use Rattle.ci_shared.proofs.Numbers.{eqb_same}
use Rattle.ci_lines.specs.Found.{IsAt, waiter_of}
use Rattle.ci_lines.proofs.Searching.{there}

pub taken : (inside ws : List Waiter) (i : ℕ) (w : Waiter) → inside ≡ ws → i < length ws → w ≡ get_or inside i w → slice_get ws i ≡ Some w
taken inside ws i w same lt is = there ws i w lt (is ∙ ap (λ (l : List Waiter). get_or l i w) same)

pub rest_is : (inside ws new : List Waiter) (i : ℕ) (w : Waiter) → inside ≡ ws → Once inside → i < length ws → w ≡ get_or inside i w → new ≡ remove inside i → new ≡ without w.task ws
rest_is inside ws new i w same once lt is gone =
    gone ∙ ap (λ (l : List Waiter). remove l i) same
    ∙ sym (without_at ws i w (subst (λ (l : List Waiter). Once l) same once) (taken inside ws i w same lt is))

pub rest_once : (inside ws new : List Waiter) (i : ℕ) (w : Waiter) → inside ≡ ws → Once inside → i < length ws → w ≡ get_or inside i w → new ≡ remove inside i → Once new
rest_once inside ws new i w same once lt is gone =
    subst (λ (l : List Waiter). Once l) (sym (rest_is inside ws new i w same once lt is gone)) (once_without w.task ws (subst (λ (l : List Waiter). Once l) same once))

-- what a task's first waiter says of the task
first_seat : (t : ℕ) (ws : List Waiter) (v : Waiter) → waiter_of t ws ≡ Some v → (v.task ≡ t) × ((more : List Place) × (seats t ws ≡ v.place ∷ more))
first_seat t [] v e = absurd (cc e)
first_seat t (w ∷ ws) v e = by (eqb w.task t) refl (λ i. first_seat t ws v i) e
  where
    by : (b : Bool) → eqb w.task t ≡ b → (waiter_of t ws ≡ Some v → (v.task ≡ t) × ((more : List Place) × (seats t ws ≡ v.place ∷ more))) → cond b (Some w) (waiter_of t ws) ≡ Some v → (v.task ≡ t) × ((more : List Place) × (cond b (w.place ∷ seats t ws) (seats t ws) ≡ v.place ∷ more))
    by true s next i =
        let same : w ≡ v = cc i in
        (sym (ap (λ (z : Waiter). z.task) same) ∙ eqb_same w.task t s, (seats t ws, ap (λ (z : Waiter). z.place ∷ seats t ws) same))
    by false s next i = next i

no_seat_of : (t : ℕ) (ws : List Waiter) → waiter_of t ws ≡ None → seats t ws ≡ []
no_seat_of t [] e = refl
no_seat_of t (w ∷ ws) e = by (eqb w.task t) (λ i. no_seat_of t ws i) e
  where
    by : (b : Bool) → (waiter_of t ws ≡ None → seats t ws ≡ []) → cond b (Some w) (waiter_of t ws) ≡ None → cond b (w.place ∷ seats t ws) (seats t ws) ≡ []
    by true next i = absurd (cc i)
    by false next i = next i

some_one : (x y : Waiter) (o : Option Waiter) → o ≡ Some x → o ≡ Some y → x ≡ y
some_one x y o e f = cc

pub seat_taken : (t : ℕ) (ws : List Waiter) (i : ℕ) (w : Waiter) → Once ws → IsAt ws (waiter_of t ws) (Some i) → slice_get ws i ≡ Some w → (w.task ≡ t) × (seats t ws ≡ w.place ∷ [])
unfolding Once
seat_taken t ws i w once at got = by (waiter_of t ws) refl at
  where
    one : (v : Waiter) → (v.task ≡ t) × ((more : List Place) × (seats t ws ≡ v.place ∷ more)) → (seats t ws ≡ []) ⊎ ((p : Place) × (seats t ws ≡ p ∷ [])) → (v.task ≡ t) × (seats t ws ≡ v.place ∷ [])
    one v f (inl none) = let bad : v.place ∷ f.1.0 ≡ [] = sym f.1.1 ∙ none in absurd (cc bad)
    one v f (inr p) = let both : v.place ∷ f.1.0 ≡ p.0 ∷ [] = sym f.1.1 ∙ p.1 in (f.0, p.1 ∙ cc both)

    by : (o : Option Waiter) → waiter_of t ws ≡ o → IsAt ws o (Some i) → (w.task ≡ t) × (seats t ws ≡ w.place ∷ [])
    by None e h = absurd h
    by (Some v) e h =
        let same : v ≡ w = some_one v w (slice_get ws i) h got in
        subst (λ (z : Waiter). (z.task ≡ t) × (seats t ws ≡ z.place ∷ [])) same (one v (first_seat t ws v e) (once t))

pub nowhere : (t : ℕ) (ws : List Waiter) → IsAt ws (waiter_of t ws) None → seats t ws ≡ []
nowhere t ws at = by (waiter_of t ws) refl at
  where
    by : (o : Option Waiter) → waiter_of t ws ≡ o → IsAt ws o None → seats t ws ≡ []
    by None e h = no_seat_of t ws e
    by (Some v) e h = absurd h

pub stays : (t : ℕ) (ws : List Waiter) → IsAt ws (waiter_of t ws) None → ws ≡ without t ws
stays t ws at = sym (without_nobody t ws (nowhere t ws at))

-- what is read at the place of a task
pub seat_at : (t : ℕ) (ws : List Waiter) (i : ℕ) (w : Waiter) → Once ws → IsAt ws (waiter_of t ws) (Some i) → w ≡ get_or ws i w → seats t ws ≡ w.place ∷ []
seat_at t ws i w once at is = by (waiter_of t ws) refl at
  where
    got : (xs : List Waiter) (j : ℕ) (v : Waiter) → slice_get xs j ≡ Some v → get_or xs j w ≡ v
    got [] j v e = absurd (cc e)
    got (x ∷ xs) zero v e = cc e
    got (x ∷ xs) (suc j) v e = got xs j v e

    by : (o : Option Waiter) → waiter_of t ws ≡ o → IsAt ws o (Some i) → seats t ws ≡ w.place ∷ []
    by None e h = absurd h
    by (Some v) e h =
        let same : w ≡ v = is ∙ got ws i v h in
        (seat_taken t ws i w once at (h ∙ ap (λ (z : Waiter). Some z) (sym same))).1
