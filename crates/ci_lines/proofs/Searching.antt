-- Going through the list.
use Rattle.std.proofs.Common.{◌≡◌, ◌≢◌, ◌<◌, ◌≤◌, ◌+◌, ℕ, zero, suc, Bool, true, false, cond, List, [], ◌∷◌, length, drop, Option, Some, None, refl, sym, ap, ◌∙◌, subst, get_or, arith, add-one, drop-cons, ne_eqb, eq-eqb}
use Rattle.std.specs.Prelude.{slice_get, ◌&&◌}
use Rattle.std.proofs.lemmas.Option.{slice_get-get_or}
use Rattle.std.proofs.lemmas.List.{drop_all}
use Rattle.ci_base.specs.declared.place.Place.{Place}
use Rattle.ci_shared.specs.declared.waiter.Waiter.{Waiter}
use Rattle.ci_shared.specs.Roster.{first_in, same_place, by_limit, chosen, is_due, is_sooner, put_by_limit}
use Rattle.ci_shared.proofs.Numbers.{place_same, place_itself}
use Rattle.ci_lines.specs.Found.{IsAt, first, first_due, waiter_of, better}

pub there : (ws : List Waiter) (i : ℕ) (w : Waiter) → i < length ws → w ≡ get_or ws i w → slice_get ws i ≡ Some w
there ws i w lt is = slice_get-get_or ws i w lt ∙ ap (λ (x : Waiter). Some x) (sym is)

pub next : (ws : List Waiter) (i : ℕ) (w : Waiter) → i < length ws → w ≡ get_or ws i w → drop i ws ≡ w ∷ drop (i + 1) ws
next ws i w lt is = drop-cons ws i w lt ∙ ap (λ (x : Waiter). x ∷ drop (suc i) ws) (sym is) ∙ ap (λ (k : ℕ). w ∷ drop k ws) (sym (add-one i))

-- by place
pub place_here : (p : Place) (ws : List Waiter) (i : ℕ) (w : Waiter) → i < length ws → w ≡ get_or ws i w → first_in p ws ≡ first_in p (drop i ws) → w.place ≡ p → IsAt ws (first_in p ws) (Some i)
place_here p ws i w lt is so same =
    subst (λ (o : Option Waiter). IsAt ws o (Some i))
    (sym (so ∙ ap (λ (l : List Waiter). first_in p l) (next ws i w lt is) ∙ ap (λ (b : Bool). cond b (Some w) (first_in p (drop (i + 1) ws))) (subst (λ (q : Place). same_place w.place q ≡ true) same (place_itself w.place))))
    (there ws i w lt is)

pub place_passed : (p : Place) (ws : List Waiter) (i : ℕ) (w : Waiter) → i < length ws → w ≡ get_or ws i w → first_in p ws ≡ first_in p (drop i ws) → w.place ≢ p → first_in p ws ≡ first_in p (drop (i + 1) ws)
place_passed p ws i w lt is so apart = so ∙ ap (λ (l : List Waiter). first_in p l) (next ws i w lt is) ∙ by (same_place w.place p) refl
  where
    by : (b : Bool) → same_place w.place p ≡ b → cond b (Some w) (first_in p (drop (i + 1) ws)) ≡ first_in p (drop (i + 1) ws)
    by true e = absurd (apart (place_same w.place p e))
    by false e = refl

pub place_nowhere : (p : Place) (ws : List Waiter) (i : ℕ) → length ws ≡ i → first_in p ws ≡ first_in p (drop i ws) → IsAt ws (first_in p ws) None
place_nowhere p ws i long so = subst (λ (o : Option Waiter). IsAt ws o None) (sym (so ∙ ap (λ (l : List Waiter). first_in p l) (none ws i long))) tt
  where
    none : (vs : List Waiter) (k : ℕ) → length vs ≡ k → drop k vs ≡ []
    none vs k e = drop_all k vs (omega (arith, e))

-- by task
pub task_here : (t : ℕ) (ws : List Waiter) (i : ℕ) (w : Waiter) → i < length ws → w ≡ get_or ws i w → waiter_of t ws ≡ waiter_of t (drop i ws) → w.task ≡ t → IsAt ws (waiter_of t ws) (Some i)
task_here t ws i w lt is so same =
    subst (λ (o : Option Waiter). IsAt ws o (Some i))
    (sym (so ∙ ap (λ (l : List Waiter). waiter_of t l) (next ws i w lt is) ∙ ap (λ (b : Bool). cond b (Some w) (waiter_of t (drop (i + 1) ws))) (eq-eqb w.task t same)))
    (there ws i w lt is)

pub task_passed : (t : ℕ) (ws : List Waiter) (i : ℕ) (w : Waiter) → i < length ws → w ≡ get_or ws i w → waiter_of t ws ≡ waiter_of t (drop i ws) → w.task ≢ t → waiter_of t ws ≡ waiter_of t (drop (i + 1) ws)
task_passed t ws i w lt is so apart = so ∙ ap (λ (l : List Waiter). waiter_of t l) (next ws i w lt is) ∙ ap (λ (b : Bool). cond b (Some w) (waiter_of t (drop (i + 1) ws))) (ne_eqb w.task t apart)

-- the first by limit, found by going through the list from its end
abbrev pub soonest_of : ℕ → List Waiter → Option Waiter
soonest_of now [] = None
soonest_of now (w ∷ ws) = better now w (soonest_of now ws)

-- by limit
abbrev cond_first : Waiter → Option Waiter → Option Waiter
cond_first w None = Some w
cond_first w (Some x) = cond (is_sooner w x) (Some w) (Some x)

abbrev better_by : Bool → Waiter → Option Waiter → Option Waiter
better_by b w None = cond b (Some w) None
better_by b w (Some x) = cond (b && is_sooner w x) (Some w) (Some x)

first_put : (w : Waiter) (xs : List Waiter) → first (put_by_limit w xs) ≡ cond_first w (first xs)
first_put w [] = refl
first_put w (x ∷ xs) = by (is_sooner w x)
  where
    by : (b : Bool) → first (cond b (w ∷ x ∷ xs) (x ∷ put_by_limit w xs)) ≡ cond b (Some w) (Some x)
    by true = refl
    by false = refl

pub soonest_due : (now : ℕ) (ws : List Waiter) → first_due now ws ≡ soonest_of now ws
soonest_due now [] = refl
soonest_due now (w ∷ ws) = by (is_due now w) refl ∙ better_same (first_due now ws) ∙ ap (λ (o : Option Waiter). better now w o) (soonest_due now ws)
  where
    better_same : (o : Option Waiter) → better_by (is_due now w) w o ≡ better now w o
    better_same None = refl
    better_same (Some x) = refl

    due_first : (o : Option Waiter) (b : Bool) → b ≡ true → cond_first w o ≡ better_by b w o
    due_first None b e = ap (λ (z : Bool). cond z (Some w) None) (sym e)
    due_first (Some x) b e = ap (λ (z : Bool). cond (z && is_sooner w x) (Some w) (Some x)) (sym e)

    not_first : (o : Option Waiter) (b : Bool) → b ≡ false → o ≡ better_by b w o
    not_first None b e = ap (λ (z : Bool). cond z (Some w) None) (sym e)
    not_first (Some x) b e = ap (λ (z : Bool). cond (z && is_sooner w x) (Some w) (Some x)) (sym e)

    by : (b : Bool) → is_due now w ≡ b → first (by_limit (cond b (w ∷ chosen (is_due now) ws) (chosen (is_due now) ws))) ≡ better_by (is_due now w) w (first_due now ws)
    by true e = first_put w (by_limit (chosen (is_due now) ws)) ∙ due_first (first_due now ws) (is_due now w) e
    by false e = not_first (first_due now ws) (is_due now w) e

-- one step back from the end
pub soonest_more : (ws : List Waiter) (now i k : ℕ) (r : Option ℕ) → suc k ≡ i → i ≤ length ws → ((w : Waiter) → slice_get ws k ≡ Some w → IsAt ws (better now w (soonest_of now (drop (k + 1) ws))) r) → IsAt ws (soonest_of now (drop k ws)) r
soonest_more ws now i k r e within h = by (slice_get ws k) refl
  where
    short : k < length ws
    short = omega (arith, e, within)

    by : (o : Option Waiter) → slice_get ws k ≡ o → IsAt ws (soonest_of now (drop k ws)) r
    by None f = absurd (beyond ws k f short)
      where
        beyond : (vs : List Waiter) (j : ℕ) → slice_get vs j ≡ None → j < length vs → ⊥
        beyond [] j g lt = omega (arith, lt)
        beyond (v ∷ vs) zero g lt = cc g
        beyond (v ∷ vs) (suc j) g lt = beyond vs j g (omega (arith, lt))
    by (Some w) f = subst (λ (l : List Waiter). IsAt ws (soonest_of now l) r) (sym (cut ws k f)) (subst (λ (j : ℕ). IsAt ws (better now w (soonest_of now (drop j ws))) r) (add-one k) (h w f))
      where
        cut : (vs : List Waiter) (j : ℕ) → slice_get vs j ≡ Some w → drop j vs ≡ w ∷ drop (suc j) vs
        cut [] j g = absurd (cc g)
        cut (v ∷ vs) zero g = ap (λ (x : Waiter). x ∷ vs) (cc g)
        cut (v ∷ vs) (suc j) g = cut vs j g

pub soonest_all : (ws : List Waiter) (now i : ℕ) (r : Option ℕ) → i ≡ 0 → IsAt ws (soonest_of now (drop i ws)) r → IsAt ws (first_due now ws) r
soonest_all ws now i r e h = subst (λ (o : Option Waiter). IsAt ws o r) (sym (soonest_due now ws)) (subst (λ (j : ℕ). IsAt ws (soonest_of now (drop j ws)) r) e h)
