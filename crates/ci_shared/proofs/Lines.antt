-- Lines in which no task stands twice: one leaves, one joins, and all at a place are turned away one after another.
use Rattle.std.proofs.Common.{◌≡◌, ◌≢◌, ◌⊎◌, ◌≤◌, ◌++◌, ℕ, zero, suc, Bool, true, false, cond, List, [], ◌∷◌, length, Some, None, refl, sym, ap, ◌∙◌, subst, inl, inr, eqb, eq-eqb, ne_eqb}
use Rattle.std.specs.Prelude.{slice_get}
use Rattle.std.specs.List.{remove}
use Rattle.ci_base.specs.declared.place.Place.{Place}
use Rattle.ci_base.specs.declared.task.Delivery.{Delivery}
use Rattle.ci_shared.proofs.Counting.{shorter, without_nobody}
use Rattle.ci_shared.proofs.Numbers.{decide}
use Rattle.ci_shared.proofs.Seats.{seats_append, seats_here, seats_there, without_gone, without_other}
use Rattle.ci_shared.specs.Roster.{Once, answers_to, first_in, line, lines_after, same_place, seats, without}
use Rattle.ci_shared.specs.Rows.{coded, plain, turned_away}
use Rattle.ci_shared.specs.declared.waiter.Waiter.{Waiter}

pub once_rest : (w : Waiter) (ws : List Waiter) → Once (w ∷ ws) → seats w.task ws ≡ []
unfolding Once
once_rest w ws h = by (h w.task)
  where
    here : seats w.task (w ∷ ws) ≡ w.place ∷ seats w.task ws
    here = seats_here w.task w ws refl

    by : (seats w.task (w ∷ ws) ≡ []) ⊎ ((p : Place) × (seats w.task (w ∷ ws) ≡ p ∷ [])) → seats w.task ws ≡ []
    by (inl e) = let bad : w.place ∷ seats w.task ws ≡ [] = sym here ∙ e in absurd (cc bad)
    by (inr e) = let two : w.place ∷ seats w.task ws ≡ e.0 ∷ [] = sym here ∙ e.1 in cc two

pub once_tail : (w : Waiter) (ws : List Waiter) → Once (w ∷ ws) → Once ws
unfolding Once
once_tail w ws h t = elim (decide w.task t) [
  | inl e ↦ inl (subst (λ (k : ℕ). seats k ws ≡ []) e (once_rest w ws h))
  | inr n ↦ subst (λ (l : List Place). (l ≡ []) ⊎ ((p : Place) × (l ≡ p ∷ []))) (seats_there t w ws n) (h t)
]

pub no_seat : (p : Place) (ws : List Waiter) (w : Waiter) → first_in p ws ≡ Some w → seats w.task ws ≡ [] → ⊥
no_seat p [] w e n = absurd (cc)
no_seat p (x ∷ ws) w e n = by (same_place x.place p) (λ i j. no_seat p ws w i j) e
  where
    seat : (b : Bool) → cond b (x.place ∷ seats w.task ws) (seats w.task ws) ≡ [] → seats w.task ws ≡ []
    seat true i = absurd (cc i)
    seat false i = i

    by : (b : Bool) → (first_in p ws ≡ Some w → seats w.task ws ≡ [] → ⊥) → cond b (Some x) (first_in p ws) ≡ Some w → ⊥
    by true more i = let same_one : x ≡ w = cc i in let bad : x.place ∷ seats w.task ws ≡ [] = sym (seats_here w.task x ws (ap (λ (y : Waiter). y.task) same_one)) ∙ n in absurd (cc bad)
    by false more i = more i (seat (eqb x.task w.task) n)

line_step : (p : Place) (ws : List Waiter) (w : Waiter) → Once ws → first_in p ws ≡ Some w → line p ws ≡ w ∷ line p (without w.task ws)
line_step p [] w h e = absurd (cc)
line_step p (x ∷ ws) w h e = by (same_place x.place p) refl (λ i. line_step p ws w (once_tail x ws h) i) e
  where
    drops : (y : Waiter) → x ≡ y → without y.task (x ∷ ws) ≡ ws
    drops y i = ap (λ (b : Bool). cond b (without y.task ws) (x ∷ without y.task ws)) (eq-eqb x.task y.task (ap (λ (z : Waiter). z.task) i)) ∙ without_nobody y.task ws (subst (λ (z : Waiter). seats z.task ws ≡ []) i (once_rest x ws h))

    keeps : x.task ≢ w.task → without w.task (x ∷ ws) ≡ x ∷ without w.task ws
    keeps n = ap (λ (b : Bool). cond b (without w.task ws) (x ∷ without w.task ws)) (ne_eqb x.task w.task n)

    passes : same_place x.place p ≡ false → line p (x ∷ without w.task ws) ≡ line p (without w.task ws)
    passes s = ap (λ (b : Bool). cond b (x ∷ line p (without w.task ws)) (line p (without w.task ws))) s

    by : (b : Bool) → same_place x.place p ≡ b → (first_in p ws ≡ Some w → line p ws ≡ w ∷ line p (without w.task ws)) → cond b (Some x) (first_in p ws) ≡ Some w → cond b (x ∷ line p ws) (line p ws) ≡ w ∷ line p (without w.task (x ∷ ws))
    by true s more i = let here : x ≡ w = cc i in ap (λ (z : Waiter). z ∷ line p ws) here ∙ ap (λ (l : List Waiter). w ∷ line p l) (sym (drops w here))
    by false s more i = more i ∙ ap (λ (l : List Waiter). w ∷ l) (sym (ap (λ (l : List Waiter). line p l) (keeps apart) ∙ passes s))
      where
        apart : x.task ≢ w.task
        apart same_one = no_seat p ws w i (subst (λ (k : ℕ). seats k ws ≡ []) same_one (once_rest x ws h))

pub turn_step : (p : Place) (ws : List Waiter) (w : Waiter) → Once ws → first_in p ws ≡ Some w → turned_away p ws ≡ record { task = w.task; answer = plain (coded 1) } ∷ turned_away p (without w.task ws)
turn_step p ws w h e = ap (λ (l : List Waiter). answers_to (λ w. plain (coded 1)) l) (line_step p ws w h e)

pub turn_end : (p : Place) (ws : List Waiter) → first_in p ws ≡ None → turned_away p ws ≡ []
turn_end p ws e = ap (λ (l : List Waiter). answers_to (λ w. plain (coded 1)) l) (none ws e)
  where
    none : (ws : List Waiter) → first_in p ws ≡ None → line p ws ≡ []
    none [] e = refl
    none (x ∷ ws) e = by (same_place x.place p) (λ i. none ws i) e
      where
        by : (b : Bool) → (first_in p ws ≡ None → line p ws ≡ []) → cond b (Some x) (first_in p ws) ≡ None → cond b (x ∷ line p ws) (line p ws) ≡ []
        by true more i = absurd (cc i)
        by false more i = more i

-- the one at a place of the list leaves
pub without_at : (ws : List Waiter) (i : ℕ) (w : Waiter) → Once ws → slice_get ws i ≡ Some w → without w.task ws ≡ remove ws i
without_at [] i w h e = absurd (cc)
without_at (x ∷ ws) zero w h e =
    let same : x ≡ w = cc e in
    subst (λ (y : Waiter). without y.task (x ∷ ws) ≡ ws) same (ap (λ (b : Bool). cond b (without x.task ws) (x ∷ without x.task ws)) (eq-eqb x.task x.task refl) ∙ without_nobody x.task ws (once_rest x ws h))
without_at (x ∷ ws) (suc i) w h e =
    ap (λ (b : Bool). cond b (without w.task ws) (x ∷ without w.task ws)) (ne_eqb x.task w.task apart) ∙ ap (λ (l : List Waiter). x ∷ l) (without_at ws i w (once_tail x ws h) e)
  where
    stands : (vs : List Waiter) (k : ℕ) → slice_get vs k ≡ Some w → seats w.task vs ≡ [] → ⊥
    stands [] k f n = absurd (cc)
    stands (v ∷ vs) zero f n =
        let same : v ≡ w = cc f in
        let bad : v.place ∷ seats w.task vs ≡ [] = sym (seats_here w.task v vs (ap (λ (y : Waiter). y.task) same)) ∙ n in
        absurd (cc bad)
    stands (v ∷ vs) (suc k) f n = stands vs k f (rest (eqb v.task w.task) n)
      where
        rest : (b : Bool) → cond b (v.place ∷ seats w.task vs) (seats w.task vs) ≡ [] → seats w.task vs ≡ []
        rest true i = absurd (cc i)
        rest false i = i

    apart : x.task ≢ w.task
    apart same = stands ws i e (subst (λ (k : ℕ). seats k ws ≡ []) same (once_rest x ws h))

pub once_none : Once []
unfolding Once
once_none t = inl refl

pub once_without : (t : ℕ) (ws : List Waiter) → Once ws → Once (without t ws)
unfolding Once
once_without t ws h u = elim (decide u t) [
  | inl e ↦ inl (subst (λ (k : ℕ). seats k (without t ws) ≡ []) (sym e) (without_gone t ws))
  | inr n ↦ subst (λ (l : List Place). (l ≡ []) ⊎ ((p : Place) × (l ≡ p ∷ []))) (sym (without_other u t ws n)) (h u)
]

pub once_joined : (ws : List Waiter) (w : Waiter) → Once ws → seats w.task ws ≡ [] → Once (ws ++ w ∷ [])
unfolding Once
once_joined ws w h free u = elim (decide w.task u) [
  | inl e ↦ inr (w.place, seats_append u ws w ∙ ap (λ (l : List Place). l ++ seats u (w ∷ [])) (subst (λ (k : ℕ). seats k ws ≡ []) e free) ∙ seats_here u w [] e)
  | inr n ↦ subst (λ (l : List Place). (l ≡ []) ⊎ ((p : Place) × (l ≡ p ∷ []))) (sym (seats_append u ws w ∙ ap (λ (l : List Place). seats u ws ++ l) (seats_there u w [] n) ∙ append_nil (seats u ws))) (h u)
]
  where
    append_nil : (xs : List Place) → xs ++ [] ≡ xs
    append_nil [] = refl
    append_nil (x ∷ xs) = ap (λ (l : List Place). x ∷ l) (append_nil xs)

pub first_shorter : (p : Place) (ws : List Waiter) (w : Waiter) → first_in p ws ≡ Some w → suc (length (without w.task ws)) ≤ length ws
first_shorter p ws w e = by (seats w.task ws) refl
  where
    by : (l : List Place) → seats w.task ws ≡ l → suc (length (without w.task ws)) ≤ length ws
    by [] n = absurd (no_seat p ws w e n)
    by (q ∷ qs) n = shorter w.task ws q qs n

-- who stands nowhere stands nowhere after answers to others, or to nobody, and after another one has joined
pub free_without : (t u : ℕ) (ws : List Waiter) → seats t ws ≡ [] → seats t (without u ws) ≡ []
free_without t u ws e = elim (decide t u) [
  | inl same ↦ subst (λ (k : ℕ). seats k (without u ws) ≡ []) (sym same) (without_gone u ws)
  | inr n ↦ without_other t u ws n ∙ e
]

pub free_after : (t : ℕ) (ds : List Delivery) (ws : List Waiter) → seats t ws ≡ [] → seats t (lines_after ds ws) ≡ []
free_after t [] ws e = e
free_after t (d ∷ ds) ws e = free_after t ds (without d.task ws) (free_without t d.task ws e)

pub free_joined : (t : ℕ) (ws : List Waiter) (w : Waiter) → w.task ≢ t → seats t ws ≡ [] → seats t (ws ++ w ∷ []) ≡ []
free_joined t ws w n e = seats_append t ws w ∙ ap (λ (l : List Place). l ++ seats t (w ∷ [])) e ∙ seats_there t w [] n
