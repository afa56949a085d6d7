-- Answers that go to tasks which wait for them, one after another.
use Rattle.std.proofs.Common.{◌≡◌, ◌≢◌, ◌⊎◌, ◌++◌, ℕ, Bool, true, false, cond, List, [], ◌∷◌, Option, Some, None, refl, sym, ap, ◌∙◌, subst, inl, inr, eqb}
use Rattle.ci_base.specs.declared.place.Place.{Place}
use Rattle.ci_base.specs.declared.reply.Answer.{Answer}
use Rattle.ci_base.specs.declared.task.Delivery.{Delivery}
use Rattle.ci_shared.proofs.Numbers.{decide, eqb_apart, eqb_same, place_same}
use Rattle.ci_shared.proofs.Seats.{leaves_seated, same_functions, seats_here, seats_there, standing_other, standing_set}
use Rattle.ci_shared.specs.Laws.{FitsPlace, Same, Seated, Woke, functions, seat_of, woken}
use Rattle.ci_shared.specs.Roster.{Ended, Killed, Ready, Roster, Standing, Waiting, after_answers, answers_to, by_limit, chosen, first_in, is_sooner, leaves, put_by_limit, same_place, seats, standing_at, with_standing}
use Rattle.ci_shared.specs.Sections.{after, given_answers, handed_to}
use Rattle.ci_shared.specs.declared.object.Section.{Section}
use Rattle.ci_shared.specs.declared.waiter.Waiter.{Waiter}
use Rattle.ci_base.specs.declared.place.Place.TheVariants as places

-- each goes to a task that waits for it when its turn comes
abbrev pub AreFit : Roster → List Delivery → Type 0
AreFit c [] = Unit {0}
AreFit c (d ∷ ds) = ((p : Place) × (standing_at c d.task ≡ Some (Waiting p)) × FitsPlace p d.answer) × AreFit (leaves Ready d.task c) ds

some_same : (x y : Standing) (o : Option Standing) → o ≡ Some x → o ≡ Some y → x ≡ y
some_same x y o e f = cc

ready_waits : (p : Place) → Ready ≡ Waiting p → ⊥
ready_waits p e = cc

-- what answering does to one task
abbrev pub SameOrWoke : Standing → Standing → List Answer → Type 0
SameOrWoke s s' g = Same s s' g ⊎ Woke s s' g

pub answers_changes : (ds : List Delivery) (c : Roster) (t : ℕ) (s : Standing) → AreFit c ds → standing_at c t ≡ Some s → (s' : Standing) × (standing_at (after_answers ds c) t ≡ Some s') × SameOrWoke s s' (woken t ds)
answers_changes [] c t s f is = (s, is, inl (refl, refl))
answers_changes (d ∷ ds) c t s f is = by (eqb d.task t) refl (λ s'' is'. answers_changes ds (leaves Ready d.task c) t s'' f.1 is')
  where
    woke : (s' : Standing) (g : List Answer) → s ≡ Waiting f.0.0 → SameOrWoke Ready s' g → SameOrWoke s s' (d.answer ∷ g)
    woke s' g w (inl h) = inr (f.0.0, d.answer, w, h.0, ap (λ (l : List Answer). d.answer ∷ l) h.1, f.0.2)
    woke s' g w (inr h) = absurd (ready_waits h.0 h.2)

    by : (b : Bool) → eqb d.task t ≡ b → ((r : Standing) → standing_at (leaves Ready d.task c) t ≡ Some r → (s' : Standing) × (standing_at (after_answers ds (leaves Ready d.task c)) t ≡ Some s') × SameOrWoke r s' (woken t ds)) → (s' : Standing) × (standing_at (after_answers ds (leaves Ready d.task c)) t ≡ Some s') × SameOrWoke s s' (cond b (d.answer ∷ woken t ds) (woken t ds))
    by true e rest =
        let same : t ≡ d.task = sym (eqb_same d.task t e) in
        let waits : standing_at c t ≡ Some (Waiting f.0.0) = ap (standing_at c) same ∙ f.0.1 in
        let ready : standing_at (leaves Ready d.task c) t ≡ Some Ready = subst (λ (k : ℕ). standing_at (leaves Ready k c) t ≡ Some Ready) same (standing_set c.tasks t s Ready is) in
        let (s', at, r) = rest Ready ready in
        (s', at, woke s' (woken t ds) (some_same s (Waiting f.0.0) (standing_at c t) is waits) r)
    by false e rest = rest s (standing_other c.tasks d.task t Ready (λ same. eqb_apart d.task t e (sym same)) ∙ is)

pub answers_seated : (ds : List Delivery) (c : Roster) → Seated c → Seated (after_answers ds c)
answers_seated [] c h = h
answers_seated (d ∷ ds) c h = answers_seated ds (leaves Ready d.task c) (leaves_seated c d.task Ready refl h)

pub answers_functions : (ds : List Delivery) (c : Roster) → functions (after_answers ds c).tasks ≡ functions c.tasks
answers_functions [] c = refl
answers_functions (d ∷ ds) c = answers_functions ds (leaves Ready d.task c) ∙ same_functions (with_standing Ready) (λ x. refl) c.tasks d.task

-- the first in a line waits there
abbrev Has : Place → List Place → Type 0
Has p [] = ⊥
Has p (q ∷ qs) = (q ≡ p) ⊎ Has p qs

has_more : (p q : Place) (b : Bool) (l : List Place) → Has p l → Has p (cond b (q ∷ l) l)
has_more p q true l h = inr h
has_more p q false l h = h

first_has : (p : Place) (ws : List Waiter) (w : Waiter) → first_in p ws ≡ Some w → Has p (seats w.task ws)
first_has p [] w e = absurd (cc)
first_has p (x ∷ ws) w e = by (same_place x.place p) refl (λ i. first_has p ws w i) e
  where
    by : (b : Bool) → same_place x.place p ≡ b → (first_in p ws ≡ Some w → Has p (seats w.task ws)) → cond b (Some x) (first_in p ws) ≡ Some w → Has p (seats w.task (x ∷ ws))
    by true s more i =
        let same : x ≡ w = cc i in
        subst (λ (l : List Place). Has p l) (sym (seats_here w.task x ws (ap (λ (y : Waiter). y.task) same))) (inl (place_same x.place p s))
    by false s more i = has_more p x.place (eqb x.task w.task) (seats w.task ws) (more i)

has_seat : (p : Place) (o : Option Standing) → Has p (seat_of o) → o ≡ Some (Waiting p)
has_seat p None h = absurd h
has_seat p (Some Ready) h = absurd h
has_seat p (Some (Waiting q)) (inl e) = ap (λ (r : Place). Some (Waiting r)) e
has_seat p (Some (Waiting q)) (inr h) = absurd h
has_seat p (Some (Ended n)) h = absurd h
has_seat p (Some Killed) h = absurd h

pub first_waits : (c : Roster) (p : Place) (w : Waiter) → Seated c → first_in p c.waiting ≡ Some w → standing_at c w.task ≡ Some (Waiting p)
first_waits c p w h e = has_seat p (standing_at c w.task) (subst (λ (l : List Place). Has p l) (h w.task) (first_has p c.waiting w e))

-- the first in a line gets an answer
pub first_fit : (c : Roster) (p : Place) (w : Waiter) (a : Answer) → Seated c → first_in p c.waiting ≡ Some w → FitsPlace p a → AreFit c (record { task = w.task; answer = a } ∷ [])
first_fit c p w a h e f = ((p, first_waits c p w h e, f), tt)

-- sections given on
pub given_fit : (f : Section → Bool) (xs : List Section) (c : Roster) → Seated c → AreFit c (given_answers f xs c.waiting)
given_fit f [] c h = tt
given_fit f (x ∷ xs) c h = by (f x) (λ d i. given_fit f xs d i)
  where
    handed_fit : ((d : Roster) → Seated d → AreFit d (given_answers f xs d.waiting)) → (o : Option Waiter) → first_in (places.Section x.name) c.waiting ≡ o → AreFit c (handed_to o ++ given_answers f xs (after o c.waiting))
    handed_fit more None e = more c h
    handed_fit more (Some w) e = ((places.Section x.name, first_waits c (places.Section x.name) w h e, refl), more (leaves Ready w.task c) (leaves_seated c w.task Ready refl h))

    by : (b : Bool) → ((d : Roster) → Seated d → AreFit d (given_answers f xs d.waiting)) → AreFit c (cond b (handed_to (first_in (places.Section x.name) c.waiting) ++ given_answers f xs (after (first_in (places.Section x.name) c.waiting) c.waiting)) (given_answers f xs c.waiting))
    by true more = handed_fit more (first_in (places.Section x.name) c.waiting) refl
    by false more = more c h

-- some of those who wait, each once
abbrev pub Picked : Roster → List Waiter → Type 0
Picked c ws = (t : ℕ) → (seats t ws ≡ []) ⊎ (seats t ws ≡ seat_of (standing_at c t))

-- one that sits somewhere sits there alone
pub alone : (o : Option Standing) (p : Place) (l : List Place) → p ∷ l ≡ seat_of o → (o ≡ Some (Waiting p)) × (l ≡ [])
alone None p l e = absurd (cc)
alone (Some Ready) p l e = absurd (cc)
alone (Some (Waiting q)) p l e = let same : q ≡ p = cc e in (ap (λ (r : Place). Some (Waiting r)) same, cc)
alone (Some (Ended n)) p l e = absurd (cc)
alone (Some Killed) p l e = absurd (cc)

pub chosen_none : (f : Waiter → Bool) (t : ℕ) (ws : List Waiter) → seats t ws ≡ [] → seats t (chosen f ws) ≡ []
chosen_none f t [] e = refl
chosen_none f t (w ∷ ws) e = by (f w) (decide w.task t) (λ i. chosen_none f t ws i)
  where
    by : (b : Bool) → (w.task ≡ t) ⊎ (w.task ≢ t) → (seats t ws ≡ [] → seats t (chosen f ws) ≡ []) → seats t (cond b (w ∷ chosen f ws) (chosen f ws)) ≡ []
    by b (inl here) more = let bad : w.place ∷ seats t ws ≡ [] = sym (seats_here t w ws here) ∙ e in absurd (cc bad)
    by true (inr n) more = seats_there t w (chosen f ws) n ∙ more (sym (seats_there t w ws n) ∙ e)
    by false (inr n) more = more (sym (seats_there t w ws n) ∙ e)

pub chosen_one : (f : Waiter → Bool) (t : ℕ) (o : Option Standing) (ws : List Waiter) → seats t ws ≡ seat_of o → (seats t (chosen f ws) ≡ []) ⊎ (seats t (chosen f ws) ≡ seat_of o)
chosen_one f t o [] e = inl refl
chosen_one f t o (w ∷ ws) e = by (f w) (decide w.task t) (λ i. chosen_one f t o ws i)
  where
    by : (b : Bool) → (w.task ≡ t) ⊎ (w.task ≢ t) → (seats t ws ≡ seat_of o → (seats t (chosen f ws) ≡ []) ⊎ (seats t (chosen f ws) ≡ seat_of o)) → (seats t (cond b (w ∷ chosen f ws) (chosen f ws)) ≡ []) ⊎ (seats t (cond b (w ∷ chosen f ws) (chosen f ws)) ≡ seat_of o)
    by true (inl here) more =
        let one = alone o w.place (seats t ws) (sym (seats_here t w ws here) ∙ e) in
        inr (seats_here t w (chosen f ws) here ∙ ap (λ (l : List Place). w.place ∷ l) (chosen_none f t ws one.1) ∙ ap seat_of (sym one.0))
    by false (inl here) more =
        let one = alone o w.place (seats t ws) (sym (seats_here t w ws here) ∙ e) in
        inl (chosen_none f t ws one.1)
    by true (inr n) more = elim (more (sym (seats_there t w ws n) ∙ e)) [
      | inl h ↦ inl (seats_there t w (chosen f ws) n ∙ h)
      | inr h ↦ inr (seats_there t w (chosen f ws) n ∙ h)
    ]
    by false (inr n) more = more (sym (seats_there t w ws n) ∙ e)

pub chosen_picked : (f : Waiter → Bool) (c : Roster) → Seated c → Picked c (chosen f c.waiting)
chosen_picked f c h t = chosen_one f t (standing_at c t) c.waiting (h t)

-- sorting picks the same
pub inserted_there : (t : ℕ) (w : Waiter) (ws : List Waiter) → w.task ≢ t → seats t (put_by_limit w ws) ≡ seats t ws
inserted_there t w [] n = seats_there t w [] n
inserted_there t w (x ∷ xs) n = by (is_sooner w x) (inserted_there t w xs n)
  where
    by : (b : Bool) → seats t (put_by_limit w xs) ≡ seats t xs → seats t (cond b (w ∷ x ∷ xs) (x ∷ put_by_limit w xs)) ≡ seats t (x ∷ xs)
    by true h = seats_there t w (x ∷ xs) n
    by false h = ap (λ (l : List Place). cond (eqb x.task t) (x.place ∷ l) l) h

pub inserted_here : (t : ℕ) (w : Waiter) (ws : List Waiter) → w.task ≡ t → seats t ws ≡ [] → seats t (put_by_limit w ws) ≡ w.place ∷ []
inserted_here t w [] at e = seats_here t w [] at
inserted_here t w (x ∷ xs) at e = by (is_sooner w x) (decide x.task t) (λ i. inserted_here t w xs at i)
  where
    by : (b : Bool) → (x.task ≡ t) ⊎ (x.task ≢ t) → (seats t xs ≡ [] → seats t (put_by_limit w xs) ≡ w.place ∷ []) → seats t (cond b (w ∷ x ∷ xs) (x ∷ put_by_limit w xs)) ≡ w.place ∷ []
    by b (inl here) more = let bad : x.place ∷ seats t xs ≡ [] = sym (seats_here t x xs here) ∙ e in absurd (cc bad)
    by true (inr n) more = seats_here t w (x ∷ xs) at ∙ ap (λ (l : List Place). w.place ∷ l) e
    by false (inr n) more = seats_there t x (put_by_limit w xs) n ∙ more (sym (seats_there t x xs n) ∙ e)

picked_rest : (c : Roster) (w : Waiter) (ws : List Waiter) → Picked c (w ∷ ws) → (standing_at c w.task ≡ Some (Waiting w.place)) × (seats w.task ws ≡ [])
picked_rest c w ws h = elim (h w.task) [
  | inl e ↦ absurd (no (sym (seats_here w.task w ws refl) ∙ e))
  | inr e ↦ alone (standing_at c w.task) w.place (seats w.task ws) (sym (seats_here w.task w ws refl) ∙ e)
]
  where
    no : w.place ∷ seats w.task ws ≡ [] → ⊥
    no e = cc

picked_tail : (c : Roster) (w : Waiter) (ws : List Waiter) → Picked c (w ∷ ws) → Picked c ws
picked_tail c w ws h t = elim (decide w.task t) [
  | inl same ↦ inl (subst (λ (k : ℕ). seats k ws ≡ []) same (picked_rest c w ws h).1)
  | inr n ↦ subst (λ (l : List Place). (l ≡ []) ⊎ (l ≡ seat_of (standing_at c t))) (seats_there t w ws n) (h t)
]

by_limit_seats : (c : Roster) (ws : List Waiter) → Picked c ws → (t : ℕ) → seats t (by_limit ws) ≡ seats t ws
by_limit_seats c [] h t = refl
by_limit_seats c (w ∷ ws) h t = elim (decide w.task t) [
  | inl same ↦
      (let none : seats t ws ≡ [] = subst (λ (k : ℕ). seats k ws ≡ []) same (picked_rest c w ws h).1 in
      inserted_here t w (by_limit ws) same (by_limit_seats c ws (picked_tail c w ws h) t ∙ none) ∙ sym (seats_here t w ws same ∙ ap (λ (l : List Place). w.place ∷ l) none))
  | inr n ↦ inserted_there t w (by_limit ws) n ∙ by_limit_seats c ws (picked_tail c w ws h) t ∙ sym (seats_there t w ws n)
]

pub by_limit_picked : (c : Roster) (ws : List Waiter) → Picked c ws → Picked c (by_limit ws)
by_limit_picked c ws h t = subst (λ (l : List Place). (l ≡ []) ⊎ (l ≡ seat_of (standing_at c t))) (sym (by_limit_seats c ws h t)) (h t)

-- each of them gets an answer that fits its place
abbrev pub AllFit : (Waiter → Answer) → List Waiter → Type 0
AllFit f [] = Unit {0}
AllFit f (w ∷ ws) = FitsPlace w.place (f w) × AllFit f ws

pub chosen_all : (f : Waiter → Bool) (a : Waiter → Answer) → ((w : Waiter) → f w ≡ true → FitsPlace w.place (a w)) → (ws : List Waiter) → AllFit a (chosen f ws)
chosen_all f a h [] = tt
chosen_all f a h (w ∷ ws) = by (f w) refl (chosen_all f a h ws)
  where
    by : (b : Bool) → f w ≡ b → AllFit a (chosen f ws) → AllFit a (cond b (w ∷ chosen f ws) (chosen f ws))
    by true e r = (h w e, r)
    by false e r = r

inserted_all : (a : Waiter → Answer) (w : Waiter) (ws : List Waiter) → FitsPlace w.place (a w) → AllFit a ws → AllFit a (put_by_limit w ws)
inserted_all a w [] h r = (h, r)
inserted_all a w (x ∷ xs) h r = by (is_sooner w x) (inserted_all a w xs h r.1)
  where
    by : (b : Bool) → AllFit a (put_by_limit w xs) → AllFit a (cond b (w ∷ x ∷ xs) (x ∷ put_by_limit w xs))
    by true i = (h, r)
    by false i = (r.0, i)

pub by_limit_all : (a : Waiter → Answer) (ws : List Waiter) → AllFit a ws → AllFit a (by_limit ws)
by_limit_all a [] r = tt
by_limit_all a (w ∷ ws) r = inserted_all a w (by_limit ws) r.0 (by_limit_all a ws r.1)

pub picked_fit : (a : Waiter → Answer) (ws : List Waiter) (c : Roster) → Picked c ws → AllFit a ws → AreFit c (answers_to a ws)
picked_fit a [] c h f = tt
picked_fit a (w ∷ ws) c h f = ((w.place, rest.0, f.0), picked_fit a ws (leaves Ready w.task c) next f.1)
  where
    rest : (standing_at c w.task ≡ Some (Waiting w.place)) × (seats w.task ws ≡ [])
    rest = picked_rest c w ws h

    next : Picked (leaves Ready w.task c) ws
    next t = elim (decide w.task t) [
      | inl same ↦ inl (subst (λ (k : ℕ). seats k ws ≡ []) same rest.1)
      | inr n ↦ subst (λ (o : Option Standing). (seats t ws ≡ []) ⊎ (seats t ws ≡ seat_of o)) (sym (standing_other c.tasks w.task t Ready (λ same. n (sym same)))) (picked_tail c w ws h t)
    ]
