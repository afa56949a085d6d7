-- The clock: all whose limit has come are answered, one after another.
use Rattle.std.proofs.Common.{true≢false, ◌≡◌, ◌≢◌, ◌⊎◌, ◌≤◌, ◌<◌, ◌+◌, ◌++◌, ◌*◌, ℕ, zero, suc, ℤ, pos, negsuc, Bool, true, false, cond, List, [], ◌∷◌, length, Option, Some, None, refl, sym, ap, ap₂, ◌∙◌, subst, inl, inr, arith, append_assoc, length-append, eqb, eq-eqb, ne_eqb}
use Rattle.std.proofs.Math.IntN.{nat_abs}
use Rattle.std.specs.Prelude.{int_lt, nat_eq, nat_lt, ◌&&◌, ◌||◌}
use Rattle.std.proofs.lemmas.Bool.Decides.{nat_tests}
use Rattle.ci_base.specs.declared.bounds.TheConstants.{MOST_LIVE_TASKS}
use Rattle.ci_base.specs.declared.place.Place.{Place}
use Rattle.ci_base.specs.declared.place.Place.TheVariants as places
use Rattle.ci_base.specs.declared.reply.Answer.{Answer}
use Rattle.ci_base.specs.declared.task.Delivery.{Delivery}
use Rattle.ci_lines.specs.Found.{first, first_due, task_and_place}
use Rattle.ci_shared.proofs.Counting.{shorter, without_nobody}
use Rattle.ci_shared.proofs.Dues.{dues_in_order}
use Rattle.ci_shared.proofs.Fit.{chosen_none, chosen_one, inserted_here, inserted_there}
use Rattle.ci_shared.proofs.Lines.{once_rest, once_tail}
use Rattle.ci_shared.proofs.Numbers.{decide}
use Rattle.ci_shared.proofs.Owed.{due_fit}
use Rattle.ci_shared.proofs.Seats.{seats_here, seats_there}
use Rattle.ci_shared.specs.declared.waiter.Waiter.{Waiter}
use Rattle.ci_shared.specs.Laws.{AllLater, InOrder}
use Rattle.ci_shared.specs.Roster.{Once, Roster, Waiting, after_answers, answers_to, by_limit, chosen, is_due, is_sooner, limit_of, lines_after, put_by_limit, seats, without}
use Rattle.ci_shared.specs.Rows.{Joins, coded, plain}
use Rattle.ci_shared.specs.Sections.{after}
use Rattle.ci_shared.specs.Steps.{due, late, sleep, tick}
use Rattle.ci_tasktab.specs.declared.slot.Slot.{Slot}
use Rattle.ci_store.proofs.Answering.{answered_roster}
use Rattle.ci_store.proofs.Asking.{lives}
use Rattle.ci_store.specs.declared.parts.Parts.{Parts}
use Rattle.ci_store.specs.Done.{AllLive, Does, IsClear, freed}
use Rattle.ci_store.specs.Stored.{roster_of, shared_of}

-- who leaves the lines leaves the sorted ones
chosen_without : (f : Waiter → Bool) (t : ℕ) (ws : List Waiter) → chosen f (without t ws) ≡ without t (chosen f ws)
chosen_without f t [] = refl
chosen_without f t (w ∷ ws) = by (f w) refl (eqb w.task t) refl (chosen_without f t ws)
  where
    by : (a : Bool) → f w ≡ a → (b : Bool) → eqb w.task t ≡ b → chosen f (without t ws) ≡ without t (chosen f ws) → chosen f (cond b (without t ws) (w ∷ without t ws)) ≡ without t (cond a (w ∷ chosen f ws) (chosen f ws))
    by true i true j e = e ∙ sym (ap (λ (b : Bool). cond b (without t (chosen f ws)) (w ∷ without t (chosen f ws))) j)
    by true i false j e = ap (λ (b : Bool). cond b (w ∷ chosen f (without t ws)) (chosen f (without t ws))) i ∙ ap (λ (l : List Waiter). w ∷ l) e ∙ sym (ap (λ (b : Bool). cond b (without t (chosen f ws)) (w ∷ without t (chosen f ws))) j)
    by false i true j e = e
    by false i false j e = ap (λ (b : Bool). cond b (w ∷ chosen f (without t ws)) (chosen f (without t ws))) i ∙ e

abbrev AllSooner : Waiter → List Waiter → Type 0
AllSooner w [] = Unit {0}
AllSooner w (x ∷ xs) = (is_sooner w x ≡ true) × AllSooner w xs

sooner_than : (a s b t c u : ℕ) → (nat_lt a b || (nat_eq a b && nat_lt s t)) ≡ true → (nat_lt c b || (nat_eq c b && nat_lt u t)) ≡ false → (nat_lt a c || (nat_eq a c && nat_lt s u)) ≡ true
sooner_than a s b t c u e f = grind (arith, nat_tests)

all_sooner : (w x : Waiter) (ys : List Waiter) → is_sooner w x ≡ true → AllLater x ys → AllSooner w ys
all_sooner w x [] e h = tt
all_sooner w x (y ∷ ys) e h = (sooner_than (limit_of w) w.task (limit_of x) x.task (limit_of y) y.task e h.0, all_sooner w x ys e h.1)

sooner_without : (w : Waiter) (t : ℕ) (ys : List Waiter) → AllSooner w ys → AllSooner w (without t ys)
sooner_without w t [] h = tt
sooner_without w t (y ∷ ys) h = by (eqb y.task t) (sooner_without w t ys h.1)
  where
    by : (b : Bool) → AllSooner w (without t ys) → AllSooner w (cond b (without t ys) (y ∷ without t ys))
    by true e = e
    by false e = (h.0, e)

put_first : (w : Waiter) (ys : List Waiter) → AllSooner w ys → put_by_limit w ys ≡ w ∷ ys
put_first w [] h = refl
put_first w (y ∷ ys) h = ap (λ (b : Bool). cond b (w ∷ y ∷ ys) (y ∷ put_by_limit w ys)) h.0

here_gone : (w : Waiter) (t : ℕ) (l : List Waiter) → w.task ≡ t → without t (w ∷ l) ≡ without t l
here_gone w t l e = ap (λ (b : Bool). cond b (without t l) (w ∷ without t l)) (eq-eqb w.task t e)

there_kept : (w : Waiter) (t : ℕ) (l : List Waiter) → w.task ≢ t → without t (w ∷ l) ≡ w ∷ without t l
there_kept w t l n = ap (λ (b : Bool). cond b (without t l) (w ∷ without t l)) (ne_eqb w.task t n)

put_gone : (w : Waiter) (t : ℕ) (xs : List Waiter) → w.task ≡ t → without t (put_by_limit w xs) ≡ without t xs
put_gone w t [] e = here_gone w t [] e
put_gone w t (x ∷ xs) e = by (is_sooner w x) (put_gone w t xs e)
  where
    by : (b : Bool) → without t (put_by_limit w xs) ≡ without t xs → without t (cond b (w ∷ x ∷ xs) (x ∷ put_by_limit w xs)) ≡ without t (x ∷ xs)
    by true h = here_gone w t (x ∷ xs) e
    by false h = ap (λ (l : List Waiter). cond (eqb x.task t) l (x ∷ l)) h

put_kept : (w : Waiter) (t : ℕ) (xs : List Waiter) → w.task ≢ t → InOrder xs → without t (put_by_limit w xs) ≡ put_by_limit w (without t xs)
put_kept w t [] n h = there_kept w t [] n
put_kept w t (x ∷ xs) n h = by (is_sooner w x) refl (put_kept w t xs n h.1)
  where
    later : (b : Bool) → is_sooner w x ≡ false → without t (put_by_limit w xs) ≡ put_by_limit w (without t xs) → cond b (without t (put_by_limit w xs)) (x ∷ without t (put_by_limit w xs)) ≡ put_by_limit w (cond b (without t xs) (x ∷ without t xs))
    later true i e = e
    later false i e = ap (λ (l : List Waiter). x ∷ l) e ∙ sym (ap (λ (b : Bool). cond b (w ∷ x ∷ without t xs) (x ∷ put_by_limit w (without t xs))) i)

    by : (b : Bool) → is_sooner w x ≡ b → without t (put_by_limit w xs) ≡ put_by_limit w (without t xs) → without t (cond b (w ∷ x ∷ xs) (x ∷ put_by_limit w xs)) ≡ put_by_limit w (without t (x ∷ xs))
    by true i e = there_kept w t (x ∷ xs) n ∙ sym (put_first w (without t (x ∷ xs)) (sooner_without w t (x ∷ xs) (i, all_sooner w x xs i h.0)))
    by false i e = later (eqb x.task t) i e

by_limit_without : (t : ℕ) (ws : List Waiter) → by_limit (without t ws) ≡ without t (by_limit ws)
by_limit_without t [] = refl
by_limit_without t (w ∷ ws) = elim (decide w.task t) [
  | inl e ↦ ap (λ (l : List Waiter). by_limit l) (here_gone w t ws e) ∙ by_limit_without t ws ∙ sym (put_gone w t (by_limit ws) e)
  | inr n ↦ ap (λ (l : List Waiter). by_limit l) (there_kept w t ws n) ∙ ap (λ (l : List Waiter). put_by_limit w l) (by_limit_without t ws) ∙ sym (put_kept w t (by_limit ws) n (dues_in_order ws))
]

-- nobody stands twice among them
once_chosen : (f : Waiter → Bool) (ws : List Waiter) → Once ws → Once (chosen f ws)
unfolding Once
once_chosen f ws h t = elim (h t) [
  | inl e ↦ inl (chosen_none f t ws e)
  | inr e ↦ (elim (chosen_one f t (Some (Waiting e.0)) ws e.1) [ inl none ↦ inl none | inr one ↦ inr (e.0, one) ])
]

sorted_seats : (ws : List Waiter) → Once ws → (t : ℕ) → seats t (by_limit ws) ≡ seats t ws
sorted_seats [] h t = refl
sorted_seats (w ∷ ws) h t = elim (decide w.task t) [
  | inl same ↦
      (let none : seats t ws ≡ [] = subst (λ (k : ℕ). seats k ws ≡ []) same (once_rest w ws h) in
      inserted_here t w (by_limit ws) same (sorted_seats ws (once_tail w ws h) t ∙ none) ∙ sym (seats_here t w ws same ∙ ap (λ (l : List Place). w.place ∷ l) none))
  | inr n ↦ inserted_there t w (by_limit ws) n ∙ sorted_seats ws (once_tail w ws h) t ∙ sym (seats_there t w ws n)
]

once_sorted : (ws : List Waiter) → Once ws → Once (by_limit ws)
unfolding Once
once_sorted ws h t = subst (λ (l : List Place). (l ≡ []) ⊎ ((p : Place) × (l ≡ p ∷ []))) (sym (sorted_seats ws h t)) (h t)

abbrev dues : ℕ → List Waiter → List Waiter
dues now ws = by_limit (chosen (is_due now) ws)

first_is : (l : List Waiter) (w : Waiter) → first l ≡ Some w → (rest : List Waiter) × (l ≡ w ∷ rest)
first_is [] w e = absurd (cc e)
first_is (x ∷ l) w e = let same : x ≡ w = cc e in (l, ap (λ (y : Waiter). y ∷ l) same)

dues_once : (now : ℕ) (ws : List Waiter) → Once ws → Once (dues now ws)
dues_once now ws h = once_sorted (chosen (is_due now) ws) (once_chosen (is_due now) ws h)

dues_step : (now : ℕ) (ws : List Waiter) (w : Waiter) → Once ws → first_due now ws ≡ Some w → dues now ws ≡ w ∷ dues now (without w.task ws)
dues_step now ws w h e =
    let f = first_is (dues now ws) w e in
    let once : Once (w ∷ f.0) = subst (λ (l : List Waiter). Once l) f.1 (dues_once now ws h) in
    let gone : dues now (without w.task ws) ≡ without w.task (w ∷ f.0) = ap (λ (l : List Waiter). by_limit l) (chosen_without (is_due now) w.task ws) ∙ by_limit_without w.task (chosen (is_due now) ws) ∙ ap (λ (l : List Waiter). without w.task l) f.1 in
    let rest : dues now (without w.task ws) ≡ f.0 = gone ∙ here_gone w w.task f.0 refl ∙ without_nobody w.task f.0 (once_rest w f.0 once) in
    f.1 ∙ ap (λ (l : List Waiter). w ∷ l) (sym rest)

due_shorter : (now : ℕ) (ws : List Waiter) (w : Waiter) → Once ws → first_due now ws ≡ Some w → suc (length (without w.task ws)) ≤ length ws
due_shorter now ws w h e = by (seats w.task ws) refl
  where
    by : (l : List Place) → seats w.task ws ≡ l → suc (length (without w.task ws)) ≤ length ws
    by [] n =
        let f = first_is (dues now ws) w e in
        let none : seats w.task (dues now ws) ≡ [] = sorted_seats (chosen (is_due now) ws) (once_chosen (is_due now) ws h) w.task ∙ chosen_none (is_due now) w.task ws n in
        let bad : w.place ∷ seats w.task f.0 ≡ [] = sym (ap (λ (l : List Waiter). seats w.task l) f.1 ∙ seats_here w.task w f.0 refl) ∙ none in
        absurd (no bad)
      where
        no : {x : Place} {l : List Place} → x ∷ l ≡ [] → ⊥
        no bad = cc
    by (p ∷ l) n = shorter w.task ws p l n

-- what is done and what is left to do are the whole, and there is room for it
pub record Ticking (now : ℕ) (ws0 : List Waiter) (woken0 : List Delivery) (ws : List Waiter) (woken : List Delivery) : Type 0 where
  pub answers : woken ++ due now ws ≡ woken0 ++ due now ws0
  pub lines : lines_after (due now ws) ws ≡ lines_after (due now ws0) ws0
  pub room : length woken + length ws ≤ MOST_LIVE_TASKS

abbrev pub due_answer : ℕ → Place → Delivery
due_answer t place = record { task = t; answer = late place }

-- the one that was taken
pub taken_is : (now : ℕ) (ws : List Waiter) (t : ℕ) (place : Place) (r : Option (ℕ × Place)) → r ≡ task_and_place (first_due now ws) → r ≡ Some (t, place) → (w : Waiter) × (first_due now ws ≡ Some w) × (w.task ≡ t) × (w.place ≡ place)
taken_is now ws t place r is some = by (first_due now ws) refl (sym is ∙ some)
  where
    by : (o : Option Waiter) → first_due now ws ≡ o → task_and_place o ≡ Some (t, place) → (w : Waiter) × (first_due now ws ≡ Some w) × (w.task ≡ t) × (w.place ≡ place)
    by None f e = absurd (cc e)
    by (Some w) f e = (w, f, ap (λ (o : Option (ℕ × Place)). elim o [ None ↦ t | Some x ↦ x.0 ]) e, ap (λ (o : Option (ℕ × Place)). elim o [ None ↦ place | Some x ↦ x.1 ]) e)

pub ticking_less : (now : ℕ) (ws ws' : List Waiter) (t : ℕ) (place : Place) (r : Option (ℕ × Place)) → Once ws → r ≡ task_and_place (first_due now ws) → r ≡ Some (t, place) → ws' ≡ after (first_due now ws) ws → length ws' < length ws
ticking_less now ws ws' t place r once is some rest =
    let (w, f, same, at) = taken_is now ws t place r is some in
    let short : suc (length (without w.task ws)) ≤ length ws = due_shorter now ws w once f in
    let long : length ws' ≡ length (without w.task ws) = ap (λ (l : List Waiter). length l) (rest ∙ ap (λ (o : Option Waiter). after o ws) f) in
    omega (arith, short, long)

pub ticking_more : (now : ℕ) (ws0 ws ws' : List Waiter) (woken0 woken woken' : List Delivery) (r : Option (ℕ × Place)) (t : ℕ) (place : Place) (a : Answer) → Ticking now ws0 woken0 ws woken → Once ws → r ≡ task_and_place (first_due now ws) → r ≡ Some (t, place) → ws' ≡ after (first_due now ws) ws →
    a ≡ late place → woken' ≡ woken ++ record { task = t; answer = a } ∷ [] → Ticking now ws0 woken0 ws' woken'
ticking_more now ws0 ws ws' woken0 woken woken' r t place a i once is some rest says more =
    let (w, f, same, at) = taken_is now ws t place r is some in
    let step : due now ws ≡ due_answer w.task w.place ∷ due now (without w.task ws) = ap (λ (l : List Waiter). answers_to (λ v. late v.place) l) (dues_step now ws w once f) in
    let got : woken' ≡ woken ++ due_answer w.task w.place ∷ [] = more ∙ ap₂ (λ (k : ℕ) (b : Answer). woken ++ record { task = k; answer = b } ∷ []) (sym same) (says ∙ ap (λ (p : Place). late p) (sym at)) in
    let gone : ws' ≡ without w.task ws = rest ∙ ap (λ (o : Option Waiter). after o ws) f in
    let fewer : length ws' < length ws = ticking_less now ws ws' t place r once is some rest in
    let one : length woken' ≡ length woken + 1 = ap (λ (l : List Delivery). length l) more ∙ length-append woken (record { task = t; answer = a } ∷ []) in
    let room : length woken + length ws ≤ MOST_LIVE_TASKS = i.room in
    record {
      answers = ap₂ (λ (x : List Delivery) (y : List Waiter). x ++ due now y) got gone ∙ append_assoc woken (due_answer w.task w.place ∷ []) (due now (without w.task ws)) ∙ ap (λ (l : List Delivery). woken ++ l) (sym step) ∙ i.answers;
      lines = ap (λ (l : List Waiter). lines_after (due now l) l) gone ∙ sym (ap (λ (l : List Delivery). lines_after l ws) step) ∙ i.lines;
      room = omega (arith, fewer, one, room);
    }

append_nil : (xs : List Delivery) → xs ++ [] ≡ xs
append_nil [] = refl
append_nil (x ∷ xs) = ap (λ (l : List Delivery). x ∷ l) (append_nil xs)

none_due : (now : ℕ) (ws : List Waiter) (r : Option (ℕ × Place)) → r ≡ task_and_place (first_due now ws) → r ≡ None → first_due now ws ≡ None
none_due now ws r is none = by (first_due now ws) (sym is ∙ none)
  where
    by : (o : Option Waiter) → task_and_place o ≡ None → o ≡ None
    by None e = refl
    by (Some w) e = absurd (cc e)

due_end : (now : ℕ) (ws : List Waiter) → first_due now ws ≡ None → due now ws ≡ []
due_end now ws e = by (dues now ws) e
  where
    by : (l : List Waiter) → first l ≡ None → answers_to (λ v. late v.place) l ≡ []
    by [] f = refl
    by (x ∷ l) f = absurd (cc f)

pub ticked_lines : (now : ℕ) (ws0 ws ws' : List Waiter) (woken0 woken : List Delivery) (r : Option (ℕ × Place)) → Ticking now ws0 woken0 ws woken → r ≡ task_and_place (first_due now ws) → r ≡ None → ws' ≡ after (first_due now ws) ws → ws' ≡ lines_after (due now ws0) ws0
ticked_lines now ws0 ws ws' woken0 woken r i is e rest =
    let none : first_due now ws ≡ None = none_due now ws r is e in
    rest ∙ ap (λ (o : Option Waiter). after o ws) none ∙ sym (ap (λ (l : List Delivery). lines_after l ws) (due_end now ws none)) ∙ i.lines

pub ticked_woken : (now : ℕ) (ws0 ws : List Waiter) (woken0 woken : List Delivery) (r : Option (ℕ × Place)) → Ticking now ws0 woken0 ws woken → r ≡ task_and_place (first_due now ws) → r ≡ None → woken ≡ woken0 ++ due now ws0
ticked_woken now ws0 ws woken0 woken r i is e =
    sym (append_nil woken) ∙ sym (ap (λ (l : List Delivery). woken ++ l) (due_end now ws (none_due now ws r is e))) ∙ i.answers

-- the whole of a tick
module _ (p : Parts) (k : IsClear p) (now : ℕ) (got : List Delivery) (e : got ≡ p.woken ++ due now p.lines) where
  got_is : got ≡ due now p.lines
  got_is = e ∙ ap (λ (l : List Delivery). l ++ due now p.lines) k.deliveries

  pub tick_lives : (given : List Delivery) → given ≡ got → AllLive given p.tasks
  tick_lives given g = lives p (due now p.lines) given (due_fit now (roster_of p) k.sound.keeps.seated) (g ∙ got_is)

  pub tick_does : (ms : ℕ) (a : Answer) (ws' : List Waiter) (given : List Delivery) (xs' : List Slot) → now ≡ p.clock + ms → a ≡ plain (coded 0) → ws' ≡ lines_after (due now p.lines) p.lines → given ≡ got → xs' ≡ freed given p.tasks →
      Does (tick (shared_of p) ms) a p (record p { lines = ws'; tasks = xs'; clock = now; woken = got })
  tick_does ms a ws' given xs' t is l g x = record {
    answer_is = is;
    leaves = record {
      shared = ap₂ (λ (r : Roster) (n : ℕ). record (shared_of p) { roster = r; clock = n })
          (answered_roster p.lines ws' p.tasks xs' (due now p.lines) got l got_is (x ∙ ap (λ (d : List Delivery). freed d p.tasks) g) ∙ ap (λ (n : ℕ). after_answers (due n p.lines) (roster_of p)) t) t;
      deliveries = got_is ∙ ap (λ (n : ℕ). due n p.lines) t;
      birth = k.birth;
      layout = refl;
    };
  }

-- sleeping
pub sleeps : (now unit : ℕ) (z : ℤ) → int_lt z (pos 0) ≡ false → z ≢ pos 0 → sleep now z unit ≡ Joins places.Clock (Some (now + nat_abs z * unit))
sleeps now unit (pos zero) l m = absurd (m refl)
sleeps now unit (pos (suc n)) l m = refl
sleeps now unit (negsuc n) l m = absurd (true≢false l)
