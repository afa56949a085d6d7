-- What each row owes, and the five shapes of a row.
use Rattle.std.proofs.Common.{Contains, ◌≡◌, ◌≢◌, ◌⊎◌, ◌<◌, ◌≤◌, ◌++◌, ℕ, zero, suc, Bool, true, false, cond, List, [], ◌∷◌, length, Option, Some, None, refl, sym, ap, ◌∙◌, subst, inl, inr, map, arith}
use Rattle.std.proofs.lemmas.Bool.{or_parts, leb-false}
use Rattle.std.specs.Prelude.{nat_le}
use Rattle.ci_base.specs.declared.bounds.TheConstants.{MOST_LIVE_TASKS, MOST_TASKS}
use Rattle.ci_base.specs.declared.event.EventReply.{EventReply}
use Rattle.ci_base.specs.declared.place.Place.{Place}
use Rattle.ci_base.specs.declared.reply.Answer.{Answer}
use Rattle.ci_base.specs.declared.reply.Reply.{Reply}
use Rattle.ci_base.specs.declared.task.Birth.{Birth}
use Rattle.ci_base.specs.declared.task.Delivery.{Delivery}
use Rattle.ci_base.specs.Values.{kind_of}
use Rattle.ci_shared.proofs.Counting.{all_before, all_waited, answers_few, answers_live, marked_live, no_longer, no_more, pushed_live, same_live}
use Rattle.ci_shared.proofs.Fit.{AreFit, SameOrWoke, answers_changes, answers_functions, answers_seated}
use Rattle.ci_shared.proofs.Numbers.{decide}
use Rattle.ci_shared.proofs.Seats.{joins_seated, leaves_seated, same_functions, standing_marked, standing_other, standing_pushed, standing_set}
use Rattle.ci_shared.specs.Laws.{AllWaited, Died, Grows, Keeps, Other, Seated, functions, seat_of, woken}
use Rattle.ci_shared.specs.Arguments.{arguments}
use Rattle.ci_shared.specs.Roster.{Ready, Roster, Standing, Task, Waiting, after_answers, change_task, count_live, is_full, is_live, joins, leaves, set_standing, standing_at, standing_from, standing_in, with_mark, with_standing, without}
use Rattle.ci_shared.specs.Rows.{Joins}
use Rattle.ci_shared.specs.Started.{Basis, Starts, fresh}
use Rattle.ci_shared.specs.State.{Served, Shared, attempted, only}
use Rattle.ci_shared.specs.Steps.{start}

-- all but the asker u change as they may, with vs those that may be killed; the invariant is kept, where F holds
pub record Fair (R : Type 0) (F : Type 0) (l : Basis) (vs : List ℕ) (u : ℕ) (s : Shared) (x : Served R) : Type 0 where
  pub others : (t : ℕ) (st : Standing) → t ≢ u → standing_at s.roster t ≡ Some st → (st' : Standing) × (standing_at x.shared.roster t ≡ Some st') × Other vs t st st' (woken t x.deliveries)
  pub keeps : F → Keeps l x.shared
  pub answers : AllWaited s.roster x.deliveries × (length x.deliveries ≤ length s.roster.waiting)
  pub grows : Grows l s.roster.tasks x.shared.roster.tasks x.birth

widen : (vs : List ℕ) (t : ℕ) (s s' : Standing) (g : List Answer) → SameOrWoke s s' g → Other vs t s s' g
widen vs t s s' g (inl h) = inl h
widen vs t s s' g (inr h) = inr (inl h)

place_pushed_from : (xs : List Task) (y : Task) (n : ℕ) → y.standing ≡ Ready → seat_of (standing_from (xs ++ y ∷ []) n) ≡ seat_of (standing_from xs n)
place_pushed_from [] y zero e = ap (λ (r : Standing). seat_of (Some r)) e
place_pushed_from [] y (suc n) e = refl
place_pushed_from (x ∷ xs) y zero e = refl
place_pushed_from (x ∷ xs) y (suc n) e = place_pushed_from xs y n e

place_pushed : (xs : List Task) (y : Task) (t : ℕ) → y.standing ≡ Ready → seat_of (standing_in (xs ++ y ∷ []) t) ≡ seat_of (standing_in xs t)
place_pushed xs y zero e = refl
place_pushed xs y (suc n) e = place_pushed_from xs y n e

pub nobody : (c : Roster) (t : ℕ) (st : Standing) → standing_at c t ≡ Some st → t ≢ 0
nobody c zero st e same = absurd (cc)
nobody c (suc n) st e same = absurd (cc)

module _ (l : Basis) (s : Shared) (k : Keeps l s) (F : Type 0) (vs : List ℕ) (u : ℕ) where
  -- some are answered, else nobody changes
  pub fair_answers : {R : Type 0} (new : Shared) (r : R) (ds : List Delivery) → new.roster ≡ after_answers ds s.roster → (F → map kind_of new.cells ≡ l.kinds) → AreFit s.roster ds → Fair R F l vs u s (record { shared = new; reply = r; deliveries = ds; birth = None })
  fair_answers new r ds e kinds fit = record {
    others = λ t st n is.
        let (st', at, h) = answers_changes ds s.roster t st fit is in
        (st', ap (λ (c : Roster). standing_at c t) e ∙ at, widen vs t st st' (woken t ds) h);
    keeps = λ f. record { seated = subst (λ (c : Roster). Seated c) (sym e) (answers_seated ds s.roster k.seated); few = subst (λ (m : ℕ). m ≤ MOST_LIVE_TASKS) (sym (ap (λ (c : Roster). count_live c.tasks) e ∙ answers_live ds s.roster fit)) k.few; kinds = kinds f };
    answers = (all_waited ds s.roster fit, answers_few ds s.roster k.seated fit);
    grows = ap (λ (c : Roster). functions c.tasks) e ∙ answers_functions ds s.roster;
  }

  -- nobody changes
  pub fair_only : {R : Type 0} (new : Shared) (r : R) → new.roster ≡ s.roster → (F → map kind_of new.cells ≡ l.kinds) → Fair R F l vs u s (only new r)
  fair_only new r e kinds = fair_answers new r [] e kinds tt

  -- one is no longer live, and some are answered
  pub fair_gone : {R : Type 0} (new : Shared) (r : R) (y : Standing) (n : ℕ) (ds : List Delivery) → seat_of (Some y) ≡ [] → is_live y ≡ false → Contains vs n ⊎ (n ≡ u) → new.roster ≡ after_answers ds (leaves y n s.roster) → map kind_of new.cells ≡ l.kinds → AreFit (leaves y n s.roster) ds →
      Fair R F l vs u s (record { shared = new; reply = r; deliveries = ds; birth = None })
  fair_gone new r y n ds out dead who e kinds fit = record {
    others = λ t st o is. elim (decide t n) [
      | inl same ↦
          (let there : standing_at (leaves y n s.roster) t ≡ Some y = subst (λ (m : ℕ). standing_at (leaves y m s.roster) t ≡ Some y) same (standing_set s.roster.tasks t st y is) in
          let (st', at, h) = answers_changes ds (leaves y n s.roster) t y fit there in
          (st', ap (λ (c : Roster). standing_at c t) e ∙ at, inr (inr (died t st' same o h))))
      | inr m ↦
          (let (st', at, h) = answers_changes ds (leaves y n s.roster) t st fit (standing_other s.roster.tasks n t y m ∙ is) in
          (st', ap (λ (c : Roster). standing_at c t) e ∙ at, widen vs t st st' (woken t ds) h))
    ];
    keeps = λ f. record { seated = subst (λ (c : Roster). Seated c) (sym e) (answers_seated ds (leaves y n s.roster) (leaves_seated s.roster n y out k.seated)); few = fewer_now; kinds = kinds };
    answers = (all_before ds s.roster n y out (all_waited ds (leaves y n s.roster) fit), shorter_now);
    grows = ap (λ (c : Roster). functions c.tasks) e ∙ answers_functions ds (leaves y n s.roster) ∙ same_functions (with_standing y) (λ x. refl) s.roster.tasks n;
  }
    where
      fewer_now : count_live new.roster.tasks ≤ MOST_LIVE_TASKS
      fewer_now =
          let same : count_live new.roster.tasks ≡ count_live (set_standing y n s.roster.tasks) = ap (λ (c : Roster). count_live c.tasks) e ∙ answers_live ds (leaves y n s.roster) fit in
          let most : count_live (set_standing y n s.roster.tasks) ≤ count_live s.roster.tasks = no_more s.roster.tasks n y dead in
          let few : count_live s.roster.tasks ≤ MOST_LIVE_TASKS = k.few in
          omega (arith, same, most, few)

      shorter_now : length ds ≤ length s.roster.waiting
      shorter_now =
          let a : length ds ≤ length (without n s.roster.waiting) = answers_few ds (leaves y n s.roster) (leaves_seated s.roster n y out k.seated) fit in
          let b : length (without n s.roster.waiting) ≤ length s.roster.waiting = no_longer n s.roster.waiting in
          omega (arith, a, b)

      named_one : (t : ℕ) → t ≡ n → t ≢ u → Contains vs n ⊎ (n ≡ u) → Contains vs t
      named_one t same o (inl w) = subst (λ (m : ℕ). Contains vs m) (sym same) w
      named_one t same o (inr w) = absurd (o (same ∙ w))

      placed : (p : Place) → y ≡ Waiting p → ⊥
      placed p w = let bad : p ∷ [] ≡ [] = sym (ap (λ (z : Standing). seat_of (Some z)) w) ∙ out in cc bad

      died : (t : ℕ) (st' : Standing) → t ≡ n → t ≢ u → SameOrWoke y st' (woken t ds) → Died vs t st' (woken t ds)
      died t st' same o (inl h) = (named_one t same o who, ap (λ (z : Standing). is_live z) h.0 ∙ dead, h.1)
      died t st' same o (inr h) = absurd (placed h.0 h.2)

  -- the asker waits
  pub fair_waits : (new : Shared) (p : Place) (limit : Option ℕ) → standing_at s.roster u ≡ Some Ready → new.roster ≡ s.roster → map kind_of new.cells ≡ l.kinds → Fair Reply F l vs u s (attempted new u (Joins p limit))
  fair_waits new p limit ready e kinds = record {
    others = λ t st n is. (st, ap (λ (c : Roster). standing_at (joins u p limit c) t) e ∙ standing_other s.roster.tasks u t (Waiting p) n ∙ is, inl (refl, refl));
    keeps = λ f. record { seated = subst (λ (c : Roster). Seated (joins u p limit c)) (sym e) (joins_seated s.roster u p limit ready k.seated); few = subst (λ (m : ℕ). m ≤ MOST_LIVE_TASKS) (sym (ap (λ (c : Roster). count_live (joins u p limit c).tasks) e ∙ same_live s.roster.tasks u Ready (Waiting p) ready refl)) k.few; kinds = kinds };
    answers = (tt, omega arith);
    grows = ap (λ (c : Roster). functions (joins u p limit c).tasks) e ∙ same_functions (with_standing (Waiting p)) (λ x. refl) s.roster.tasks u;
  }

  -- a task is born
  pub fair_born : (b : Birth) (list : List ℕ) → b.task ≡ suc (length s.roster.tasks) → b.function < length l.functions → is_full s.roster.tasks ≡ false → arguments l.functions b.function list ≡ Some b.args → Fair EventReply F l vs u s (start s (Starts b))
  fair_born b list next below free fits = record {
    others = λ t st n is. (st, standing_pushed s.roster.tasks _ t st is, inl (refl, refl));
    keeps = λ g. record { seated = λ t. k.seated t ∙ sym (place_pushed s.roster.tasks (fresh b.function) t refl); few = born_few; kinds = k.kinds };
    answers = (tt, omega arith);
    grows = (refl, next, below, free, (list, fits));
  }
    where
      born_few : count_live (s.roster.tasks ++ fresh b.function ∷ []) ≤ MOST_LIVE_TASKS
      born_few =
          let room : count_live s.roster.tasks < MOST_LIVE_TASKS = leb-false MOST_LIVE_TASKS (count_live s.roster.tasks) (or_parts (nat_le MOST_LIVE_TASKS (count_live s.roster.tasks)) (nat_le MOST_TASKS (length s.roster.tasks)) free).0 in
          let more : count_live (s.roster.tasks ++ fresh b.function ∷ []) ≤ suc (count_live s.roster.tasks) = pushed_live s.roster.tasks (fresh b.function) in
          omega (arith, room, more)

  -- a mark of suspension
  pub fair_mark : (b : Bool) (n : ℕ) (r : EventReply) → Fair EventReply F l vs u s (only (record s { roster = record { tasks = change_task (with_mark b) n s.roster.tasks; waiting = s.roster.waiting } }) r)
  fair_mark b n r = record {
    others = λ t st o is. (st, standing_marked b s.roster.tasks n t ∙ is, inl (refl, refl));
    keeps = λ f. record { seated = λ t. k.seated t ∙ ap seat_of (sym (standing_marked b s.roster.tasks n t)); few = subst (λ (m : ℕ). m ≤ MOST_LIVE_TASKS) (sym (marked_live b s.roster.tasks n)) k.few; kinds = k.kinds };
    answers = (tt, omega arith);
    grows = same_functions (with_mark b) (λ x. refl) s.roster.tasks n;
  }

  pub fair_if : {R : Type 0} (b : Bool) (x y : Served R) → Fair R F l vs u s x → Fair R F l vs u s y → Fair R F l vs u s (cond b x y)
  fair_if true x y hx hy = hx
  fair_if false x y hx hy = hy
