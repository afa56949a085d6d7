-- The loop that turns all away at a place.
use Rattle.std.proofs.Common.{◌≡◌, ◌≤◌, ◌<◌, ◌+◌, ◌++◌, ℕ, suc, List, [], ◌∷◌, length, Option, Some, None, refl, sym, ap, ap₂, ◌∙◌, arith, append_assoc, length-append}
use Rattle.ci_base.specs.declared.bounds.TheConstants.{MOST_LIVE_TASKS}
use Rattle.ci_base.specs.declared.place.Place.{Place}
use Rattle.ci_base.specs.declared.task.Delivery.{Delivery}
use Rattle.ci_shared.specs.declared.waiter.Waiter.{Waiter}
use Rattle.ci_shared.specs.Roster.{Once, first_in, lines_after, without}
use Rattle.ci_shared.specs.Rows.{coded, plain, turned_away}
use Rattle.ci_shared.specs.Sections.{after}
use Rattle.ci_shared.proofs.Lines.{first_shorter, turn_step, turn_end}
use Rattle.ci_lines.specs.Found.{task_of}

-- what is done and what is left to do are the whole, and there is room for it
pub record Turning (p : Place) (ws0 : List Waiter) (woken0 : List Delivery) (ws : List Waiter) (woken : List Delivery) : Type 0 where
  pub answers : woken ++ turned_away p ws ≡ woken0 ++ turned_away p ws0
  pub lines : lines_after (turned_away p ws) ws ≡ lines_after (turned_away p ws0) ws0
  pub room : length woken + length ws ≤ MOST_LIVE_TASKS

abbrev pub refusal : ℕ → Delivery
refusal t = record { task = t; answer = plain (coded 1) }

-- one is left, and so there is room for one
pub first_left : (p : Place) (ws : List Waiter) (t : ℕ) (r : Option ℕ) → r ≡ task_of (first_in p ws) → r ≡ Some t → (w : Waiter) × (first_in p ws ≡ Some w) × (w.task ≡ t)
first_left p ws t r is some = by (first_in p ws) refl (sym is ∙ some)
  where
    by : (o : Option Waiter) → first_in p ws ≡ o → task_of o ≡ Some t → (w : Waiter) × (first_in p ws ≡ Some w) × (w.task ≡ t)
    by None f e = absurd (cc e)
    by (Some w) f e = (w, f, cc e)

pub less : (p : Place) (ws ws' : List Waiter) (t : ℕ) (r : Option ℕ) → r ≡ task_of (first_in p ws) → r ≡ Some t → ws' ≡ after (first_in p ws) ws → length ws' < length ws
less p ws ws' t r is some rest =
    let left = first_left p ws t r is some in
    let short : suc (length (without left.0.task ws)) ≤ length ws = first_shorter p ws left.0 left.1 in
    let same : ws' ≡ without left.0.task ws = rest ∙ ap (λ (o : Option Waiter). after o ws) left.1 in
    let long : length ws' ≡ length (without left.0.task ws) = ap (λ (l : List Waiter). length l) same in
    omega (arith, short, long)

pub turning_more : (p : Place) (ws0 ws ws' : List Waiter) (woken0 woken woken' : List Delivery) (r : Option ℕ) (t : ℕ) → Turning p ws0 woken0 ws woken → Once ws → r ≡ task_of (first_in p ws) → r ≡ Some t → ws' ≡ after (first_in p ws) ws → woken' ≡ woken ++ refusal t ∷ [] →
    Turning p ws0 woken0 ws' woken'
turning_more p ws0 ws ws' woken0 woken woken' r t i once is some rest more =
    let left = first_left p ws t r is some in
    let w : Waiter = left.0 in
    let step : turned_away p ws ≡ refusal w.task ∷ turned_away p (without w.task ws) = turn_step p ws w once left.1 in
    let now : woken' ≡ woken ++ refusal w.task ∷ [] = more ∙ ap (λ (k : ℕ). woken ++ refusal k ∷ []) (sym left.2) in
    let gone : ws' ≡ without w.task ws = rest ∙ ap (λ (o : Option Waiter). after o ws) left.1 in
    let fewer : length ws' < length ws = less p ws ws' t r is some rest in
    let one : length woken' ≡ length woken + 1 = ap (λ (l : List Delivery). length l) more ∙ length-append woken (refusal t ∷ []) in
    let room : length woken + length ws ≤ MOST_LIVE_TASKS = i.room in
    record {
      answers = ap₂ (λ (a : List Delivery) (b : List Waiter). a ++ turned_away p b) now gone ∙ append_assoc woken (refusal w.task ∷ []) (turned_away p (without w.task ws)) ∙ ap (λ (l : List Delivery). woken ++ l) (sym step) ∙ i.answers;
      lines = ap (λ (l : List Waiter). lines_after (turned_away p l) l) gone ∙ sym (ap (λ (l : List Delivery). lines_after l ws) step) ∙ i.lines;
      room = omega (arith, fewer, one, room);
    }

append_nil : (xs : List Delivery) → xs ++ [] ≡ xs
append_nil [] = refl
append_nil (x ∷ xs) = ap (λ (l : List Delivery). x ∷ l) (append_nil xs)

none_left : (p : Place) (ws : List Waiter) (r : Option ℕ) → r ≡ task_of (first_in p ws) → r ≡ None → first_in p ws ≡ None
none_left p ws r is none = by (first_in p ws) (sym is ∙ none)
  where
    by : (o : Option Waiter) → task_of o ≡ None → o ≡ None
    by None e = refl
    by (Some w) e = absurd (cc e)

pub turned_lines : (p : Place) (ws0 ws ws' : List Waiter) (woken0 woken : List Delivery) (r : Option ℕ) → Turning p ws0 woken0 ws woken → r ≡ task_of (first_in p ws) → r ≡ None → ws' ≡ after (first_in p ws) ws → ws' ≡ lines_after (turned_away p ws0) ws0
turned_lines p ws0 ws ws' woken0 woken r i is e rest =
    let none : first_in p ws ≡ None = none_left p ws r is e in
    rest ∙ ap (λ (o : Option Waiter). after o ws) none ∙ sym (ap (λ (l : List Delivery). lines_after l ws) (turn_end p ws none)) ∙ i.lines

pub turned_woken : (p : Place) (ws0 ws : List Waiter) (woken0 woken : List Delivery) (r : Option ℕ) → Turning p ws0 woken0 ws woken → r ≡ task_of (first_in p ws) → r ≡ None → woken ≡ woken0 ++ turned_away p ws0
turned_woken p ws0 ws woken0 woken r i is e =
    sym (append_nil woken) ∙ sym (ap (λ (l : List Delivery). woken ++ l) (turn_end p ws (none_left p ws r is e))) ∙ i.answers
