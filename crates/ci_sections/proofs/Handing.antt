-- The loop that gives sections on.
use Rattle.std.proofs.Common.{◌≡◌, ◌≤◌, ◌+◌, ◌++◌, ℕ, zero, suc, Bool, true, false, cond, List, [], ◌∷◌, length, Option, Some, None, refl, sym, ap, ap₂, ◌∙◌, subst, arith, append_assoc, length-append}
use Rattle.std.specs.Prelude.{slice_get, slice_set}
use Rattle.std.specs.List.{remove}
use Rattle.ci_base.specs.declared.bounds.TheConstants.{MOST_LIVE_TASKS}
use Rattle.ci_base.specs.declared.place.Place.TheVariants as places
use Rattle.ci_base.specs.declared.task.Delivery.{Delivery}
use Rattle.ci_shared.specs.declared.object.Section.{Section}
use Rattle.ci_shared.specs.declared.waiter.Waiter.{Waiter}
use Rattle.ci_shared.specs.Roster.{first_in, lines_after, without}
use Rattle.ci_shared.specs.Sections.{after, given_answers, given_sections, handed, handed_to}
use Rattle.ci_shared.proofs.Lines.{first_shorter}
use Rattle.ci_sections.specs.Picked.{Gives, GivesAt}

-- those before a place stay, and the others are given on
abbrev pub sections_from : (Section → Bool) → ℕ → List Section → List Waiter → List Section
sections_from f zero xs ws = given_sections f xs ws
sections_from f (suc n) [] ws = []
sections_from f (suc n) (x ∷ xs) ws = x ∷ sections_from f n xs ws

abbrev pub answers_from : (Section → Bool) → ℕ → List Section → List Waiter → List Delivery
answers_from f zero xs ws = given_answers f xs ws
answers_from f (suc n) [] ws = []
answers_from f (suc n) (x ∷ xs) ws = answers_from f n xs ws

-- what is done and what is left to do are the whole, and there is room for it
pub record Giving (f : Section → Bool) (xs0 : List Section) (ws0 : List Waiter) (woken0 : List Delivery) (at : ℕ) (xs : List Section) (ws : List Waiter) (woken : List Delivery) : Type 0 where
  pub sections : sections_from f at xs ws ≡ given_sections f xs0 ws0
  pub answers : woken ++ answers_from f at xs ws ≡ woken0 ++ given_answers f xs0 ws0
  pub lines : lines_after (answers_from f at xs ws) ws ≡ lines_after (given_answers f xs0 ws0) ws0
  pub room : length woken + length ws ≤ MOST_LIVE_TASKS

-- one that isn't picked
pass_sections : (f : Section → Bool) (at : ℕ) (xs : List Section) (ws : List Waiter) (x : Section) → slice_get xs at ≡ Some x → f x ≡ false → sections_from f (suc at) xs ws ≡ sections_from f at xs ws
pass_sections f at [] ws x g n = absurd (cc g)
pass_sections f zero (y ∷ ys) ws x g n =
    let same : y ≡ x = cc g in
    sym (ap (λ (b : Bool). cond b (handed y (first_in (places.Section y.name) ws) ++ given_sections f ys (after (first_in (places.Section y.name) ws) ws)) (y ∷ given_sections f ys ws)) (ap f same ∙ n))
pass_sections f (suc at) (y ∷ ys) ws x g n = ap (λ (l : List Section). y ∷ l) (pass_sections f at ys ws x g n)

pass_answers : (f : Section → Bool) (at : ℕ) (xs : List Section) (ws : List Waiter) (x : Section) → slice_get xs at ≡ Some x → f x ≡ false → answers_from f (suc at) xs ws ≡ answers_from f at xs ws
pass_answers f at [] ws x g n = absurd (cc g)
pass_answers f zero (y ∷ ys) ws x g n =
    let same : y ≡ x = cc g in
    sym (ap (λ (b : Bool). cond b (handed_to (first_in (places.Section y.name) ws) ++ given_answers f ys (after (first_in (places.Section y.name) ws) ws)) (given_answers f ys ws)) (ap f same ∙ n))
pass_answers f (suc at) (y ∷ ys) ws x g n = pass_answers f at ys ws x g n

-- one that is picked, and goes to the first in its line
abbrev owned_by : Section → Waiter → Section
owned_by x w = record x { owner = w.task; count = 1 }

hand_sections : (f : Section → Bool) (at : ℕ) (xs : List Section) (ws : List Waiter) (x : Section) (w : Waiter) → slice_get xs at ≡ Some x → f x ≡ true → first_in (places.Section x.name) ws ≡ Some w →
    sections_from f (suc at) (slice_set xs at (owned_by x w)) (without w.task ws) ≡ sections_from f at xs ws
hand_sections f at [] ws x w g p e = absurd (cc g)
hand_sections f zero (y ∷ ys) ws x w g p e =
    let same : y ≡ x = cc g in
    subst (λ (z : Section). owned_by x w ∷ given_sections f ys (without w.task ws) ≡ cond (f z) (handed z (first_in (places.Section z.name) ws) ++ given_sections f ys (after (first_in (places.Section z.name) ws) ws)) (z ∷ given_sections f ys ws)) (sym same)
    (sym (ap₂ (λ (b : Bool) (o : Option Waiter). cond b (handed x o ++ given_sections f ys (after o ws)) (x ∷ given_sections f ys ws)) p e))
hand_sections f (suc at) (y ∷ ys) ws x w g p e = ap (λ (l : List Section). y ∷ l) (hand_sections f at ys ws x w g p e)

hand_answers : (f : Section → Bool) (at : ℕ) (xs : List Section) (ws : List Waiter) (x : Section) (w : Waiter) → slice_get xs at ≡ Some x → f x ≡ true → first_in (places.Section x.name) ws ≡ Some w →
    handed_to (Some w) ++ answers_from f (suc at) (slice_set xs at (owned_by x w)) (without w.task ws) ≡ answers_from f at xs ws
hand_answers f at [] ws x w g p e = absurd (cc g)
hand_answers f zero (y ∷ ys) ws x w g p e =
    let same : y ≡ x = cc g in
    subst (λ (z : Section). handed_to (Some w) ++ given_answers f ys (without w.task ws) ≡ cond (f z) (handed_to (first_in (places.Section z.name) ws) ++ given_answers f ys (after (first_in (places.Section z.name) ws) ws)) (given_answers f ys ws)) (sym same)
    (sym (ap₂ (λ (b : Bool) (o : Option Waiter). cond b (handed_to o ++ given_answers f ys (after o ws)) (given_answers f ys ws)) p e))
hand_answers f (suc at) (y ∷ ys) ws x w g p e = hand_answers f at ys ws x w g p e

-- one that is picked, for which nobody waits
drop_sections : (f : Section → Bool) (at : ℕ) (xs : List Section) (ws : List Waiter) (x : Section) → slice_get xs at ≡ Some x → f x ≡ true → first_in (places.Section x.name) ws ≡ None → sections_from f at (remove xs at) ws ≡ sections_from f at xs ws
drop_sections f at [] ws x g p e = absurd (cc g)
drop_sections f zero (y ∷ ys) ws x g p e =
    let same : y ≡ x = cc g in
    subst (λ (z : Section). given_sections f ys ws ≡ cond (f z) (handed z (first_in (places.Section z.name) ws) ++ given_sections f ys (after (first_in (places.Section z.name) ws) ws)) (z ∷ given_sections f ys ws)) (sym same)
    (sym (ap₂ (λ (b : Bool) (o : Option Waiter). cond b (handed x o ++ given_sections f ys (after o ws)) (x ∷ given_sections f ys ws)) p e))
drop_sections f (suc at) (y ∷ ys) ws x g p e = ap (λ (l : List Section). y ∷ l) (drop_sections f at ys ws x g p e)

drop_answers : (f : Section → Bool) (at : ℕ) (xs : List Section) (ws : List Waiter) (x : Section) → slice_get xs at ≡ Some x → f x ≡ true → first_in (places.Section x.name) ws ≡ None → answers_from f at (remove xs at) ws ≡ answers_from f at xs ws
drop_answers f at [] ws x g p e = absurd (cc g)
drop_answers f zero (y ∷ ys) ws x g p e =
    let same : y ≡ x = cc g in
    subst (λ (z : Section). given_answers f ys ws ≡ cond (f z) (handed_to (first_in (places.Section z.name) ws) ++ given_answers f ys (after (first_in (places.Section z.name) ws) ws)) (given_answers f ys ws)) (sym same)
    (sym (ap₂ (λ (b : Bool) (o : Option Waiter). cond b (handed_to o ++ given_answers f ys (after o ws)) (given_answers f ys ws)) p e))
drop_answers f (suc at) (y ∷ ys) ws x g p e = drop_answers f at ys ws x g p e

-- after the last one
end_sections : (f : Section → Bool) (at : ℕ) (xs : List Section) (ws : List Waiter) → length xs ≤ at → sections_from f at xs ws ≡ xs
end_sections f zero [] ws le = refl
end_sections f zero (x ∷ xs) ws le = absurd (omega (arith, le))
end_sections f (suc at) [] ws le = refl
end_sections f (suc at) (x ∷ xs) ws le = ap (λ (l : List Section). x ∷ l) (end_sections f at xs ws (omega (arith, le)))

end_answers : (f : Section → Bool) (at : ℕ) (xs : List Section) (ws : List Waiter) → length xs ≤ at → answers_from f at xs ws ≡ []
end_answers f zero [] ws le = refl
end_answers f zero (x ∷ xs) ws le = absurd (omega (arith, le))
end_answers f (suc at) [] ws le = refl
end_answers f (suc at) (x ∷ xs) ws le = end_answers f at xs ws (omega (arith, le))

module _ (f : Section → Bool) (xs0 : List Section) (ws0 : List Waiter) (woken0 : List Delivery) (at : ℕ) (xs : List Section) (ws : List Waiter) (woken : List Delivery) (i : Giving f xs0 ws0 woken0 at xs ws woken) where
  pub giving_passes : (x : Section) → slice_get xs at ≡ Some x → f x ≡ false → Giving f xs0 ws0 woken0 (suc at) xs ws woken
  giving_passes x g n = record {
    sections = pass_sections f at xs ws x g n ∙ i.sections;
    answers = ap (λ (l : List Delivery). woken ++ l) (pass_answers f at xs ws x g n) ∙ i.answers;
    lines = ap (λ (l : List Delivery). lines_after l ws) (pass_answers f at xs ws x g n) ∙ i.lines;
    room = i.room;
  }

  hands : (xs' : List Section) (ws' : List Waiter) (woken' : List Delivery) (x : Section) (w : Waiter) → slice_get xs at ≡ Some x → f x ≡ true → first_in (places.Section x.name) ws ≡ Some w → xs' ≡ slice_set xs at (owned_by x w) → ws' ≡ without w.task ws → woken' ≡ woken ++ handed_to (Some w) →
      Giving f xs0 ws0 woken0 (suc at) xs' ws' woken'
  hands xs' ws' woken' x w g p e is_xs is_ws is_woken =
      let step : handed_to (Some w) ++ answers_from f (suc at) (slice_set xs at (owned_by x w)) (without w.task ws) ≡ answers_from f at xs ws = hand_answers f at xs ws x w g p e in
      let left : answers_from f (suc at) xs' ws' ≡ answers_from f (suc at) (slice_set xs at (owned_by x w)) (without w.task ws) = ap₂ (λ (l : List Section) (v : List Waiter). answers_from f (suc at) l v) is_xs is_ws in
      let short : suc (length (without w.task ws)) ≤ length ws = first_shorter (places.Section x.name) ws w e in
      let fewer : length ws' ≡ length (without w.task ws) = ap (λ (l : List Waiter). length l) is_ws in
      let one : length woken' ≡ length woken + 1 = ap (λ (l : List Delivery). length l) is_woken ∙ length-append woken (handed_to (Some w)) in
      let room : length woken + length ws ≤ MOST_LIVE_TASKS = i.room in
      record {
        sections = ap₂ (λ (l : List Section) (v : List Waiter). sections_from f (suc at) l v) is_xs is_ws ∙ hand_sections f at xs ws x w g p e ∙ i.sections;
        answers = ap₂ (λ (a b : List Delivery). a ++ b) is_woken left ∙ append_assoc woken (handed_to (Some w)) (answers_from f (suc at) (slice_set xs at (owned_by x w)) (without w.task ws)) ∙ ap (λ (l : List Delivery). woken ++ l) step ∙ i.answers;
        lines = ap₂ (λ (l : List Delivery) (v : List Waiter). lines_after l v) left is_ws ∙ ap (λ (l : List Delivery). lines_after l ws) step ∙ i.lines;
        room = omega (arith, short, fewer, one, room);
      }

  drops : (xs' : List Section) (ws' : List Waiter) (woken' : List Delivery) (x : Section) → slice_get xs at ≡ Some x → f x ≡ true → first_in (places.Section x.name) ws ≡ None → xs' ≡ remove xs at → ws' ≡ ws → woken' ≡ woken → Giving f xs0 ws0 woken0 at xs' ws' woken'
  drops xs' ws' woken' x g p e is_xs is_ws is_woken =
      subst (λ (l : List Section). Giving f xs0 ws0 woken0 at l ws' woken') (sym is_xs)
      (subst (λ (v : List Waiter). Giving f xs0 ws0 woken0 at (remove xs at) v woken') (sym is_ws)
      (subst (λ (d : List Delivery). Giving f xs0 ws0 woken0 at (remove xs at) ws d) (sym is_woken)
      (record {
        sections = drop_sections f at xs ws x g p e ∙ i.sections;
        answers = ap (λ (l : List Delivery). woken ++ l) (drop_answers f at xs ws x g p e) ∙ i.answers;
        lines = ap (λ (l : List Delivery). lines_after l ws) (drop_answers f at xs ws x g p e) ∙ i.lines;
        room = i.room;
      })))

  pub giving_stays : (xs' : List Section) (ws' : List Waiter) (woken' : List Delivery) (y : Section) → slice_get xs at ≡ Some y → f y ≡ true → GivesAt at true xs xs' ws ws' woken woken' → Giving f xs0 ws0 woken0 (suc at) xs' ws' woken'
  giving_stays xs' ws' woken' y got p h = by (first_in (places.Section h.section.name) ws) refl h.gives
    where
      same : y ≡ h.section
      same = let both : Some y ≡ Some h.section = sym got ∙ h.there in cc both

      by : (o : Option Waiter) → first_in (places.Section h.section.name) ws ≡ o → Gives h.section at o true xs xs' ws ws' woken woken' → Giving f xs0 ws0 woken0 (suc at) xs' ws' woken'
      by None e k = absurd k
      by (Some w) e k = hands xs' ws' woken' h.section w h.there (ap f (sym same) ∙ p) e k.0 k.1 k.2

  pub giving_goes : (xs' : List Section) (ws' : List Waiter) (woken' : List Delivery) (y : Section) → slice_get xs at ≡ Some y → f y ≡ true → GivesAt at false xs xs' ws ws' woken woken' → Giving f xs0 ws0 woken0 at xs' ws' woken'
  giving_goes xs' ws' woken' y got p h = by (first_in (places.Section h.section.name) ws) refl h.gives
    where
      same : y ≡ h.section
      same = let both : Some y ≡ Some h.section = sym got ∙ h.there in cc both

      by : (o : Option Waiter) → first_in (places.Section h.section.name) ws ≡ o → Gives h.section at o false xs xs' ws ws' woken woken' → Giving f xs0 ws0 woken0 at xs' ws' woken'
      by None e k = drops xs' ws' woken' h.section h.there (ap f (sym same) ∙ p) e k.0 k.1 k.2
      by (Some w) e k = absurd k

  pub end_given : length xs ≤ at → xs ≡ given_sections f xs0 ws0
  end_given le = sym (end_sections f at xs ws le) ∙ i.sections

  pub end_woken : length xs ≤ at → woken ≡ woken0 ++ given_answers f xs0 ws0
  end_woken le = sym (append_nil woken) ∙ sym (ap (λ (l : List Delivery). woken ++ l) (end_answers f at xs ws le)) ∙ i.answers
    where
      append_nil : (ds : List Delivery) → ds ++ [] ≡ ds
      append_nil [] = refl
      append_nil (d ∷ ds) = ap (λ (l : List Delivery). d ∷ l) (append_nil ds)

  pub end_lines : length xs ≤ at → ws ≡ lines_after (given_answers f xs0 ws0) ws0
  end_lines le = sym (ap (λ (l : List Delivery). lines_after l ws) (end_answers f at xs ws le)) ∙ i.lines
