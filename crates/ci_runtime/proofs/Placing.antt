-- One seat changes.
use Rattle.std.proofs.Common.{◌≡◌, ◌≢◌, ◌⊎◌, ◌<◌, ◌≤◌, ◌+◌, ◌-◌, ◌++◌, ℕ, zero, suc, Bool, true, false, cond, List, [], ◌∷◌, length, count_by, Option, Some, None, get_or, set, slice_get, take, refl, sym, ap, ◌∙◌, subst, arith}
use Rattle.std.proofs.lemmas.List.Sums.{sum_by-cons}
use Rattle.ci_base.specs.declared.reply.Answer.{Answer}
use Rattle.ci_base.specs.declared.task.Delivery.{Delivery}
use Rattle.ci_base.specs.declared.task.Trail.{Trail}
use Rattle.ci_code.specs.declared.raw.RawParts.{RawParts}
use Rattle.ci_runtime.specs.Seats.{Runner, Seat, is_taken, Changed, RanAt, ResumedAt, FreedAt, Delivered, VictimAt}
use Rattle.ci_shared.specs.Roster.{Task}
use Rattle.ci_task.specs.declared.machine.Pause.{Pause}
use Rattle.ci_task.specs.Moved.{moved, Paused, Resumes}
use Rattle.ci_world.proofs.Lists.{at_set, at_other, at_within, len_set, standing_within}
use Rattle.ci_world.specs.Lists.{at_task, set_task}

set_is : (xs : List Seat) (t : ℕ) (x : Seat) → 1 ≤ t → set xs (t - 1) x ≡ set_task xs t x
set_is xs zero x le = absurd (omega arith)
set_is xs (suc n) x le = let e : suc n - 1 ≡ n = omega arith in ap (λ (k : ℕ). set xs k x) e

got_in : (xs : List Seat) (i : ℕ) (d : Seat) → i < length xs → slice_get xs i ≡ Some (get_or xs i d)
got_in [] i d lt = absurd (omega arith)
got_in (x ∷ xs) zero d lt = refl
got_in (x ∷ xs) (suc i) d lt = got_in xs i d (omega arith)

pub at_is : (xs : List Seat) (t : ℕ) (d : Seat) → 1 ≤ t → t ≤ length xs → at_task xs t ≡ Some (get_or xs (t - 1) d)
at_is xs zero d le lt = absurd (omega arith)
at_is xs (suc n) d le lt = let e : suc n - 1 ≡ n = omega arith in got_in xs n d (omega arith) ∙ ap (λ (k : ℕ). Some (get_or xs k d)) (sym e)

-- a count where the seat was taken, or is free now
count_in : (xs : List Seat) (i : ℕ) (d x : Seat) → cond (is_taken x) 1 0 ≤ cond (is_taken (get_or xs i d)) 1 0 → count_by is_taken (set xs i x) ≤ count_by is_taken xs
count_in [] i d x le = omega arith
count_in (y ∷ xs) zero d x le = omega (arith, le, sum_by-cons (λ (z : Seat). cond (is_taken z) 1 0) y xs, sum_by-cons (λ (z : Seat). cond (is_taken z) 1 0) x xs)
count_in (y ∷ xs) (suc i) d x le = omega (arith, count_in xs i d x le, sum_by-cons (λ (z : Seat). cond (is_taken z) 1 0) y xs, sum_by-cons (λ (z : Seat). cond (is_taken z) 1 0) y (set xs i x))

changed : (xs : List Seat) (t : ℕ) (d x : Seat) (new : List Seat) → 1 ≤ t → cond (is_taken x) 1 0 ≤ cond (is_taken (get_or xs (t - 1) d)) 1 0 → new ≡ set xs (t - 1) x → Changed t xs new
changed xs t d x new le few is =
    let is' = is ∙ set_is xs t x le in
    record {
      long = ap (λ (l : List Seat). length l) is' ∙ len_set xs t x;
      others = λ u n. ap (λ (l : List Seat). at_task l u) is' ∙ at_other xs t u x n;
      few = subst (λ (l : List Seat). count_by is_taken l ≤ count_by is_taken xs) (sym is) (count_in xs (t - 1) d x few);
    }

same_seat : (x y : Seat) (o : Option Seat) → o ≡ Some x → o ≡ Some y → x ≡ y
same_seat x y o e f = cc

some_machine : (m n : Runner) → Some m ≡ Some n → m ≡ n
some_machine m n e = cc

none_some : {A : Type 0} (m : Runner) → None ≡ Some m → A
none_some m e = absurd (cc)

unchanged : (xs : List Seat) (t : ℕ) → Changed t xs xs
unchanged xs t = record { long = refl; others = λ u n. refl; few = omega arith }

pub freed_one : (xs new : List Seat) (t : ℕ) (d x : Seat) → 1 ≤ t → t ≤ length xs → x ≡ None → new ≡ set xs (t - 1) x → FreedAt t xs new
freed_one xs new t d x one le none is =
    let is' : new ≡ set xs (t - 1) None = is ∙ ap (λ (z : Seat). set xs (t - 1) z) none in
    record {
      changed = changed xs t d None new one (omega arith) is';
      gone = λ seat at. ap (λ (l : List Seat). at_task l t) (is' ∙ set_is xs t None one) ∙ at_set xs t seat None at;
    }

pub freed_out : (xs : List Seat) (t : ℕ) → (1 ≤ t → t ≤ length xs → ⊥) → FreedAt t xs xs
freed_out xs t out = record { changed = unchanged xs t; gone = λ seat at. let w = at_within xs t seat at in absurd (out w.0 w.1) }

pub resumed_some : (xs new : List Seat) (t : ℕ) (a : Answer) (d : Seat) (m m' : Runner) → 1 ≤ t → t ≤ length xs → get_or xs (t - 1) d ≡ Some m → Resumes a m m' → new ≡ set xs (t - 1) (Some m') → ResumedAt t a xs new
resumed_some xs new t a d m m' one le was res is = record {
  changed = changed xs t d (Some m') new one (subst (λ (z : Seat). 1 ≤ cond (is_taken z) 1 0) (sym was) (omega arith)) is;
  there = λ n at.
      let same : m ≡ n = some_machine m n (sym was ∙ same_seat _ (Some n) _ (at_is xs t d one le) at) in
      (m', ap (λ (l : List Seat). at_task l t) (is ∙ set_is xs t (Some m') one) ∙ at_set xs t (Some n) (Some m') at, subst (λ (z : Runner). Resumes a z m') same res);
}

pub resumed_none : (xs new : List Seat) (t : ℕ) (a : Answer) (d x : Seat) → 1 ≤ t → t ≤ length xs → get_or xs (t - 1) d ≡ None → x ≡ None → new ≡ set xs (t - 1) x → ResumedAt t a xs new
resumed_none xs new t a d x one le was none is = record {
  changed = changed xs t d x new one (subst (λ (z : Seat). cond (is_taken z) 1 0 ≤ cond (is_taken (get_or xs (t - 1) d)) 1 0) (sym none) (omega arith)) is;
  there = λ n at. none_some n (sym was ∙ same_seat _ (Some n) _ (at_is xs t d one le) at);
}

pub resumed_out : (xs : List Seat) (t : ℕ) (a : Answer) → (1 ≤ t → t ≤ length xs → ⊥) → ResumedAt t a xs xs
resumed_out xs t a out = record { changed = unchanged xs t; there = λ m at. let w = at_within xs t (Some m) at in absurd (out w.0 w.1) }

pub ran_some : (code : RawParts) (ticks : ℕ) (pause : Pause) (xs new : List Seat) (t : ℕ) (d : Seat) (m m' : Runner) → 1 ≤ t → get_or xs (t - 1) d ≡ Some m → new ≡ set xs (t - 1) (Some m') → ((x : Trail) (k : ℕ) → moved code x k m → Paused code x k ticks pause m') → RanAt code t ticks pause xs new
ran_some code ticks pause xs new t d m m' one was is f = record {
  changed = changed xs t d (Some m') new one (subst (λ (z : Seat). 1 ≤ cond (is_taken z) 1 0) (sym was) (omega arith)) is;
  there = λ n at.
      let w = at_within xs t (Some n) at in
      let same : m ≡ n = some_machine m n (sym was ∙ same_seat _ (Some n) _ (at_is xs t d w.0 w.1) at) in
      (m', ap (λ (l : List Seat). at_task l t) (is ∙ set_is xs t (Some m') one) ∙ at_set xs t (Some n) (Some m') at, subst (λ (z : Runner). (x : Trail) (k : ℕ) → moved code x k z → Paused code x k ticks pause m') same f);
}

pub no_machine : {A : Type 0} (xs : List Seat) (t : ℕ) (d : Seat) → 1 ≤ t → (m : Runner) → at_task xs t ≡ Some (Some m) → get_or xs (t - 1) d ≡ None → A
no_machine xs t d one m at was = let w = at_within xs t (Some m) at in none_some m (sym was ∙ same_seat _ (Some m) _ (at_is xs t d w.0 w.1) at)

-- one delivery more
delivered_snoc : (ds : List Delivery) (d : Delivery) (old mid new : List Seat) → Delivered ds old mid → ResumedAt d.task d.answer mid new → Delivered (ds ++ d ∷ []) old new
delivered_snoc [] d old mid new same one = let P : List Seat → Type 0 = λ x. ResumedAt d.task d.answer x new in (new, subst P same one, refl)
delivered_snoc (e ∷ ds) d old mid new (first, r, more) one = (first, r, delivered_snoc ds d first mid new more one)

taken_more : (ds : List Delivery) (i : ℕ) (d : Delivery) → i < length ds → take (i + 1) ds ≡ take i ds ++ get_or ds i d ∷ []
taken_more [] i d lt = absurd (omega arith)
taken_more (x ∷ ds) zero d lt = refl
taken_more (x ∷ ds) (suc i) d lt = let e : suc i + 1 ≡ suc (i + 1) = omega arith in ap (λ (k : ℕ). take k (x ∷ ds)) e ∙ ap (λ (l : List Delivery). x ∷ l) (taken_more ds i d (omega arith))

pub delivered_more : (ds : List Delivery) (i : ℕ) (d : Delivery) (old mid new : List Seat) → i < length ds → Delivered (take i ds) old mid → ResumedAt (get_or ds i d).task (get_or ds i d).answer mid new → Delivered (take (i + 1) ds) old new
delivered_more ds i d old mid new lt done r = subst (λ (l : List Delivery). Delivered l old new) (sym (taken_more ds i d lt)) (delivered_snoc (take i ds) (get_or ds i d) old mid new done r)

-- the task of this number wasn't started
pub victim_out : (tasks : List Task) (xs : List Seat) (t : ℕ) → (1 ≤ t → t ≤ length tasks → ⊥) → VictimAt t tasks xs xs
victim_out tasks xs t out = record { changed = unchanged xs t; told = λ y seat yat at. let w = standing_within tasks t y yat in absurd (out w.0 w.1) }
