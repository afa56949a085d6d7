-- The ways through each call.
use Rattle.std.proofs.Common.{◌≡◌, ◌≤◌, ◌<◌, ◌+◌, ◌-◌, ◌++◌, ◌+ℤ◌, ℕ, suc, ℤ, pos, negsuc, Bool, true, false, cond, List, [], ◌∷◌, length, Option, Some, None, refl, sym, ap, ap₂, ◌∙◌, subst, get_or, arith, add-one}
use Rattle.std.specs.Prelude.{int_lt, nat_le, nat_lt, slice_get, slice_set}
use Rattle.std.specs.Ordering.{int_eq}
use Rattle.std.proofs.lemmas.Bool.Decides.{Decides-int_eq}
use Rattle.std.proofs.lemmas.Bool.{leb-false, leb-true, ltb-true, ltb-false}
use Rattle.std.proofs.lemmas.Option.{slice_get-get_or}
use Rattle.ci_base.specs.declared.bounds.TheConstants.{MOST_COUNT, MOST_OBJECTS}
use Rattle.ci_base.specs.declared.place.Place.{Place}
use Rattle.ci_base.specs.declared.place.Place.TheVariants as places
use Rattle.ci_base.specs.declared.reply.Answer.{Answer}
use Rattle.ci_base.specs.declared.reply.Reply.{Reply}
use Rattle.ci_base.specs.declared.reply.Reply.TheVariants as replies
use Rattle.ci_base.specs.declared.task.Delivery.{Delivery}
use Rattle.ci_shared.proofs.Opening.{is_made, numbers_end}
use Rattle.ci_shared.specs.declared.object.Semaphore.{Semaphore}
use Rattle.ci_shared.specs.declared.waiter.Waiter.{Waiter}
use Rattle.ci_shared.specs.Roster.{first_in}
use Rattle.ci_shared.specs.Rows.{Row, Attempt, Follows, FollowsAttempt, FollowsNaming, coded, given, last_number, number, plain, refused, replying, stands}
use Rattle.ci_shared.specs.Sections.{after}
use Rattle.ci_shared.specs.Semaphores.{limit_in, raise, sem_open, sem_signal, sem_wait, semaphore_named, signal_at, wait_at, with_count}
use Rattle.ci_shared.specs.Words.{is_empty, is_mode}
use Rattle.ci_lines.specs.Found.{task_of}
use Rattle.ci_sems.specs.Found.{Stands}

append_nil : (xs : List Delivery) → xs ++ [] ≡ xs
append_nil [] = refl
append_nil (x ∷ xs) = ap (λ (l : List Delivery). x ∷ l) (append_nil xs)

none_left : (p : Place) (ws : List Waiter) (r : Option ℕ) → r ≡ task_of (first_in p ws) → r ≡ None → first_in p ws ≡ None
none_left p ws r is none = by (first_in p ws) (sym is ∙ none)
  where
    by : (o : Option Waiter) → task_of o ≡ None → o ≡ None
    by None e = refl
    by (Some w) e = absurd (cc e)

pub stands_in : (h z : ℤ) (i : ℕ) (found inside xs : List Semaphore) → z ≡ h → found ≡ inside → inside ≡ xs → Stands z found i → Stands h xs i
stands_in h z i found inside xs e f g s = subst (λ (k : ℤ). Stands k xs i) e (subst (λ (l : List Semaphore). Stands z l i) (f ∙ g) s)

some_one : (x y : Semaphore) (o : Option Semaphore) → o ≡ Some x → o ≡ Some y → x ≡ y
some_one x y o e f = cc

-- what is read there is the semaphore
pub read_there : (h : ℤ) (i : ℕ) (xs inside : List Semaphore) (r : Semaphore) (s : Stands h xs i) → inside ≡ xs → r ≡ get_or inside i r → s.semaphore ≡ r
read_there h i xs inside r s v is =
    some_one s.semaphore (get_or xs i r) (slice_get xs i) s.at (slice_get-get_or xs i r s.within) ∙ sym (is ∙ ap (λ (l : List Semaphore). get_or l i r) v)

-- what is written there
pub written_there : (h : ℤ) (i n : ℕ) (xs inside : List Semaphore) (m : Semaphore) → Stands h xs i → inside ≡ xs → m ≡ get_or inside i m → slice_set inside i (record m { count = n }) ≡ with_count h n xs
written_there h i n xs inside m s v im =
    ap (λ (l : List Semaphore). slice_set l i (record m { count = n })) v
    ∙ ap (λ (z : Semaphore). slice_set xs i (record z { count = n })) (sym (read_there h i xs inside m s v im))
    ∙ sym (s.counts n)

-- a signal where nobody waits
module _ (h : ℤ) (i : ℕ) (xs inside : List Semaphore) (ws ws' : List Waiter) (woken : List Delivery) (r : Semaphore) (p : Place) (o : Option ℕ)
    (s : Stands h xs i) (v : inside ≡ xs) (is : r ≡ get_or inside i r) (there : p ≡ places.Semaphore h) (e : o ≡ task_of (first_in p ws)) (none : o ≡ None) (rest : ws' ≡ after (first_in p ws) ws) where
  nobody : first_in (places.Semaphore h) ws ≡ None
  nobody = subst (λ (q : Place). first_in q ws ≡ None) there (none_left p ws o e none)

  stay : ws' ≡ ws
  stay = rest ∙ ap (λ (z : Option Waiter). after z ws) (none_left p ws o e none)

  row_is : sem_signal h xs ws ≡ raise h xs r None
  row_is =
      ap (λ (z : Option Semaphore). signal_at h xs ws z) (s.is ∙ ap (λ (z : Semaphore). Some z) (read_there h i xs inside r s v is))
      ∙ ap (λ (z : Option Waiter). raise h xs r z) nobody

  pub signal_full : (a : Answer) → a ≡ plain (coded 11) → MOST_COUNT ≤ r.count → Follows (sem_signal h xs ws) a xs ws ws' woken woken
  signal_full a is_a big = subst (λ (row : Row (List Semaphore)). Follows row a xs ws ws' woken woken) (sym row_is) (by (nat_le MOST_COUNT r.count) refl)
    where
      by : (b : Bool) → nat_le MOST_COUNT r.count ≡ b → Follows (cond b (replying xs (coded 11)) (replying (with_count h (suc r.count) xs) (coded 0))) a xs ws ws' woken woken
      by true t = record { answer_is = is_a; objects_are = refl; lines_are = stay; woken_are = sym (append_nil woken) }
      by false t = let small : r.count < MOST_COUNT = leb-false MOST_COUNT r.count t in absurd (omega (arith, small, big))

  pub signal_more : (a : Answer) (m : Semaphore) → a ≡ plain (coded 0) → m ≡ get_or inside i m → r.count < MOST_COUNT → Follows (sem_signal h xs ws) a (slice_set inside i (record m { count = r.count + 1 })) ws ws' woken woken
  signal_more a m is_a im small = subst (λ (row : Row (List Semaphore)). Follows row a (slice_set inside i (record m { count = r.count + 1 })) ws ws' woken woken) (sym row_is) (by (nat_le MOST_COUNT r.count) refl)
    where
      more : slice_set inside i (record m { count = r.count + 1 }) ≡ with_count h (suc r.count) xs
      more = written_there h i (r.count + 1) xs inside m s v im ∙ ap (λ (n : ℕ). with_count h n xs) (add-one r.count)

      by : (b : Bool) → nat_le MOST_COUNT r.count ≡ b → Follows (cond b (replying xs (coded 11)) (replying (with_count h (suc r.count) xs) (coded 0))) a (slice_set inside i (record m { count = r.count + 1 })) ws ws' woken woken
      by true t = absurd (omega (arith, leb-true MOST_COUNT r.count t, small))
      by false t = record { answer_is = is_a; objects_are = more; lines_are = stay; woken_are = sym (append_nil woken) }

-- a wait of a limit that is no fault
module _ (h n : ℤ) (now t i : ℕ) (xs inside : List Semaphore) (ws : List Waiter) (r : Semaphore)
    (s : Stands h xs i) (v : inside ≡ xs) (is : r ≡ get_or inside i r) (allowed : int_lt n (negsuc 0) ≡ false) where
  rest_of : Attempt (List Semaphore)
  rest_of =
      cond (nat_lt 0 r.count) (given (with_count h (r.count - 1) xs) (plain (coded 0)))
      (cond (int_eq n (pos 0)) (given xs (plain (coded 2))) (stands xs (places.Semaphore h) (limit_in now n)))

  attempt_is : sem_wait h n now xs ≡ rest_of
  unfolding rest_of
  attempt_is =
      ap (λ (z : Option Semaphore). wait_at h n now xs z) (s.is ∙ ap (λ (z : Semaphore). Some z) (read_there h i xs inside r s v is))
      ∙ ap (λ (b : Bool). cond b (given xs (plain (coded 10))) rest_of) allowed

  pub wait_takes : (a : Reply) (m : Semaphore) → a ≡ replies.Answer (plain (coded 0)) → m ≡ get_or inside i m → 0 < r.count → FollowsAttempt (sem_wait h n now xs) t a (slice_set inside i (record m { count = r.count - 1 })) ws ws
  unfolding rest_of
  wait_takes a m is_a im some = subst (λ (row : Attempt (List Semaphore)). FollowsAttempt row t a (slice_set inside i (record m { count = r.count - 1 })) ws ws) (sym attempt_is) (by (nat_lt 0 r.count) refl)
    where
      by : (b : Bool) → nat_lt 0 r.count ≡ b → FollowsAttempt (cond b (given (with_count h (r.count - 1) xs) (plain (coded 0))) (cond (int_eq n (pos 0)) (given xs (plain (coded 2))) (stands xs (places.Semaphore h) (limit_in now n)))) t a (slice_set inside i (record m { count = r.count - 1 })) ws ws
      by true e = record { reply_is = is_a; objects_are = written_there h i (r.count - 1) xs inside m s v im; lines_are = refl }
      by false e = let no : r.count ≤ 0 = ltb-false 0 r.count e in absurd (omega (arith, no, some))

  pub wait_none : (a : Reply) → a ≡ replies.Answer (plain (coded 2)) → r.count ≤ 0 → int_eq n (pos 0) ≡ true → FollowsAttempt (sem_wait h n now xs) t a xs ws ws
  unfolding rest_of
  wait_none a is_a none at_once = subst (λ (row : Attempt (List Semaphore)). FollowsAttempt row t a xs ws ws) (sym attempt_is) (by (nat_lt 0 r.count) refl (int_eq n (pos 0)) at_once)
    where
      by : (b : Bool) → nat_lt 0 r.count ≡ b → (z : Bool) → z ≡ true → FollowsAttempt (cond b (given (with_count h (r.count - 1) xs) (plain (coded 0))) (cond z (given xs (plain (coded 2))) (stands xs (places.Semaphore h) (limit_in now n)))) t a xs ws ws
      by true e z f = let some : 0 < r.count = ltb-true 0 r.count e in absurd (omega (arith, none, some))
      by false e true f = record { reply_is = is_a; objects_are = refl; lines_are = refl }
      by false e false f = absurd (cc f)

  pub wait_joins : (ws' : List Waiter) (p : Place) (due : Option ℕ) → r.count ≤ 0 → int_eq n (pos 0) ≡ false → p ≡ places.Semaphore h → due ≡ limit_in now n → ws' ≡ ws ++ record { task = t; place = p; limit = due } ∷ [] → FollowsAttempt (sem_wait h n now xs) t replies.Waits xs ws ws'
  unfolding rest_of
  wait_joins ws' p due none later there until joined = subst (λ (row : Attempt (List Semaphore)). FollowsAttempt row t replies.Waits xs ws ws') (sym attempt_is) (by (nat_lt 0 r.count) refl (int_eq n (pos 0)) later)
    where
      by : (b : Bool) → nat_lt 0 r.count ≡ b → (z : Bool) → z ≡ false → FollowsAttempt (cond b (given (with_count h (r.count - 1) xs) (plain (coded 0))) (cond z (given xs (plain (coded 2))) (stands xs (places.Semaphore h) (limit_in now n)))) t replies.Waits xs ws ws'
      by true e z f = let some : 0 < r.count = ltb-true 0 r.count e in absurd (omega (arith, none, some))
      by false e true f = absurd (cc f)
      by false e false f = record { reply_is = refl; objects_are = refl; lines_are = joined ∙ ap₂ (λ (q : Place) (d : Option ℕ). ws ++ record { task = t; place = q; limit = d } ∷ []) there until }

pub is_apart : (x y : ℤ) → int_eq x y ≡ false → x ≡ y → ⊥
is_apart x y e same = let bad : true ≡ false = sym ((Decides-int_eq x y).1 same) ∙ e in cc bad

pub int_apart : (x y : ℤ) → (x ≡ y → ⊥) → int_eq x y ≡ false
int_apart x y n = by (int_eq x y) refl
  where
    by : (b : Bool) → int_eq x y ≡ b → b ≡ false
    by true e = absurd (n ((Decides-int_eq x y).0 e))
    by false e = refl

room_in : (n : ℕ) → n < MOST_OBJECTS → nat_le MOST_OBJECTS n ≡ false
room_in n few = by (nat_le MOST_OBJECTS n) refl
  where
    by : (b : Bool) → nat_le MOST_OBJECTS n ≡ b → b ≡ false
    by true e = absurd (omega (arith, leb-true MOST_OBJECTS n e, few))
    by false e = refl

-- the last ways out of an opening
module _ (text : List ℕ) (mode next : ℤ) (xs : List Semaphore) (full : is_empty text ≡ false) (good : is_mode mode ≡ true) (unknown : semaphore_named text xs ≡ None) (making : int_eq mode (pos 0) ≡ false) (few : length xs < MOST_OBJECTS) where
  abbrev grown : List Semaphore
  grown = xs ++ record { number = next; name = text; count = 1 } ∷ []

  pub name_makes : (next' : ℤ) (new : List Semaphore) (a : Answer) → int_eq next last_number ≡ false → a ≡ plain (number next) → new ≡ grown → next' ≡ next +ℤ pos 1 → FollowsNaming (sem_open text mode next xs) a new next'
  name_makes next' new a more is_a is_new is_next =
      is_made (List Semaphore) (is_empty text) (is_mode mode) mode next (semaphore_named text xs) (length xs) xs grown full good unknown making a new next' (room_in (length xs) few) more is_a is_new is_next

  pub name_ends : (a : Answer) → int_eq next last_number ≡ true → a ≡ plain (refused 11) → FollowsNaming (sem_open text mode next xs) a xs next
  name_ends a more is_a =
      numbers_end (List Semaphore) (is_empty text) (is_mode mode) mode next (semaphore_named text xs) (length xs) xs grown full good unknown making a (room_in (length xs) few) more is_a
