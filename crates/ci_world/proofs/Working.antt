-- Work, and the list of loose ticks.
use Rattle.std.proofs.Common.{◌≡◌, ◌<◌, ◌≤◌, ◌+◌, ◌*◌, ◌++◌, ℕ, zero, suc, List, [], ◌∷◌, length, sum, sum_by, Option, Some, None, slice_get, set, refl, subst, arith, length-append}
use Rattle.std.proofs.lemmas.List.Elements.{All-cons, All-nil}
use Rattle.std.proofs.lemmas.List.Kept.{AllPairs-cons}
use Rattle.std.proofs.lemmas.List.Sums.{sum_by-append, sum_by-cons, sum_by_push}
use Rattle.std.specs.List.{All, AllByRecursion}
use Rattle.std.specs.Prelude.{AllPairs}
use Rattle.ci_base.specs.declared.entry.Entry.{Entry}
use Rattle.ci_base.specs.declared.list.Loose.{Loose}
use Rattle.ci_base.specs.declared.task.Birth.{Birth}
use Rattle.ci_base.specs.Steps.{Reaches}
use Rattle.ci_meaning.specs.Configuration.{Configuration}
use Rattle.ci_meaning.specs.Meaning.{next}
use Rattle.ci_world.specs.Lists.{at_task, set_task}
use Rattle.ci_world.specs.Serial.{ticks_with}
use Rattle.ci_world.specs.Work.{work, ticks_of, loose_from, loose_of, FitsOne, FitsLoose}
use Rattle.ci_world.specs.World.{Origin, World}

sum_set_in : (xs : List ℕ) (i k y : ℕ) → slice_get xs i ≡ Some k → sum (set xs i y) + k ≡ sum xs + y
sum_set_in [] i k y e = absurd (cc)
sum_set_in (x ∷ xs) zero k y e = let same : x ≡ k = cc e in omega (arith, same, sum_by-cons (λ (n : ℕ). n) x xs, sum_by-cons (λ (n : ℕ). n) y xs)
sum_set_in (x ∷ xs) (suc i) k y e = omega (arith, sum_set_in xs i k y e, sum_by-cons (λ (n : ℕ). n) x xs, sum_by-cons (λ (n : ℕ). n) x (set xs i y))

pub sum_set : (xs : List ℕ) (t k y : ℕ) → at_task xs t ≡ Some k → sum (set_task xs t y) + k ≡ sum xs + y
sum_set xs zero k y e = absurd (cc)
sum_set xs (suc n) k y e = sum_set_in xs n k y e

pub sum_with : (xs : List ℕ) (b : Option Birth) → sum (ticks_with xs b) ≡ sum xs
sum_with xs None = refl
sum_with xs (Some b) = omega (arith, sum_by_push (λ (n : ℕ). n) xs 0)

loose_sum : (n : ℕ) (ticks : List ℕ) → sum_by (λ (m : Loose). m.ticks) (loose_from n ticks) ≡ sum ticks
loose_sum n [] = refl
loose_sum n (zero ∷ rest) = omega (arith, loose_sum (suc n) rest, sum_by-cons (λ (k : ℕ). k) 0 rest)
loose_sum n (suc k ∷ rest) = omega (arith, loose_sum (suc n) rest, sum_by-cons (λ (j : ℕ). j) (suc k) rest, sum_by-cons (λ (m : Loose). m.ticks) (record { task = n; ticks = suc k }) (loose_from (suc n) rest))

-- the work, by the ticks of all tasks
pub work_is : (h : List Entry) (ticks : List ℕ) → work h (loose_of ticks) ≡ sum_by ticks_of h + 100 * length h + sum ticks
work_is h ticks = omega (arith, loose_sum 1 ticks)

-- one entry more
pub work_snoc : (h : List Entry) (e : Entry) (ticks ticks' : List ℕ) (k : ℕ) → sum ticks' + k ≡ sum ticks → work (h ++ e ∷ []) (loose_of ticks') + k ≡ work h (loose_of ticks) + ticks_of e + 100
work_snoc h e ticks ticks' k eq = omega (arith, eq, loose_sum 1 ticks, loose_sum 1 ticks', sum_by-append ticks_of h (e ∷ []), length-append h (e ∷ []))

-- more ticks of one task
pub work_more : (h : List Entry) (ticks : List ℕ) (t k y : ℕ) → at_task ticks t ≡ Some k → work h (loose_of (set_task ticks t y)) + k ≡ work h (loose_of ticks) + y
work_more h ticks t k y e = omega (arith, loose_sum 1 ticks, loose_sum 1 (set_task ticks t y), sum_set ticks t k y e)

-- the tasks of the list rise
all_weaker : (P Q : Loose → Type 0) (xs : List Loose) → ((m : Loose) → P m → Q m) → All P xs → All Q xs
all_weaker P Q xs f h = λ k d lt. f _ (h k d lt)

loose_above : (n : ℕ) (ticks : List ℕ) → All (λ (m : Loose). n ≤ m.task) (loose_from n ticks)
loose_above n [] = All-nil (λ (m : Loose). n ≤ m.task)
loose_above n (zero ∷ rest) = all_weaker (λ (m : Loose). suc n ≤ m.task) (λ (m : Loose). n ≤ m.task) (loose_from (suc n) rest) (λ m h. omega arith) (loose_above (suc n) rest)
loose_above n (suc k ∷ rest) =
    All-cons (λ (m : Loose). n ≤ m.task) (record { task = n; ticks = suc k }) (loose_from (suc n) rest) (omega arith)
    (all_weaker (λ (m : Loose). suc n ≤ m.task) (λ (m : Loose). n ≤ m.task) (loose_from (suc n) rest) (λ m h. omega arith) (loose_above (suc n) rest))

loose_rises : (n : ℕ) (ticks : List ℕ) → AllPairs (λ (a b : Loose). a.task < b.task) (loose_from n ticks)
loose_rises n [] = λ i j d lt within. absurd (omega (arith, within))
loose_rises n (zero ∷ rest) = loose_rises (suc n) rest
loose_rises n (suc k ∷ rest) =
    AllPairs-cons (λ (a b : Loose). a.task < b.task) (record { task = n; ticks = suc k }) (loose_from (suc n) rest)
    (all_weaker (λ (m : Loose). suc n ≤ m.task) (λ (m : Loose). n < m.task) (loose_from (suc n) rest) (λ m h. omega arith) (loose_above (suc n) rest))
    (loose_rises (suc n) rest)

-- each task has made exactly these ticks
abbrev pub HasMade : Origin → World → ℕ → ℕ → Type 0
HasMade o w t k = (c : Configuration) × (at_task w.configurations t ≡ Some c) × ((d : Configuration) × Reaches (next o.project) c k d)

fit_from : (o : Origin) (w : World) (n : ℕ) (ticks : List ℕ) → ((i k : ℕ) → slice_get ticks i ≡ Some k → HasMade o w (n + i) k) → AllByRecursion (FitsOne o w) (loose_from n ticks)
fit_from o w n [] f = tt
fit_from o w n (zero ∷ rest) f = fit_from o w (suc n) rest (λ i k e. subst (λ (t : ℕ). HasMade o w t k) (shift n i) (f (suc i) k e))
  where
    shift : (n i : ℕ) → n + suc i ≡ suc n + i
    shift n i = omega arith
fit_from o w n (suc k ∷ rest) f =
    let (c, at, (d, r)) = f 0 (suc k) refl in
    let e : n + 0 ≡ n = omega arith in (
      record { some = omega arith; from = c; from_is = subst (λ (t : ℕ). at_task w.configurations t ≡ Some c) e at; to = d; reaches = r },
      fit_from o w (suc n) rest (λ i j e. subst (λ (t : ℕ). HasMade o w t j) (shift n i) (f (suc i) j e)),
    )
  where
    shift : (n i : ℕ) → n + suc i ≡ suc n + i
    shift n i = omega arith

pub loose_fits : (o : Origin) (w : World) (ticks : List ℕ) → ((t k : ℕ) → at_task ticks t ≡ Some k → HasMade o w t k) → FitsLoose o w (loose_of ticks)
loose_fits o w ticks f = record {
  rising = loose_rises 1 ticks;
  each = fit_from o w 1 ticks (λ i k e. subst (λ (t : ℕ). HasMade o w t k) (one i) (f (suc i) k e));
}
  where
    one : (i : ℕ) → suc i ≡ 1 + i
    one i = omega arith
