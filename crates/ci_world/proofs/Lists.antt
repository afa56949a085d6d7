-- Lists by the numbers of tasks.
use Rattle.std.proofs.Common.{◌≡◌, ◌≢◌, ◌⊎◌, ◌<◌, ◌≤◌, ℕ, zero, suc, List, [], ◌∷◌, ◌++◌, length, Option, Some, slice_get, set, refl, ap, ◌∙◌, arith, inl, inr}
use Rattle.ci_shared.specs.Roster.{Standing, Task, standing_from, standing_in}
use Rattle.ci_world.specs.Lists.{at_task, set_task}

module _ {A : Type 0} where
  get_set : (xs : List A) (i : ℕ) (x y : A) → slice_get xs i ≡ Some x → slice_get (set xs i y) i ≡ Some y
  get_set [] i x y e = absurd (cc)
  get_set (z ∷ xs) zero x y e = refl
  get_set (z ∷ xs) (suc i) x y e = get_set xs i x y e

  get_other : (xs : List A) (i j : ℕ) (y : A) → j ≢ i → slice_get (set xs i y) j ≡ slice_get xs j
  get_other [] i j y n = refl
  get_other (z ∷ xs) zero zero y n = absurd (n refl)
  get_other (z ∷ xs) zero (suc j) y n = refl
  get_other (z ∷ xs) (suc i) zero y n = refl
  get_other (z ∷ xs) (suc i) (suc j) y n = get_other xs i j y (λ e. n (ap suc e))

  get_push : (xs : List A) (j : ℕ) (x y : A) → slice_get xs j ≡ Some x → slice_get (xs ++ y ∷ []) j ≡ Some x
  get_push [] j x y e = absurd (cc)
  get_push (z ∷ xs) zero x y e = e
  get_push (z ∷ xs) (suc j) x y e = get_push xs j x y e

  get_last : (xs : List A) (y : A) → slice_get (xs ++ y ∷ []) (length xs) ≡ Some y
  get_last [] y = refl
  get_last (z ∷ xs) y = get_last xs y

  -- what stands in the longer list stood in the shorter one, or is the last
  got_push : (xs : List A) (j : ℕ) (x y : A) → slice_get (xs ++ y ∷ []) j ≡ Some x → (slice_get xs j ≡ Some x) ⊎ ((j ≡ length xs) × (y ≡ x))
  got_push [] zero x y e = inr (refl, cc)
  got_push [] (suc j) x y e = absurd (cc)
  got_push (z ∷ xs) zero x y e = inl e
  got_push (z ∷ xs) (suc j) x y e = elim (got_push xs j x y e) [ inl h ↦ inl h | inr h ↦ inr (ap suc h.0, h.1) ]

  got_below : (xs : List A) (j : ℕ) (x : A) → slice_get xs j ≡ Some x → j < length xs
  got_below [] j x e = absurd (cc)
  got_below (z ∷ xs) zero x e = omega arith
  got_below (z ∷ xs) (suc j) x e = let h = got_below xs j x e in omega arith

  there : (xs : List A) (j : ℕ) → j < length xs → (x : A) × (slice_get xs j ≡ Some x)
  there [] j lt = absurd (omega arith)
  there (z ∷ xs) zero lt = (z, refl)
  there (z ∷ xs) (suc j) lt = there xs j (omega arith)

  pub at_set : (xs : List A) (t : ℕ) (x y : A) → at_task xs t ≡ Some x → at_task (set_task xs t y) t ≡ Some y
  at_set xs zero x y e = absurd (cc)
  at_set xs (suc n) x y e = get_set xs n x y e

  pub at_other : (xs : List A) (u t : ℕ) (y : A) → t ≢ u → at_task (set_task xs u y) t ≡ at_task xs t
  at_other xs zero t y n = refl
  at_other xs (suc u) zero y n = refl
  at_other xs (suc u) (suc t) y n = get_other xs u t y (λ e. n (ap suc e))

  pub at_push : (xs : List A) (t : ℕ) (x y : A) → at_task xs t ≡ Some x → at_task (xs ++ y ∷ []) t ≡ Some x
  at_push xs zero x y e = absurd (cc)
  at_push xs (suc n) x y e = get_push xs n x y e

  pub at_last : (xs : List A) (y : A) → at_task (xs ++ y ∷ []) (suc (length xs)) ≡ Some y
  at_last xs y = get_last xs y

  pub at_pushed : (xs : List A) (t : ℕ) (x y : A) → at_task (xs ++ y ∷ []) t ≡ Some x → (at_task xs t ≡ Some x) ⊎ ((t ≡ suc (length xs)) × (y ≡ x))
  at_pushed xs zero x y e = absurd (cc)
  at_pushed xs (suc n) x y e = elim (got_push xs n x y e) [ inl h ↦ inl h | inr h ↦ inr (ap suc h.0, h.1) ]

  pub at_within : (xs : List A) (t : ℕ) (x : A) → at_task xs t ≡ Some x → (1 ≤ t) × (t ≤ length xs)
  at_within xs zero x e = absurd (cc)
  at_within xs (suc n) x e = let h = got_below xs n x e in (omega arith, omega arith)

  pub at_there : (xs : List A) (t : ℕ) → 1 ≤ t → t ≤ length xs → (x : A) × (at_task xs t ≡ Some x)
  at_there xs zero l h = absurd (omega arith)
  at_there xs (suc n) l h = there xs n (omega arith)

  len_set_in : (xs : List A) (i : ℕ) (y : A) → length (set xs i y) ≡ length xs
  len_set_in [] i y = refl
  len_set_in (z ∷ xs) zero y = refl
  len_set_in (z ∷ xs) (suc i) y = ap suc (len_set_in xs i y)

  pub len_set : (xs : List A) (t : ℕ) (y : A) → length (set_task xs t y) ≡ length xs
  len_set xs zero y = refl
  len_set xs (suc n) y = len_set_in xs n y

  -- what stands at one place is one
  pub one_at : (x y : A) (o : Option A) → o ≡ Some x → o ≡ Some y → x ≡ y
  one_at x y o e f = cc

  pub none_at : (t : ℕ) (x : A) → at_task [] t ≡ Some x → ⊥
  none_at zero x e = cc
  none_at (suc n) x e = cc

-- how a task stands, and the task
standing_got : (xs : List Task) (n : ℕ) (x : Task) → slice_get xs n ≡ Some x → standing_from xs n ≡ Some x.standing
standing_got [] n x e = absurd (cc)
standing_got (y ∷ xs) zero x e = let same : y ≡ x = cc in ap (λ (z : Task). Some z.standing) same
standing_got (y ∷ xs) (suc n) x e = standing_got xs n x e

pub standing_at_task : (xs : List Task) (t : ℕ) (x : Task) → at_task xs t ≡ Some x → standing_in xs t ≡ Some x.standing
standing_at_task xs zero x e = absurd (cc)
standing_at_task xs (suc n) x e = standing_got xs n x e

got_standing : (xs : List Task) (n : ℕ) (y : Standing) → standing_from xs n ≡ Some y → (x : Task) × (slice_get xs n ≡ Some x) × (x.standing ≡ y)
got_standing [] n y e = absurd (cc)
got_standing (x ∷ xs) zero y e = (x, refl, cc)
got_standing (x ∷ xs) (suc n) y e = got_standing xs n y e

pub task_standing : (xs : List Task) (t : ℕ) (y : Standing) → standing_in xs t ≡ Some y → (x : Task) × (at_task xs t ≡ Some x) × (x.standing ≡ y)
task_standing xs zero y e = absurd (cc)
task_standing xs (suc n) y e = got_standing xs n y e

pub standing_within : (xs : List Task) (t : ℕ) (y : Standing) → standing_in xs t ≡ Some y → (1 ≤ t) × (t ≤ length xs)
standing_within xs t y e = let (x, at, is) = task_standing xs t y e in at_within xs t x at

pub standing_there : (xs : List Task) (t : ℕ) → 1 ≤ t → t ≤ length xs → (y : Standing) × (standing_in xs t ≡ Some y)
standing_there xs t l h = let (x, at) = at_there xs t l h in (x.standing, standing_at_task xs t x at)

pub standing_pushed : (xs : List Task) (t : ℕ) (y : Standing) (x : Task) → standing_in (xs ++ x ∷ []) t ≡ Some y → (standing_in xs t ≡ Some y) ⊎ ((t ≡ suc (length xs)) × (x.standing ≡ y))
standing_pushed xs t y x e = let (z, at, is) = task_standing (xs ++ x ∷ []) t y e in by z is (at_pushed xs t z x at)
  where
    by : (z : Task) → z.standing ≡ y → (at_task xs t ≡ Some z) ⊎ ((t ≡ suc (length xs)) × (x ≡ z)) → (standing_in xs t ≡ Some y) ⊎ ((t ≡ suc (length xs)) × (x.standing ≡ y))
    by z is (inl at) = inl (standing_at_task xs t z at ∙ ap (λ (s : Standing). Some s) is)
    by z is (inr (last, same)) = inr (last, ap (λ (w : Task). w.standing) same ∙ is)
