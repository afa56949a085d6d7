-- Which tasks can make a step, by how they stand.
use Rattle.std.proofs.Common.{◌≡◌, ◌+◌, ℕ, suc, Bool, true, false, cond, List, [], ◌∷◌, Option, None, Some, slice_get, refl, sym, ap, ◌∙◌, subst, arith}
use Rattle.std.specs.Option.{option_map_or}
use Rattle.std.specs.Prelude.{◌&&◌, not, nat_lt}
use Rattle.ci_shared.specs.Roster.{Standing, Ready, Waiting, Ended, Killed, Task, standing_at, is_live}
use Rattle.ci_shared.specs.State.{Shared}
use Rattle.ci_world.proofs.Lists.{standing_at_task, task_standing}
use Rattle.ci_world.specs.Serial.{Progress, chosen, first_above, is_suspended, or_else}
use Rattle.ci_world.specs.Tasks.{is_ready, can_step, CanStep, IsDead}

ready_of : (y : Standing) (b : Bool) → (is_ready y && b) ≡ true → y ≡ Ready
ready_of Ready b e = refl
ready_of (Waiting p) b e = absurd (cc)
ready_of (Ended code) b e = absurd (cc)
ready_of Killed b e = absurd (cc)

pub can_ready : (s : Shared) (t : ℕ) → CanStep s t → standing_at s.roster t ≡ Some Ready
can_ready s t (x, at, can) = standing_at_task s.roster.tasks t x at ∙ ap (λ (y : Standing). Some y) (ready_of x.standing (not x.suspended) can)

-- a ready task that isn't suspended
ready_step : (y : Standing) (b : Bool) → y ≡ Ready → b ≡ false → (is_ready y && not b) ≡ true
ready_step y b e f = ap (λ (z : Standing). is_ready z && not b) e ∙ ap not f

pub ready_can : (s : Shared) (t : ℕ) → standing_at s.roster t ≡ Some Ready → is_suspended s t ≡ false → CanStep s t
ready_can s t ready awake =
    let (x, at, is) = task_standing s.roster.tasks t Ready ready in
    let mark : x.suspended ≡ false = ap (λ (o : Option Task). option_map_or (λ (z : Task). z.suspended) o false) (sym at) ∙ awake in
    (x, at, ready_step x.standing x.suspended is mark)

-- a dead task, by how it stands
pub dead_standing : (s : Shared) (t : ℕ) → IsDead s t → (y : Standing) × (standing_at s.roster t ≡ Some y) × (is_live y ≡ false)
dead_standing s t (x, at, dead) = (x.standing, standing_at_task s.roster.tasks t x at, by (is_live x.standing) dead)
  where
    by : (b : Bool) → not b ≡ true → b ≡ false
    by true e = sym e
    by false e = refl

pub standing_dead : (s : Shared) (t : ℕ) (y : Standing) → standing_at s.roster t ≡ Some y → is_live y ≡ false → IsDead s t
standing_dead s t y is dead =
    let (x, at, e) = task_standing s.roster.tasks t y is in
    (x, at, ap (λ (z : Standing). not (is_live z)) e ∙ ap not dead)

-- the task that is chosen can make a step
found_can : (last n : ℕ) (xs : List Task) (t : ℕ) → first_above last n xs ≡ Some t → (i : ℕ) × (t ≡ n + i) × ((x : Task) × (slice_get xs i ≡ Some x) × (can_step x ≡ true))
found_can last n [] t e = absurd (cc)
found_can last n (x ∷ xs) t e = by (can_step x) refl (nat_lt last n) e (found_can last (suc n) xs t)
  where
    Found : Type 0
    Found = (i : ℕ) × (t ≡ n + i) × ((y : Task) × (slice_get (x ∷ xs) i ≡ Some y) × (can_step y ≡ true))

    later : (i : ℕ) × (t ≡ suc n + i) × ((y : Task) × (slice_get xs i ≡ Some y) × (can_step y ≡ true)) → Found
    later (i, e, found) = (suc i, omega (arith, e), found)

    by : (a : Bool) → can_step x ≡ a → (b : Bool) → cond (a && b) (Some n) (first_above last (suc n) xs) ≡ Some t → (first_above last (suc n) xs ≡ Some t → (i : ℕ) × (t ≡ suc n + i) × ((y : Task) × (slice_get xs i ≡ Some y) × (can_step y ≡ true))) → Found
    by true can true e f = let same : n ≡ t = cc e in (0, omega (arith, same), (x, refl, can))
    by true can false e f = later (f e)
    by false can b e f = later (f e)

found_task : (s : Shared) (last t : ℕ) → first_above last 1 s.roster.tasks ≡ Some t → CanStep s t
found_task s last t e =
    let (i, is, found) = found_can last 1 s.roster.tasks t e in
    let next : suc i ≡ t = omega (arith, is) in
    subst (λ (n : ℕ). CanStep s n) next found

either_task : (s : Shared) (last t : ℕ) (a b : Option ℕ) → first_above last 1 s.roster.tasks ≡ a → first_above 0 1 s.roster.tasks ≡ b → or_else a b ≡ Some t → CanStep s t
either_task s last t None b ea eb e = found_task s 0 t (eb ∙ e)
either_task s last t (Some n) b ea eb e = found_task s last t (ea ∙ e)

pub chosen_can : (s : Progress) (t : ℕ) → chosen s ≡ Some t → CanStep s.world.common.shared t
chosen_can s t e = either_task s.world.common.shared s.last t _ _ refl refl e
