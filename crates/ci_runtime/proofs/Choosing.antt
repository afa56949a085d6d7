-- Finding the task whose turn is next among the live ones.
use Rattle.std.proofs.Common.{◌≡◌, ◌<◌, ◌≤◌, ◌+◌, ◌++◌, ◌&&◌, ℕ, zero, suc, Bool, true, false, cond, List, [], ◌∷◌, length, drop, Option, None, Some, get_or, refl, sym, ap, ◌∙◌, subst, arith, length-append, append_assoc}
use Rattle.std.specs.Option.{option_map_or}
use Rattle.std.specs.Prelude.{nat_lt, not, option_map}
use Rattle.ci_base.specs.declared.place.Status.{Status}
use Rattle.ci_base.specs.declared.place.Status.TheVariants as statuses
use Rattle.ci_runtime.specs.Choosing.{is_able}
use Rattle.ci_shared.specs.Roster.{Standing, Ready, Waiting, Ended, Killed, Task, is_live, standing_in, status_of}
use Rattle.ci_store.specs.Stored.{live_tasks, mark_at}
use Rattle.ci_world.proofs.Lists.{at_within, task_standing}
use Rattle.ci_world.specs.Lists.{at_task}
use Rattle.ci_world.specs.Serial.{first_above}
use Rattle.ci_world.specs.Tasks.{can_step, is_ready}

-- a task that wasn't started
pub able_none : (xs : List Task) (t : ℕ) → (1 ≤ t → t ≤ length xs → ⊥) → is_able xs t ≡ false
able_none xs t out = by (at_task xs t) refl
  where
    by : (x : Option Task) → at_task xs t ≡ x → option_map_or (λ (z : Task). can_step z) x false ≡ false
    by None e = refl
    by (Some x) e = let w = at_within xs t x e in absurd (out w.0 w.1)

standing_of : (xs : List Task) (t : ℕ) (s : Status) → option_map status_of (standing_in xs t) ≡ Some s → (x : Task) × (at_task xs t ≡ Some x) × (status_of x.standing ≡ s)
standing_of xs t s e = by (standing_in xs t) refl e
  where
    by : (o : Option Standing) → standing_in xs t ≡ o → option_map status_of o ≡ Some s → (x : Task) × (at_task xs t ≡ Some x) × (status_of x.standing ≡ s)
    by None is h = absurd (cc)
    by (Some y) is h =
        let (x, at, same) = task_standing xs t y is in
        let st : status_of y ≡ s = cc h in
        (x, at, ap status_of same ∙ st)

ready_of : (y : Standing) → status_of y ≡ statuses.Ready → is_ready y ≡ true
ready_of Ready e = refl
ready_of (Waiting p) e = absurd (cc)
ready_of (Ended c) e = absurd (cc)
ready_of Killed e = absurd (cc)

unready_of : (y : Standing) → (status_of y ≡ statuses.Ready → ⊥) → is_ready y ≡ false
unready_of Ready f = absurd (f refl)
unready_of (Waiting p) f = refl
unready_of (Ended c) f = refl
unready_of Killed f = refl

marked : (xs : List Task) (t : ℕ) (x : Task) (m : Bool) → at_task xs t ≡ Some x → mark_at xs t ≡ Some m → x.suspended ≡ m
marked xs zero x m at e = absurd (cc)
marked xs (suc n) x m at e = let f : option_map (λ (z : Task). z.suspended) (Some x) ≡ Some m = ap (option_map (λ (z : Task). z.suspended)) (sym at) ∙ e in cc f

-- a ready task can make a step unless it is suspended
pub able_ready : (xs : List Task) (t : ℕ) (s : Status) (m : Bool) → option_map status_of (standing_in xs t) ≡ Some s → s ≡ statuses.Ready → mark_at xs t ≡ Some m → is_able xs t ≡ not m
able_ready xs t s m e is mark =
    let (x, at, st) = standing_of xs t s e in
    ap (λ (o : Option Task). option_map_or (λ (z : Task). can_step z) o false) at ∙ ap (λ (b : Bool). b && not x.suspended) (ready_of x.standing (st ∙ is)) ∙ ap not (marked xs t x m at mark)

pub able_other : (xs : List Task) (t : ℕ) (s : Status) → option_map status_of (standing_in xs t) ≡ Some s → (s ≡ statuses.Ready → ⊥) → is_able xs t ≡ false
able_other xs t s e other =
    let (x, at, st) = standing_of xs t s e in
    ap (λ (o : Option Task). option_map_or (λ (z : Task). can_step z) o false) at ∙ ap (λ (b : Bool). b && not x.suspended) (unready_of x.standing (λ is. other (sym st ∙ is)))

-- the first of some tasks that can make a step and has a number above `last`
abbrev pub first_of : List Task → ℕ → List ℕ → Option ℕ
first_of xs last [] = None
first_of xs last (t ∷ ts) = cond (is_able xs t && nat_lt last t) (Some t) (first_of xs last ts)

dead_stays : (x : Task) → is_live x.standing ≡ false → can_step x ≡ false
dead_stays x e = by x.standing e
  where
    by : (y : Standing) → is_live y ≡ false → (is_ready y && not x.suspended) ≡ false
    by Ready e = absurd (cc)
    by (Waiting p) e = refl
    by (Ended c) e = refl
    by Killed e = refl

at_middle : (pre : List Task) (x : Task) (xs : List Task) → at_task (pre ++ x ∷ xs) (suc (length pre)) ≡ Some x
at_middle [] x xs = refl
at_middle (y ∷ pre) x xs = at_middle pre x xs

find_in : (pre xs : List Task) (last : ℕ) → first_above last (suc (length pre)) xs ≡ first_of (pre ++ xs) last (live_tasks (suc (length pre)) xs)
find_in pre [] last = refl
find_in pre (x ∷ xs) last = by (is_live x.standing) refl (later (find_in (pre ++ x ∷ []) xs last))
  where
    n : ℕ
    n = suc (length pre)

    able : is_able (pre ++ x ∷ xs) n ≡ can_step x
    able = ap (λ (o : Option Task). option_map_or (λ (z : Task). can_step z) o false) (at_middle pre x xs)

    longer : length (pre ++ x ∷ []) ≡ n
    longer = omega (arith, length-append pre (x ∷ []))

    later : first_above last (suc (length (pre ++ x ∷ []))) xs ≡ first_of ((pre ++ x ∷ []) ++ xs) last (live_tasks (suc (length (pre ++ x ∷ []))) xs) → first_above last (suc n) xs ≡ first_of (pre ++ x ∷ xs) last (live_tasks (suc n) xs)
    later h =
        subst (λ (l : List Task). first_above last (suc n) xs ≡ first_of l last (live_tasks (suc n) xs)) (append_assoc pre (x ∷ []) xs)
        (subst (λ (k : ℕ). first_above last (suc k) xs ≡ first_of ((pre ++ x ∷ []) ++ xs) last (live_tasks (suc k) xs)) longer h)

    by : (b : Bool) → is_live x.standing ≡ b → first_above last (suc n) xs ≡ first_of (pre ++ x ∷ xs) last (live_tasks (suc n) xs) → cond (can_step x && nat_lt last n) (Some n) (first_above last (suc n) xs) ≡ first_of (pre ++ x ∷ xs) last (cond b (n ∷ live_tasks (suc n) xs) (live_tasks (suc n) xs))
    by true e rest = ap (λ (a : Bool). cond (a && nat_lt last n) (Some n) (first_above last (suc n) xs)) (sym able) ∙ ap (λ (o : Option ℕ). cond (is_able (pre ++ x ∷ xs) n && nat_lt last n) (Some n) o) rest
    by false e rest = ap (λ (a : Bool). cond (a && nat_lt last n) (Some n) (first_above last (suc n) xs)) (dead_stays x e) ∙ rest

-- among the live ones
pub find_live : (xs : List Task) (last : ℕ) → first_above last 1 xs ≡ first_of xs last (live_tasks 1 xs)
find_live xs last = find_in [] xs last

-- one of them more is seen
pub find_step : (xs : List Task) (last : ℕ) (ts : List ℕ) (i d : ℕ) → i < length ts → first_of xs last (drop i ts) ≡ cond (is_able xs (get_or ts i d) && nat_lt last (get_or ts i d)) (Some (get_or ts i d)) (first_of xs last (drop (i + 1) ts))
find_step xs last [] i d lt = absurd (omega arith)
find_step xs last (t ∷ ts) zero d lt = refl
find_step xs last (t ∷ ts) (suc i) d lt = find_step xs last ts i d (omega arith) ∙ ap (λ (k : ℕ). cond (is_able xs (get_or ts i d) && nat_lt last (get_or ts i d)) (Some (get_or ts i d)) (first_of xs last (drop k (t ∷ ts)))) (sym (next i))
  where
    next : (i : ℕ) → suc i + 1 ≡ suc (i + 1)
    next i = omega arith

pub find_end : (xs : List Task) (last : ℕ) (ts : List ℕ) (i : ℕ) → length ts ≤ i → first_of xs last (drop i ts) ≡ None
find_end xs last [] zero le = refl
find_end xs last [] (suc i) le = refl
find_end xs last (t ∷ ts) zero le = absurd (omega arith)
find_end xs last (t ∷ ts) (suc i) le = find_end xs last ts i (omega arith)
