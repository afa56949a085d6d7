-- The tasks by their numbers, and the waiting ones by their arrival.
use Rattle.std.specs.Prelude.{◌≡◌, ◌⊎◌, ℕ, zero, suc, Bool, true, false, ◌&&◌, ◌||◌, if◌then◌else◌, nat_le, nat_eq, nat_lt, List, [], ◌∷◌, ◌++◌, length, Option, None, Some}
use Rattle.std.specs.Ordering.{int_eq}
use Rattle.ci_base.specs.declared.bounds.TheConstants.{MOST_LIVE_TASKS, MOST_TASKS}
use Rattle.ci_base.specs.declared.place.Place.{Place}
use Rattle.ci_base.specs.declared.place.Place.TheVariants as places
use Rattle.ci_base.specs.declared.place.Status.{Status}
use Rattle.ci_base.specs.declared.place.Status.TheVariants as statuses
use Rattle.ci_base.specs.declared.reply.Answer.{Answer}
use Rattle.ci_base.specs.declared.task.Delivery.{Delivery}
use Rattle.ci_shared.specs.declared.waiter.Waiter.{Waiter}
use Rattle.ci_shared.specs.Words.{same_text, change}

-- how a task stands, and where it waits
pub data Standing : Type 0 where
  Ready : Standing
  Waiting : Place → Standing
  Ended : ℕ → Standing
  Killed : Standing

-- the same without the place
abbrev pub status_of : Standing → Status
status_of Ready = statuses.Ready
status_of (Waiting p) = statuses.Waits
status_of (Ended code) = statuses.Ended code
status_of Killed = statuses.Killed

-- a task that was started
pub record Task : Type 0 where
  pub function : ℕ
  pub standing : Standing
  pub suspended : Bool

-- the lines of all places are one list, by arrival; the line of a place is what of it has that place
pub record Roster : Type 0 where
  pub tasks : List Task
  pub waiting : List Waiter

abbrev pub same_place : Place → Place → Bool
same_place (places.Semaphore n) (places.Semaphore m) = int_eq n m
same_place (places.Queue n) (places.Queue m) = int_eq n m
same_place (places.Section n) (places.Section m) = same_text n m
same_place places.Clock places.Clock = true
same_place _ _ = false

-- how the task of a number stands, if it was started; tasks count from 1
abbrev pub standing_from : List Task → ℕ → Option Standing
standing_from [] n = None
standing_from (x ∷ xs) zero = Some x.standing
standing_from (x ∷ xs) (suc n) = standing_from xs n

abbrev pub standing_in : List Task → ℕ → Option Standing
standing_in xs zero = None
standing_in xs (suc n) = standing_from xs n

abbrev pub standing_at : Roster → ℕ → Option Standing
standing_at r t = standing_in r.tasks t

abbrev pub change_task : (Task → Task) → ℕ → List Task → List Task
change_task f zero xs = xs
change_task f (suc n) xs = change f n xs

abbrev pub with_standing : Standing → Task → Task
with_standing standing x = record x { standing = standing }

abbrev pub with_mark : Bool → Task → Task
with_mark mark x = record x { suspended = mark }

abbrev pub set_standing : Standing → ℕ → List Task → List Task
set_standing standing t xs = change_task (with_standing standing) t xs

-- neither ended nor killed
abbrev pub is_live : Standing → Bool
is_live Ready = true
is_live (Waiting p) = true
is_live (Ended c) = false
is_live Killed = false

abbrev pub is_live_at : Option Standing → Bool
is_live_at None = false
is_live_at (Some s) = is_live s

abbrev pub count_live : List Task → ℕ
count_live [] = 0
count_live (x ∷ xs) = if is_live x.standing then suc (count_live xs) else count_live xs

-- no further task can be started
abbrev pub is_full : List Task → Bool
is_full xs = nat_le MOST_LIVE_TASKS (count_live xs) || nat_le MOST_TASKS (length xs)

-- those who wait, but for this task
abbrev pub without : ℕ → List Waiter → List Waiter
without t [] = []
without t (w ∷ ws) = if nat_eq w.task t then without t ws else w ∷ without t ws

-- the first in the line of a place
abbrev pub first_in : Place → List Waiter → Option Waiter
first_in p [] = None
first_in p (w ∷ ws) = if same_place w.place p then Some w else first_in p ws

-- those that a test picks
abbrev pub chosen : (Waiter → Bool) → List Waiter → List Waiter
chosen f [] = []
chosen f (w ∷ ws) = if f w then w ∷ chosen f ws else chosen f ws

-- the line of a place
abbrev pub line : Place → List Waiter → List Waiter
line p ws = chosen (λ w. same_place w.place p) ws

-- the places at which a task stands in line
abbrev pub seats : ℕ → List Waiter → List Place
seats t [] = []
seats t (w ∷ ws) = if nat_eq w.task t then w.place ∷ seats t ws else seats t ws

-- no task stands in line twice
unfoldable pub Once : List Waiter → Type 0
Once ws = (t : ℕ) → (seats t ws ≡ []) ⊎ ((p : Place) × (seats t ws ≡ p ∷ []))

-- a task leaves its line, if it stands in one, and stands so from now on
abbrev pub leaves : Standing → ℕ → Roster → Roster
leaves standing t r = record { tasks = set_standing standing t r.tasks; waiting = without t r.waiting }

-- a task waits, behind all who wait
abbrev pub joins : ℕ → Place → Option ℕ → Roster → Roster
joins t p limit r = record {
  tasks = set_standing (Waiting p) t r.tasks;
  waiting = r.waiting ++ record { task = t; place = p; limit = limit } ∷ [];
}

-- those who still wait after these deliveries: each answered task leaves its line
abbrev pub lines_after : List Delivery → List Waiter → List Waiter
lines_after [] ws = ws
lines_after (d ∷ ds) ws = lines_after ds (without d.task ws)

-- and is ready
abbrev pub tasks_after : List Delivery → List Task → List Task
tasks_after [] xs = xs
tasks_after (d ∷ ds) xs = tasks_after ds (set_standing Ready d.task xs)

abbrev pub after_answers : List Delivery → Roster → Roster
after_answers ds r = record { tasks = tasks_after ds r.tasks; waiting = lines_after ds r.waiting }

-- each of these waiters gets its answer
abbrev pub answers_to : (Waiter → Answer) → List Waiter → List Delivery
answers_to f [] = []
answers_to f (w ∷ ws) = record { task = w.task; answer = f w } ∷ answers_to f ws

-- its limit has come
abbrev pub is_late : ℕ → Option ℕ → Bool
is_late now None = false
is_late now (Some limit) = nat_le limit now

abbrev pub is_due : ℕ → Waiter → Bool
is_due now w = is_late now w.limit

abbrev pub limit_of : Waiter → ℕ
limit_of w = elim w.limit [ None ↦ 0 | Some n ↦ n ]

-- by limit, and then by task
abbrev pub is_sooner : Waiter → Waiter → Bool
is_sooner a b = nat_lt (limit_of a) (limit_of b) || (nat_eq (limit_of a) (limit_of b) && nat_lt a.task b.task)

abbrev pub put_by_limit : Waiter → List Waiter → List Waiter
put_by_limit w [] = w ∷ []
put_by_limit w (x ∷ xs) = if is_sooner w x then w ∷ x ∷ xs else x ∷ put_by_limit w xs

abbrev pub by_limit : List Waiter → List Waiter
by_limit [] = []
by_limit (w ∷ ws) = put_by_limit w (by_limit ws)
