-- The tasks as the table knows them: how each stands, but not where it waits.
use Rattle.std.specs.Prelude.{ℕ, zero, suc, Bool, true, false, if◌then◌else◌, List, [], ◌∷◌, Option, Some, None, option_map, slice_get, length, nat_le, ◌||◌}
use Rattle.ci_base.specs.declared.bounds.TheConstants.{MOST_LIVE_TASKS, MOST_TASKS}
use Rattle.ci_base.specs.declared.layout.Head.{Head}
use Rattle.ci_base.specs.declared.place.Place.{Place}
use Rattle.ci_base.specs.declared.place.Place.TheVariants as places
use Rattle.ci_base.specs.declared.place.Status.{Status}
use Rattle.ci_base.specs.declared.place.Status.TheVariants as statuses
use Rattle.ci_shared.specs.declared.waiter.Waiter.{Waiter}
use Rattle.ci_shared.specs.Roster.{Ready, Waiting, Ended, Killed, Standing, Task, seats}
use Rattle.ci_shared.specs.Rows.{Row, coded, replying}
use Rattle.ci_shared.specs.Started.{has_name}
use Rattle.ci_shared.specs.Words.{change}
use Rattle.ci_tasktab.specs.declared.slot.Slot.{Slot}

-- How a task stands which has these places in the lines. One that waits has one; that the clock stands here for none is no
-- matter, since none such is ever seen.
abbrev pub standing_of : Status → List Place → Standing
standing_of statuses.Ready ps = Ready
standing_of statuses.Waits (p ∷ ps) = Waiting p
standing_of statuses.Waits [] = Waiting places.Clock
standing_of (statuses.Ended code) ps = Ended code
standing_of statuses.Killed ps = Killed

-- the tasks, where these wait in the lines; the front task has number n
abbrev pub tasks_from : ℕ → List Waiter → List Slot → List Task
tasks_from n ws [] = []
tasks_from n ws (x ∷ xs) =
    record { function = x.function; standing = standing_of x.status (seats n ws); suspended = x.suspended } ∷ tasks_from (suc n) ws xs

abbrev pub tasks_in : List Waiter → List Slot → List Task
tasks_in ws xs = tasks_from 1 ws xs

-- the task of a number, from 1
abbrev pub slot_at : List Slot → ℕ → Option Slot
slot_at xs zero = None
slot_at xs (suc n) = slice_get xs n

abbrev pub status_at : List Slot → ℕ → Option Status
status_at xs t = option_map (λ x. x.status) (slot_at xs t)

-- neither ended nor killed
abbrev pub is_live : Status → Bool
is_live statuses.Ready = true
is_live statuses.Waits = true
is_live (statuses.Ended code) = false
is_live statuses.Killed = false

abbrev pub is_live_slot : Option Slot → Bool
is_live_slot None = false
is_live_slot (Some x) = is_live x.status

abbrev pub is_live_at : List Slot → ℕ → Bool
is_live_at xs t = is_live_slot (slot_at xs t)

-- the numbers of the live tasks; the front task has number n
abbrev pub live_from : ℕ → List Slot → List ℕ
live_from n [] = []
live_from n (x ∷ xs) = if is_live x.status then n ∷ live_from (suc n) xs else live_from (suc n) xs

abbrev pub live_in : List Slot → List ℕ
live_in xs = live_from 1 xs

-- no further task can be started
abbrev pub is_crowded : List Slot → Bool
is_crowded xs = nat_le MOST_LIVE_TASKS (length (live_in xs)) || nat_le MOST_TASKS (length xs)

abbrev pub change_slot : (Slot → Slot) → ℕ → List Slot → List Slot
change_slot f zero xs = xs
change_slot f (suc n) xs = change f n xs

abbrev pub with_status : Status → Slot → Slot
with_status status x = record x { status = status }

abbrev pub with_mark : Bool → Slot → Slot
with_mark mark x = record x { suspended = mark }

abbrev pub set_status : Status → ℕ → List Slot → List Slot
set_status status t xs = change_slot (with_status status) t xs

-- how a live task stands
abbrev pub waiting : Bool → Status
waiting waits = if waits then statuses.Waits else statuses.Ready

-- a live task is marked, or its mark is cleared; 1 where there is none
abbrev pub marked : Bool → ℕ → List Slot → Row (List Slot)
marked mark t xs = if is_live_at xs t then replying (change_slot (with_mark mark) t xs) (coded 0) else replying xs (coded 1)

-- the task of this number is of a function with this name
abbrev pub runs_slot : List Head → List ℕ → Option Slot → Bool
runs_slot hs name None = false
runs_slot hs name (Some x) = has_name name (slice_get hs x.function)

abbrev pub runs : List Head → List ℕ → List Slot → ℕ → Bool
runs hs name xs t = runs_slot hs name (slot_at xs t)
