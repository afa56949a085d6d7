-- Who is looked for in the lines, and where in the list that one stands.
use Rattle.std.specs.Prelude.{◌≡◌, ℕ, ◌&&◌, if◌then◌else◌, nat_eq, List, [], ◌∷◌, Option, None, Some, slice_get}
use Rattle.ci_base.specs.declared.place.Place.{Place}
use Rattle.ci_shared.specs.declared.waiter.Waiter.{Waiter}
use Rattle.ci_shared.specs.Roster.{by_limit, chosen, is_due, is_sooner}

abbrev pub first : List Waiter → Option Waiter
first [] = None
first (w ∷ ws) = Some w

-- the first of those whose limit has come, by limit and then by task
abbrev pub first_due : ℕ → List Waiter → Option Waiter
first_due now ws = first (by_limit (chosen (is_due now) ws))

abbrev pub waiter_of : ℕ → List Waiter → Option Waiter
waiter_of t [] = None
waiter_of t (w ∷ ws) = if nat_eq w.task t then Some w else waiter_of t ws

abbrev pub task_of : Option Waiter → Option ℕ
task_of None = None
task_of (Some w) = Some w.task

abbrev pub task_and_place : Option Waiter → Option (ℕ × Place)
task_and_place None = None
task_and_place (Some w) = Some (w.task, w.place)

-- the waiter stands at this place of the list; or there is none, and no place
abbrev pub IsAt : List Waiter → Option Waiter → Option ℕ → Type 0
IsAt ws None None = Unit {0}
IsAt ws None (Some i) = ⊥
IsAt ws (Some w) None = ⊥
IsAt ws (Some w) (Some i) = slice_get ws i ≡ Some w

-- the first by limit of a list whose front this waiter is, where that of the rest is this one
abbrev pub better : ℕ → Waiter → Option Waiter → Option Waiter
better now w None = if is_due now w then Some w else None
better now w (Some x) = if is_due now w && is_sooner w x then Some w else Some x
