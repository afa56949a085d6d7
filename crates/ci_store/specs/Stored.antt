-- The store as contracts see it, and what its parts are of it.
use Rattle.std.specs.Prelude.{◌≡◌, ◌≤◌, ◌<◌, ◌^◌, ℕ, zero, suc, Bool, if◌then◌else◌, List, [], ◌∷◌, length, map, All, Option, Some, None, option_map, slice_get}
use Rattle.ci_base.specs.declared.bounds.TheConstants.{MOST_TASKS}
use Rattle.ci_base.specs.declared.layout.Layout.{Layout}
use Rattle.ci_base.specs.declared.place.Place.{Place}
use Rattle.ci_base.specs.declared.task.Birth.{Birth}
use Rattle.ci_base.specs.declared.task.Delivery.{Delivery}
use Rattle.ci_base.specs.Values.{kind_of}
use Rattle.ci_shared.specs.Laws.{IsNumbered, Keeps}
use Rattle.ci_shared.specs.Roster.{Ended, Killed, Ready, Roster, Standing, Task, Waiting, is_live}
use Rattle.ci_shared.specs.Started.{Basis}
use Rattle.ci_shared.specs.State.{Served, Shared}
use Rattle.ci_tasktab.specs.Births.{IsWithin}
use Rattle.ci_tasktab.specs.Slots.{tasks_in}
use Rattle.ci_store.specs.declared.parts.Parts.{Parts}

-- what serving knows of the project, the shared state, and whom the last call answered and started
pub record Stored : Type 0 where
  pub basis : Basis
  pub shared : Shared
  pub deliveries : List Delivery
  pub birth : Option Birth

-- what a call leaves
abbrev pub after : {R : Type 0} → Basis → Served R → Stored
after b x = record { basis = b; shared = x.shared; deliveries = x.deliveries; birth = x.birth }

abbrev pub roster_of : Parts → Roster
roster_of p = record { tasks = tasks_in p.lines p.tasks; waiting = p.lines }

abbrev pub shared_of : Parts → Shared
shared_of p = record { roster = roster_of p; cells = p.vars; semaphores = p.sems; queues = p.queues; sections = p.sections; clock = p.clock; next = p.next }

abbrev pub basis_in : Parts → Basis
basis_in p = record { functions = p.layout.functions; globals = p.layout.globals; kinds = map kind_of p.vars }

abbrev pub stored : Parts → Stored
stored p = record { basis = basis_in p; shared = shared_of p; deliveries = p.woken; birth = p.birth }

-- the invariant of the parts
pub record IsSound (p : Parts) : Type 0 where
  pub keeps : Keeps (basis_in p) (shared_of p)
  pub numbered : IsNumbered (shared_of p)
  pub within : IsWithin p.layout.functions
  pub cells : All (λ g. g.cell < length p.vars) p.layout.globals
  pub many : length p.tasks ≤ MOST_TASKS
  pub early : p.clock < 2 ^ 62

-- a layout that a store can be made of
pub record IsUsable (l : Layout) : Type 0 where
  pub within : IsWithin l.functions
  pub kinds : All (λ cell. kind_of cell.first ≡ cell.kind) l.cells
  pub cells : All (λ g. g.cell < length l.cells) l.globals

-- where a task waits
abbrev pub place_of : Option Standing → Option Place
place_of None = None
place_of (Some Ready) = None
place_of (Some (Waiting p)) = Some p
place_of (Some (Ended code)) = None
place_of (Some Killed) = None

-- whether the task of a number, from 1, is marked as suspended
abbrev pub mark_at : List Task → ℕ → Option Bool
mark_at xs zero = None
mark_at xs (suc n) = option_map (λ x. x.suspended) (slice_get xs n)

-- the numbers of the live tasks; the front task has number n
abbrev pub live_tasks : ℕ → List Task → List ℕ
live_tasks n [] = []
live_tasks n (x ∷ xs) = if is_live x.standing then n ∷ live_tasks (suc n) xs else live_tasks (suc n) xs
