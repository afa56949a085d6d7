-- Which tasks can make a step, and which are live.
use Rattle.std.specs.Prelude.{◌≡◌, ℕ, Bool, true, false, ◌&&◌, not, Some}
use Rattle.ci_shared.specs.Roster.{Standing, Ready, Waiting, Ended, Killed, Task, is_live}
use Rattle.ci_shared.specs.State.{Shared}
use Rattle.ci_world.specs.Lists.{at_task}

abbrev pub is_ready : Standing → Bool
is_ready Ready = true
is_ready (Waiting p) = false
is_ready (Ended code) = false
is_ready Killed = false

-- it is ready, and not suspended
abbrev pub can_step : Task → Bool
can_step x = is_ready x.standing && not x.suspended

-- a task of this number was started, and passes the test
abbrev pub Is : (Task → Bool) → Shared → ℕ → Type 0
Is test s t = (x : Task) × (at_task s.roster.tasks t ≡ Some x) × (test x ≡ true)

abbrev pub CanStep : Shared → ℕ → Type 0
CanStep s t = Is can_step s t

abbrev pub NoneCanStep : Shared → Type 0
NoneCanStep s = (t : ℕ) → CanStep s t → ⊥

-- it has neither ended nor been killed
abbrev pub IsLive : Shared → ℕ → Type 0
IsLive s t = Is (λ x. is_live x.standing) s t

abbrev pub NoneLive : Shared → Type 0
NoneLive s = (t : ℕ) → IsLive s t → ⊥

-- it was started, and has ended or been killed
abbrev pub IsDead : Shared → ℕ → Type 0
IsDead s t = Is (λ x. not (is_live x.standing)) s t
