-- What a start makes of the table.
use Rattle.std.specs.Borrow.{Bor}
use Rattle.std.specs.Prelude.{◌≡◌, ◌≤◌, ℕ, false, List, [], ◌∷◌, ◌++◌, length, All, Option, Some, None, Result, Ok, Err}
use Rattle.ci_base.specs.declared.bounds.TheConstants.{MOST_FUNCTIONS, MOST_PARAMETERS}
use Rattle.ci_base.specs.declared.layout.Head.{Head}
use Rattle.ci_base.specs.declared.place.Status.TheVariants as statuses
use Rattle.ci_base.specs.declared.task.Birth.{Birth}
use Rattle.ci_base.specs.declared.value.Value.{Value}
use Rattle.ci_shared.specs.Arguments.{Front}
use Rattle.ci_shared.specs.Started.{Refused, Started, Starts}
use Rattle.ci_tasktab.specs.declared.slot.Slot.{Slot}

-- as many functions as a project may have, of as many parameters as a function may have
pub record IsWithin (hs : List Head) : Type 0 where
  pub few : length hs ≤ MOST_FUNCTIONS
  pub short : All (λ h. length h.kinds ≤ MOST_PARAMETERS) hs

-- a task that was just started
abbrev pub fresh_slot : ℕ → Slot
fresh_slot f = record { function = f; status = statuses.Ready; suspended = false }

-- the new task stands behind the others; or nothing changes
abbrev pub Spawns : Started → Result Birth ℕ → List Slot → List Slot → Type 0
Spawns (Refused code) (Err c) old new = (c ≡ code) × (new ≡ old)
Spawns (Refused code) (Ok birth) old new = ⊥
Spawns (Starts b) (Err c) old new = ⊥
Spawns (Starts b) (Ok birth) old new = (birth ≡ b) × (new ≡ old ++ fresh_slot b.function ∷ [])

-- what a reader of a list gives is this front, or none
abbrev pub IsFront : Option Front → Option (Value × Bor (List ℕ)) → Type 0
IsFront front None = front ≡ None
IsFront front (Some found) = front ≡ Some (record { value = found.0; rest = found.1.now })
