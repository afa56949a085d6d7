-- What the end of a task keeps.
use Rattle.std.specs.Prelude.{◌≡◌, Bool, true, false, is_some, Option, Some}
use Rattle.ci_base.specs.declared.place.Place.{Place}
use Rattle.ci_base.specs.declared.place.Place.TheVariants as places
use Rattle.ci_base.specs.declared.place.Status.{Status}
use Rattle.ci_base.specs.declared.place.Status.TheVariants as statuses
use Rattle.ci_history.specs.declared.end.TaskEnd.{TaskEnd}

abbrev pub is_waiting : Status → Bool
is_waiting statuses.Waits = true
is_waiting _ = false

abbrev pub is_section : Option Place → Bool
is_section (Some (places.Section name)) = true
is_section _ = false

-- a task has a place where it waits and nowhere else, and an owner is told where that is a section
pub record IsTaskEnd (end : TaskEnd) : Type 0 where
  pub place : is_some end.place ≡ is_waiting end.status
  pub owner : is_some end.owner ≡ is_section end.place

-- neither ended nor killed
abbrev pub is_live_status : Status → Bool
is_live_status statuses.Ready = true
is_live_status statuses.Waits = true
is_live_status (statuses.Ended code) = false
is_live_status statuses.Killed = false
