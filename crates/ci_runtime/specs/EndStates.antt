-- How a run ended, told from its origin and its history.
use Rattle.std.specs.Prelude.{ℕ, List, [], map, Option, None, Some, slice_get}
use Rattle.std.specs.Option.{option_map_or}
use Rattle.ci_base.specs.declared.entry.Entry.{Entry}
use Rattle.ci_base.specs.declared.layout.Head.{Head}
use Rattle.ci_base.specs.declared.limits.Ending.{Ending}
use Rattle.ci_base.specs.declared.list.Loose.{Loose}
use Rattle.ci_base.specs.declared.place.Place.{Place}
use Rattle.ci_base.specs.declared.place.Place.TheVariants as places
use Rattle.ci_history.specs.declared.end.EndState.{EndState}
use Rattle.ci_history.specs.declared.end.TaskEnd.{TaskEnd}
use Rattle.ci_sections.specs.Picked.{owner_of}
use Rattle.ci_shared.specs.declared.object.Section.{Section}
use Rattle.ci_shared.specs.Roster.{Task, status_of}
use Rattle.ci_shared.specs.Sections.{section_of}
use Rattle.ci_shared.specs.Started.{Basis}
use Rattle.ci_shared.specs.State.{Shared}
use Rattle.ci_store.specs.Stored.{place_of}
use Rattle.ci_world.specs.Trails.{common_after}
use Rattle.ci_world.specs.Work.{work}
use Rattle.ci_world.specs.World.{Origin, basis}

-- the name of the function of this number, as it is declared
abbrev pub function_name : List Head → ℕ → List ℕ
function_name heads f = option_map_or (λ (h : Head). h.name) (slice_get heads f) []

-- who owns the section at a place
abbrev pub owner_at : List Section → Option Place → Option ℕ
owner_at sections (Some (places.Section name)) = owner_of (section_of name sections)
owner_at sections _ = None

-- how a task stands
abbrev pub task_end : Basis → Shared → Task → TaskEnd
task_end b s task = record {
  name = function_name b.functions task.function;
  status = status_of task.standing;
  suspended = task.suspended;
  place = place_of (Some task.standing);
  owner = owner_at s.sections (place_of (Some task.standing));
}

-- how a run stands after a history with these loose ticks, to which so many instructions led, and which ended so
abbrev pub end_state : Origin → List Entry → List Loose → ℕ → Ending → EndState
end_state o history loose instructions ending = record {
  tasks = map (task_end (basis o) (common_after o history).shared) (common_after o history).shared.roster.tasks;
  work = work history loose;
  instructions = instructions;
  ending = ending;
}
