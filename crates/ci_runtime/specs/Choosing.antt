-- Which task can make a step, by its number, and which rule of a round applies.
use Rattle.std.specs.Prelude.{ℕ, Bool, true, false, List, Option, None, Some}
use Rattle.std.specs.Option.{option_map_or}
use Rattle.ci_runtime.specs.declared.choice.Choice.{Choice}
use Rattle.ci_runtime.specs.declared.choice.Choice.TheVariants as choices
use Rattle.ci_shared.specs.Roster.{Task}
use Rattle.ci_world.specs.Lists.{at_task}
use Rattle.ci_world.specs.Tasks.{can_step}

-- a task of this number was started, and can make a step
abbrev pub is_able : List Task → ℕ → Bool
is_able xs t = option_map_or (λ (x : Task). can_step x) (at_task xs t) false

-- the rules of a round, in order: by the mark of the front event, the task whose turn is next, and whether the budget is used
abbrev pub event_or_turn : Bool → Option ℕ → Choice
event_or_turn true ready = choices.Happen
event_or_turn false None = choices.Happen
event_or_turn false (Some t) = choices.Turn t

abbrev pub choice_of : Option Bool → Option ℕ → Bool → Choice
choice_of None None spent = choices.End
choice_of None (Some t) true = choices.Stop
choice_of None (Some t) false = choices.Turn t
choice_of (Some soon) ready true = choices.Stop
choice_of (Some soon) ready false = event_or_turn soon ready
