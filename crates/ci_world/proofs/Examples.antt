-- Values of the definitions, worked out by hand.
use Rattle.std.proofs.Common.{◌≡◌, ◌-◌, true, false, List, [], ◌∷◌, Some, refl}
use Rattle.std.specs.Prelude.{pos}
use Rattle.ci_base.specs.declared.entry.Entry.{Entry}
use Rattle.ci_base.specs.declared.entry.Entry.TheVariants as entries
use Rattle.ci_base.specs.declared.event.EventKind.TheVariants as events
use Rattle.ci_base.specs.declared.place.Place.TheVariants as places
use Rattle.ci_base.specs.declared.reply.Reply.TheVariants as replies
use Rattle.ci_base.specs.declared.request.Request.TheVariants as requests
use Rattle.ci_shared.specs.Roster.{Ready, Waiting, Ended, Task}
use Rattle.ci_world.specs.Serial.{first_above, or_else}
use Rattle.ci_world.specs.Work.{loose_of, work}

-- tasks that made no ticks aren't in the list
loose_ticks : loose_of (0 ∷ 3 ∷ 0 ∷ 5 ∷ []) ≡ record { task = 2; ticks = 3 } ∷ record { task = 4; ticks = 5 } ∷ []
loose_ticks = refl

-- tasks 1 and 5 can make a step; 2 waits, 3 is suspended, 4 has ended
abbrev some_tasks : List Task
some_tasks = record { function = 0; standing = Ready; suspended = false } ∷ record { function = 0; standing = Waiting places.Clock; suspended = false }
    ∷ record { function = 0; standing = Ready; suspended = true } ∷ record { function = 0; standing = Ended 0; suspended = false }
    ∷ record { function = 0; standing = Ready; suspended = false } ∷ []

-- each in turn, and from the last one to the first
first_turn : or_else (first_above 0 1 some_tasks) (first_above 0 1 some_tasks) ≡ Some 1
first_turn = refl

next_turn : or_else (first_above 1 1 some_tasks) (first_above 0 1 some_tasks) ≡ Some 5
next_turn = refl

turn_around : or_else (first_above 5 1 some_tasks) (first_above 0 1 some_tasks) ≡ Some 1
turn_around = refl

-- a loop without end, with a budget of 1,000: the event that started it, and 800 loose ticks; 100 is left
abbrev started : Entry
started = entries.Script (record { soon = false; what = events.Run [] [] }) (record { value = pos 1; code = 0 })

spent_on_loop : 1000 - work (started ∷ []) (record { task = 1; ticks = 800 } ∷ []) ≡ 100
spent_on_loop = refl

-- the entry of a request counts 100 and its ticks
with_request : work (started ∷ entries.Ask 1 2 (requests.Trace []) replies.Waits ∷ []) [] ≡ 202
with_request = refl
