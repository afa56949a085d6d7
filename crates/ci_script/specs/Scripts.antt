-- The events of a script, or its first fault.
use Rattle.std.specs.Prelude.{◌≡◌, ◌≤◌, ℕ, ℤ, suc, pos, negsuc, ◌==◌, Bool, true, false, List, [], ◌∷◌, ◌++◌, length, All, Result, Ok, Err, if◌then◌else◌}
use Rattle.ci_base.specs.declared.bounds.TheConstants.{MOST_SCRIPT_LINES}
use Rattle.ci_base.specs.declared.event.Event.{Event}
use Rattle.ci_base.specs.declared.event.EventKind.{EventKind}
use Rattle.ci_base.specs.declared.event.EventKind.TheVariants.{Tick}
use Rattle.ci_script.specs.declared.fault.ScriptFault.{ScriptFault}
use Rattle.ci_script.specs.declared.fault.ScriptFault.TheVariants as faults
use Rattle.ci_script.specs.declared.reading.Reading.{Reading}
use Rattle.ci_script.specs.declared.reading.Reading.TheVariants as readings
use Rattle.ci_script.specs.Events.{reading}
use Rattle.ci_script.specs.Lines.{lines}

abbrev pub Told : Type 0
Told = Result (List Event) ScriptFault

-- events before others
abbrev pub events_first : List Event → Told → Told
events_first before (Ok es) = Ok (before ++ es)
events_first before (Err fault) = Err fault

-- what the line of this number says, and then those behind it
abbrev pub line_first : ℕ → Reading → Told → Told
line_first number readings.Nothing rest = rest
line_first number (readings.Event e) rest = events_first (e ∷ []) rest
line_first number readings.UnknownEvent rest = Err (faults.UnknownEvent number)
line_first number readings.BadArgument rest = Err (faults.BadArgument number)

-- what lines say before which so many lines stand
unfoldable pub told_behind : ℕ → List (List ℕ) → Told
told_behind before [] = Ok []
told_behind before (line ∷ ls) =
    if before == MOST_SCRIPT_LINES then Err faults.TooManyLines
    else line_first (suc before) (reading line) (told_behind (suc before) ls)

-- what a script says
abbrev pub told : List ℕ → Told
told source = told_behind 0 (lines source)

-- these are the events of the script
abbrev pub events : List ℕ → List Event → Type 0
events source es = told source ≡ Ok es

-- the script is refused with this fault
abbrev pub script_fault : List ℕ → ScriptFault → Type 0
script_fault source fault = told source ≡ Err fault

-- a tick of a script isn't negative
abbrev pub is_forward : ℤ → Bool
is_forward (pos n) = true
is_forward (negsuc n) = false

abbrev pub is_forward_event : EventKind → Bool
is_forward_event (Tick ms) = is_forward ms
is_forward_event _ = true

abbrev pub is_forward_reading : Reading → Bool
is_forward_reading (readings.Event e) = is_forward_event e.what
is_forward_reading _ = true

-- what a script keeps
pub record IsScript (es : List Event) : Type 0 where
  pub few : length es ≤ MOST_SCRIPT_LINES
  pub forward : All (λ e. is_forward_event e.what ≡ true) es
