-- The text that tells a run.
use Rattle.std.specs.Prelude.{ℕ, suc, zero, ◌+◌, ◌&&◌, if◌then◌else◌, min, List, [], ◌∷◌, ◌++◌, length, codes, decimal, Option, Some, None}
use Rattle.std.specs.Fmt.{signed_decimal}
use Rattle.std.specs.List.{flat_map}
use Rattle.ci_base.specs.declared.bounds.TheConstants.{MOST_INSTRUCTIONS}
use Rattle.ci_base.specs.declared.entry.Entry.{Entry}
use Rattle.ci_base.specs.declared.entry.Entry.TheVariants as entries
use Rattle.ci_base.specs.declared.limits.Ending.{Ending}
use Rattle.ci_base.specs.declared.limits.Ending.TheVariants as endings
use Rattle.ci_base.specs.declared.place.Place.{Place}
use Rattle.ci_base.specs.declared.place.Place.TheVariants as places
use Rattle.ci_base.specs.declared.place.Status.TheVariants as statuses
use Rattle.ci_base.specs.declared.place.Status.{Status}
use Rattle.ci_base.specs.declared.request.Request.{Request}
use Rattle.ci_base.specs.declared.request.Request.TheVariants as requests
use Rattle.ci_base.specs.Caret.{caret}
use Rattle.ci_history.specs.declared.end.EndState.{EndState}
use Rattle.ci_history.specs.declared.end.TaskEnd.{TaskEnd}
use Rattle.ci_history.specs.Ends.{is_live_status}

-- a trace shows the task's number and the text
abbrev pub request_line : ℕ → Request → List ℕ
request_line task (requests.Trace text) = decimal task ++ codes " " ++ text ++ codes "\n"
request_line task _ = []

-- an entry shows nothing but a trace
abbrev pub entry_line : Entry → List ℕ
entry_line (entries.Ask task ticks request reply) = request_line task request
entry_line (entries.Script event reply) = []

-- for what a task waits
abbrev pub place_text : Place → List ℕ
place_text (places.Semaphore number) = codes " semaphore " ++ signed_decimal number
place_text (places.Queue number) = codes " queue " ++ signed_decimal number
place_text (places.Section name) = codes " section \"" ++ caret name ++ codes "\""
place_text places.Clock = codes " clock"

abbrev pub wait_text : Option Place → List ℕ
wait_text None = []
wait_text (Some place) = place_text place

-- how a task stands
abbrev pub status_text : Status → Option Place → List ℕ
status_text statuses.Ready place = codes "ready"
status_text statuses.Waits place = codes "waits" ++ wait_text place
status_text (statuses.Ended zero) place = codes "ended 0"
status_text (statuses.Ended (suc code)) place = codes "faulted " ++ decimal (suc code)
status_text statuses.Killed place = codes "killed"

-- a live task may be suspended besides
abbrev pub mark_text : TaskEnd → List ℕ
mark_text end = if end.suspended && is_live_status end.status then codes " suspended" else []

-- the line of the task with this number
abbrev pub task_line : ℕ → TaskEnd → List ℕ
task_line number end =
    codes "task " ++ decimal number ++ codes " " ++ end.name ++ codes " " ++ status_text end.status end.place ++ mark_text end ++ codes "\n"

-- the lines of the tasks from this number on
abbrev pub task_lines : ℕ → List TaskEnd → List ℕ
task_lines number [] = []
task_lines number (end ∷ rest) = task_line number end ++ task_lines (number + 1) rest

abbrev pub ending_word : Ending → List ℕ
ending_word endings.Finished = codes "finished"
ending_word endings.Resting = codes "resting"
ending_word endings.Spent = codes "spent"
ending_word endings.NotRun = []

-- the line that closes the report: how the run ended, the number of entries, the work and the instructions
abbrev pub closing_line : ℕ → ℕ → ℕ → Ending → List ℕ
closing_line count work instructions ending =
    ending_word ending ++ codes " entries " ++ decimal count ++ codes " work " ++ decimal work ++ codes " instructions " ++ decimal (min instructions MOST_INSTRUCTIONS) ++ codes "\n"

-- the traces, the tasks and the closing line
abbrev pub report_text : List Entry → EndState → List ℕ
report_text history end =
    flat_map entry_line history ++ task_lines 1 end.tasks ++ closing_line (length history) end.work end.instructions end.ending
