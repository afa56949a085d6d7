-- Why the top call answers what it answers.
--
-- Each answer has a cause that holds, and its text and status are those of its cause, unless a put failed. An order that is built
-- later adds its causes, and their rows in each table.
use Rattle.std.specs.Prelude.{◌≡◌, ℕ, suc, List, [], ◌++◌, length, codes, decimal, Option, Some, None, Err, ◌⊎◌, slice_get}
use Rattle.std.specs.Io.KnownBytes.{Appends}
use Rattle.ci_base.specs.declared.bounds.TheConstants.{MOST_SCRIPT_LINES}
use Rattle.ci_base.specs.declared.entry.Entry.{Entry}
use Rattle.ci_base.specs.declared.limits.Ending.{Ending}
use Rattle.ci_base.specs.declared.limits.Ending.TheVariants as endings
use Rattle.ci_base.specs.declared.list.Loose.{Loose}
use Rattle.ci_base.specs.declared.position.Position.{Position}
use Rattle.ci_base.specs.Places.{place}
use Rattle.ci_history.specs.declared.end.EndState.{EndState}
use Rattle.ci_history.specs.Report.{closing_line, report_text}
use Rattle.ci_listing.specs.Listing.{listing}
use Rattle.ci_outside.specs.Causes.{Rose}
use Rattle.ci_outside.specs.Shelf.{Files, LacksFile, HasLongFile}
use Rattle.ci_outside.specs.Sink.{AppendsFront}
use Rattle.ci_runtime.specs.EndStates.{end_state}
use Rattle.ci_runtime.specs.Runs.{IsSerialRun}
use Rattle.ci_script.specs.declared.fault.ScriptFault.{ScriptFault}
use Rattle.ci_script.specs.declared.fault.ScriptFault.TheVariants as script_faults
use Rattle.ci_script.specs.Scripts.{events, script_fault}
use Rattle.ci_source.specs.declared.fault.Fault.{Fault}
use Rattle.ci_source.specs.Compiling.{compiles, HasFirstFault}
use Rattle.ci_source.specs.Faults.{fault_text as source_fault_text}
use Rattle.ci_tree.specs.Bound.{Project}
use Rattle.ci_translation.specs.Translation.{translation}
use Rattle.ci_words.specs.declared.command.Command.TheVariants as commands
use Rattle.ci_words.specs.declared.fault.WordFault.{WordFault}
use Rattle.ci_words.specs.declared.order.Order.{Order}
use Rattle.ci_words.specs.Fault.{text_of as word_fault_text}
use Rattle.ci_words.specs.Order.{Orders}
use Rattle.ci_workload.specs.Workload.{workload_text}
use Rattle.ci_world.specs.World.{Origin}
use Rattle.ci_top.specs.declared.decision.FileFault.{FileFault}
use Rattle.ci_top.specs.declared.decision.FileFault.TheVariants as faults
use Rattle.ci_top.specs.declared.outcome.Outcome.{Outcome}
use Rattle.ci_top.specs.Asked.{AskFor, AskForWorkers, AskForUnbuilt, AsksRun}
use Rattle.ci_top.specs.Fetching.{Wanted}
use Rattle.ci_top.specs.Reading.{Texts, ComesTo, HasAll, names_told}

-- what an outcome keeps of a run
pub record Kept : Type 0 where
  pub history : List Entry
  pub loose : List Loose
  pub ending : Ending

abbrev pub kept_of : Outcome → Kept
kept_of outcome = record { history = outcome.history.entries; loose = outcome.loose; ending = outcome.ending }

-- there was no run
abbrev pub nothing_kept : Kept
nothing_kept = record { history = []; loose = []; ending = endings.NotRun }

-- the sources compile
abbrev pub Compiles : List (List ℕ) → Type 0
Compiles sources = (project : Project) × compiles sources project

-- What was read has this first fault, at this offset of the source of this name.
pub record IsRefused (words : List (List ℕ)) (files : Option Files) (name source : List ℕ) (fault : Fault) (offset : ℕ) : Type 0 where
  pub texts : Texts
  pub read : HasAll words files texts
  pub file : ℕ
  pub name_is : slice_get (names_told words read.asked) file ≡ Some name
  pub source_is : slice_get texts.sources file ≡ Some source
  pub refused : HasFirstFault texts.sources file fault offset

-- What was read for a run compiles, and its script has this first fault.
pub record IsScriptRefused (words : List (List ℕ)) (files : Option Files) (fault : ScriptFault) : Type 0 where
  pub texts : Texts
  pub read : HasAll words files texts
  pub size : Option ℕ
  pub runs : AsksRun read.asked size
  pub compiled : Compiles texts.sources
  pub refused : script_fault texts.script fault

-- What was read to be checked compiles.
pub record IsChecked (words : List (List ℕ)) (files : Option Files) : Type 0 where
  pub texts : Texts
  pub read : HasAll words files texts
  pub checks : read.asked.command ≡ commands.Check
  pub compiled : Compiles texts.sources

-- What was read to be listed compiles to this project.
pub record IsListed (words : List (List ℕ)) (files : Option Files) (project : Project) : Type 0 where
  pub texts : Texts
  pub read : HasAll words files texts
  pub lists : read.asked.command ≡ commands.List
  pub compiled : compiles texts.sources project

-- The words ask for a run, of files or of a workload of this size. What was read compiles to the origin's project, and its script has the
-- origin's events. What is kept is the round-robin run of this origin within the order's limits, which is a run of the preemptive
-- machine on the trees of the project; so many instructions led to its entries.
pub record IsRun (words : List (List ℕ)) (files : Option Files) (kept : Kept) (size : Option ℕ) (origin : Origin) (instructions : ℕ) : Type 0 where
  pub texts : Texts
  pub read : HasAll words files texts
  pub runs : AsksRun read.asked size
  pub compiled : compiles texts.sources origin.project
  pub scripted : events texts.script origin.events
  pub run : IsSerialRun origin read.asked.limits kept.history kept.loose instructions kept.ending

-- why an order is answered as it is
pub data Cause : Type 0 where
  words_refused : (fault : WordFault) → Cause
  workers_refused : (index : ℕ) → Cause
  order_not_built : Cause
  not_fetched : (fault : FileFault) → (number : ℕ) → (file : Wanted) → Cause
  source_refused : (name : List ℕ) → (source : List ℕ) → (fault : Fault) → (offset : ℕ) → Cause
  script_refused : (fault : ScriptFault) → Cause
  checked : Cause
  listed : (project : Project) → Cause
  no_memory : Cause
  ran : (size : Option ℕ) → (origin : Origin) → (instructions : ℕ) → Cause

-- a file isn't fetched: none has its name, the shelf's faults rose, or it is longer than its limit
abbrev pub FaultHolds : Option Files → ℕ → ℕ → FileFault → Wanted → Type 0
FaultHolds files before now faults.Absent file = LacksFile files file.name
FaultHolds files before now faults.ReadFault file = Rose before now
FaultHolds files before now faults.TooLong file = HasLongFile files file.name file.limit

-- the cause holds; nothing is kept but of a run
abbrev pub Holds : List (List ℕ) → Option Files → ℕ → ℕ → Kept → Cause → Type 0
Holds words files before now kept (words_refused fault) = (kept ≡ nothing_kept) × Orders words (Err fault)
Holds words files before now kept (workers_refused index) = (kept ≡ nothing_kept) × AskForWorkers words index
Holds words files before now kept order_not_built = (kept ≡ nothing_kept) × AskForUnbuilt words
Holds words files before now kept (not_fetched fault number file) =
    (kept ≡ nothing_kept) × ComesTo words files number file × FaultHolds files before now fault file
Holds words files before now kept (source_refused name source fault offset) = (kept ≡ nothing_kept) × IsRefused words files name source fault offset
Holds words files before now kept (script_refused fault) = (kept ≡ nothing_kept) × IsScriptRefused words files fault
Holds words files before now kept checked = (kept ≡ nothing_kept) × IsChecked words files
Holds words files before now kept (listed project) = (kept ≡ nothing_kept) × IsListed words files project
Holds words files before now kept no_memory = (kept ≡ nothing_kept) × (asked : Order) × AskFor words asked
Holds words files before now kept (ran size origin instructions) = IsRun words files kept size origin instructions

abbrev pub ending_status : Ending → ℕ
ending_status endings.Finished = 0
ending_status endings.Resting = 7
ending_status endings.Spent = 8
ending_status endings.NotRun = 0

abbrev pub fault_status : FileFault → ℕ
fault_status faults.Absent = 3
fault_status faults.ReadFault = 15
fault_status faults.TooLong = 9

-- the status of a cause
abbrev pub status_of : Kept → Cause → ℕ
status_of kept (words_refused fault) = 2
status_of kept (workers_refused index) = 2
status_of kept order_not_built = 2
status_of kept (not_fetched fault number file) = fault_status fault
status_of kept (source_refused name source fault offset) = 1
status_of kept (script_refused fault) = 4
status_of kept checked = 0
status_of kept (listed project) = 0
status_of kept no_memory = 6
status_of kept (ran size origin instructions) = ending_status kept.ending

abbrev pub fault_text : FileFault → List ℕ
fault_text faults.Absent = codes "absent"
fault_text faults.ReadFault = codes "read fault"
fault_text faults.TooLong = codes "too long"

abbrev pub words_text : WordFault → List ℕ
words_text fault = codes "words " ++ decimal fault.index ++ codes ": " ++ word_fault_text fault.number ++ codes "\n"

-- the fault of a number that is out of its range, at this word
abbrev pub out_of_range : ℕ → WordFault
out_of_range index = record { number = 6; index = index }

-- what is told of a file that isn't fetched
abbrev pub file_text : FileFault → ℕ → List ℕ → List ℕ
file_text fault number name = codes "file " ++ decimal number ++ codes " " ++ fault_text fault ++ codes ": " ++ name ++ codes "\n"

-- what is told of a source behind its name: the line and the column, and the fault there
abbrev pub told_text : Position → Fault → List ℕ
told_text at fault = codes ":" ++ decimal at.line ++ codes ":" ++ decimal at.column ++ codes ": " ++ source_fault_text fault ++ codes "\n"

abbrev pub line_text : ℕ → List ℕ → List ℕ
line_text line words = codes "script line " ++ decimal line ++ codes ": " ++ words ++ codes "\n"

abbrev pub memory_text : List ℕ
memory_text = codes "out of memory\n"

-- what is told of a script; want of memory is no fault of one
abbrev pub script_text : ScriptFault → List ℕ
script_text (script_faults.UnknownEvent line) = line_text line (codes "unknown event")
script_text (script_faults.BadArgument line) = line_text line (codes "bad argument")
script_text script_faults.TooManyLines = line_text (suc MOST_SCRIPT_LINES) (codes "too many lines")
script_text script_faults.Memory = memory_text

-- what is told of a workload of this size, whose source has so many bytes
abbrev pub made_line : ℕ → ℕ → List ℕ
made_line size bytes = codes "made " ++ decimal size ++ codes " bytes " ++ decimal bytes ++ codes "\n"

-- what is told of the run of such a workload: that it was made, and the line that closes a report
abbrev pub made_text : ℕ → ℕ → List Entry → EndState → List ℕ
made_text size bytes history end = made_line size bytes ++ closing_line (length history) end.work end.instructions end.ending

-- what is told of a run of files or of a workload
abbrev pub run_text : Option ℕ → List Entry → EndState → List ℕ
run_text None history end = report_text history end
run_text (Some size) history end = made_text size (length (workload_text size)) history end

-- the text of a cause
abbrev pub text_of : Kept → Cause → List ℕ
text_of kept (words_refused fault) = words_text fault
text_of kept (workers_refused index) = words_text (out_of_range index)
text_of kept order_not_built = codes "words 0: form not built\n"
text_of kept (not_fetched fault number file) = file_text fault number file.name
text_of kept (source_refused name source fault offset) = name ++ told_text (place source offset) fault
text_of kept (script_refused fault) = script_text fault
text_of kept checked = codes "ok\n"
text_of kept (listed project) = listing (translation project)
text_of kept no_memory = memory_text
text_of kept (ran size origin instructions) = run_text size kept.history (end_state origin kept.history kept.loose instructions kept.ending)

-- the text was put whole, and the status is the one that is due; or a put failed, a front of the text was put, and the status is 5
abbrev pub Delivers : {K : Type 0} → (K → Option (List ℕ)) → (K → ℕ) → K → K → ℕ → List ℕ → ℕ → Type 0
Delivers bytes faults before after due text status =
    ((status ≡ due) × Appends (bytes before) (bytes after) text)
    ⊎ ((status ≡ 5) × Rose (faults before) (faults after) × AppendsFront (bytes before) (bytes after) text)

-- The answer of an order has a cause that holds. Its text and status are those of the cause, unless a put failed.
pub record Answers {S K : Type 0} (files : S → Option Files) (shelf_faults : S → ℕ) (bytes : K → Option (List ℕ)) (sink_faults : K → ℕ) (words : List (List ℕ)) (shelf shelf_after : S) (out out_after : K) (outcome : Outcome) : Type 0 where
  pub cause : Cause
  pub holds : Holds words (files shelf) (shelf_faults shelf) (shelf_faults shelf_after) (kept_of outcome) cause
  pub delivers : Delivers bytes sink_faults out out_after (status_of (kept_of outcome) cause) (text_of (kept_of outcome) cause) outcome.status
