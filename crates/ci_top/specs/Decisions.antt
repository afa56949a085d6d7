-- What becomes of an order: what is kept of it, its text and its status.
use Rattle.std.specs.Prelude.{◌≡◌, ℕ, List, [], ◌∷◌, ◌++◌, length, Option, None, Some, Err, ◌⊎◌, slice_get}
use Rattle.std.specs.Borrow.{Bor}
use Rattle.ci_base.specs.Places.{place}
use Rattle.ci_base.specs.declared.bounds.TheConstants.{MOST_SCRIPT_BYTES}
use Rattle.ci_base.specs.declared.entry.Entry.{Entry}
use Rattle.ci_base.specs.declared.limits.Limits.{Limits}
use Rattle.ci_base.specs.declared.position.Position.{Position}
use Rattle.ci_history.specs.declared.end.EndState.{EndState}
use Rattle.ci_history.specs.Report.{report_text}
use Rattle.ci_outside.specs.Shelf.{Files}
use Rattle.ci_outside.specs.declared.shelf.Fetch.{Fetch}
use Rattle.ci_outside.specs.declared.shelf.Fetch.TheVariants as fetches
use Rattle.ci_runtime.specs.declared.ended.Ended.{Ended}
use Rattle.ci_runtime.specs.Runs.{IsRun}
use Rattle.ci_script.specs.Scripts.{events, script_fault}
use Rattle.ci_source.specs.declared.fault.Fault.{Fault}
use Rattle.ci_source.specs.Compiling.{compiles, HasFirstFault}
use Rattle.ci_tree.specs.Bound.{Project}
use Rattle.ci_tree.specs.SeenBound.{project_of}
use Rattle.ci_words.specs.declared.command.Command.{Command}
use Rattle.ci_words.specs.declared.command.Command.TheVariants as commands
use Rattle.ci_words.specs.declared.order.Order.{Order}
use Rattle.ci_words.specs.Order.{Orders}
use Rattle.ci_words.specs.Role.{word_at}
use Rattle.ci_world.specs.World.{Origin}
use Rattle.ci_top.specs.declared.accept.Job.{Job}
use Rattle.ci_top.specs.declared.accept.Job.TheVariants as jobs
use Rattle.ci_top.specs.declared.decision.Decision.{Decision}
use Rattle.ci_top.specs.declared.decision.Decision.TheVariants as decisions
use Rattle.ci_top.specs.declared.decision.FileFault.TheVariants as faults
use Rattle.ci_top.specs.declared.decision.Made.{Made}
use Rattle.ci_top.specs.Answers.{Kept, nothing_kept, Cause, words_refused, order_not_built, script_refused, checked, listed, no_memory, Holds, FaultHolds, status_of, text_of, told_text, file_text, made_text, out_of_range, ending_status, fault_status}
use Rattle.ci_top.specs.Asked.{AskForWorkers, AskForUnbuilt, wanted_sources, wanted_scripts}
use Rattle.ci_top.specs.Fetching.{Wanted, Fetched, IsNext}
use Rattle.ci_top.specs.Reading.{Texts, fetched_texts, made_texts}

-- what is kept of a run
abbrev pub kept_of_run : Ended → Kept
kept_of_run ended = record { history = ended.history.entries; loose = ended.loose; ending = ended.end.ending }

-- what is told of the run of a workload, or of files
abbrev pub told_run : Option Made → List Entry → EndState → List ℕ
told_run None history end = report_text history end
told_run (Some made) history end = made_text made.size made.bytes history end

-- what is kept
abbrev pub decision_kept : Decision → Kept
decision_kept (decisions.WordsRefused fault) = nothing_kept
decision_kept decisions.OrderNotBuilt = nothing_kept
decision_kept (decisions.NotFetched fault number name) = nothing_kept
decision_kept (decisions.SourceRefused name fault at) = nothing_kept
decision_kept (decisions.ScriptRefused fault) = nothing_kept
decision_kept decisions.Checked = nothing_kept
decision_kept (decisions.Listed program) = nothing_kept
decision_kept decisions.NoMemory = nothing_kept
decision_kept (decisions.Ran made ended) = kept_of_run ended

-- the text, which is that of the cause
abbrev pub decision_text : Decision → List ℕ
decision_text (decisions.WordsRefused fault) = text_of nothing_kept (words_refused fault)
decision_text decisions.OrderNotBuilt = text_of nothing_kept order_not_built
decision_text (decisions.NotFetched fault number name) = file_text fault number name.now
decision_text (decisions.SourceRefused name fault at) = name.now ++ told_text at fault
decision_text (decisions.ScriptRefused fault) = text_of nothing_kept (script_refused fault)
decision_text decisions.Checked = text_of nothing_kept checked
decision_text (decisions.Listed program) = text_of nothing_kept (listed (project_of program))
decision_text decisions.NoMemory = text_of nothing_kept no_memory
decision_text (decisions.Ran made ended) = told_run made ended.history.entries ended.end

-- the status, which is that of the cause
abbrev pub decision_status : Decision → ℕ
decision_status (decisions.WordsRefused fault) = status_of nothing_kept (words_refused fault)
decision_status decisions.OrderNotBuilt = status_of nothing_kept order_not_built
decision_status (decisions.NotFetched fault number name) = fault_status fault
decision_status (decisions.SourceRefused name fault at) = 1
decision_status (decisions.ScriptRefused fault) = status_of nothing_kept (script_refused fault)
decision_status decisions.Checked = status_of nothing_kept checked
decision_status (decisions.Listed program) = status_of nothing_kept (listed (project_of program))
decision_status decisions.NoMemory = status_of nothing_kept no_memory
decision_status (decisions.Ran made ended) = ending_status ended.end.ending

-- The decision has a cause that holds, and its kept values, its text and its status are those of the cause.
pub record Decided (words : List (List ℕ)) (files : Option Files) (before now : ℕ) (decision : Decision) : Type 0 where
  pub cause : Cause
  pub holds : Holds words files before now (decision_kept decision) cause
  pub text_is : decision_text decision ≡ text_of (decision_kept decision) cause
  pub status_is : decision_status decision ≡ status_of (decision_kept decision) cause

-- what becomes of words that are refused
abbrev pub RefusesWords : List (List ℕ) → Decision → Type 0
RefusesWords words (decisions.WordsRefused fault) = Orders words (Err fault) ⊎ ((index : ℕ) × AskForWorkers words index × (fault ≡ out_of_range index))
RefusesWords words decisions.OrderNotBuilt = AskForUnbuilt words
RefusesWords words _ = ⊥

-- what becomes of an order whose file of this number and name isn't fetched
abbrev pub decision_of_fetch : Fetch → ℕ → Bor (List ℕ) → Decision
decision_of_fetch fetches.Absent number name = decisions.NotFetched faults.Absent number name
decision_of_fetch fetches.Failed number name = decisions.NotFetched faults.ReadFault number name
decision_of_fetch fetches.TooLong number name = decisions.NotFetched faults.TooLong number name
decision_of_fetch fetches.Memory number name = decisions.NoMemory

-- this file of this number isn't fetched, which is told; or there was no memory
abbrev pub StopsAt : Option Files → ℕ → ℕ → ℕ → Wanted → Decision → Type 0
StopsAt files before now number file (decisions.NotFetched fault told name) =
    (told ≡ number) × (file.name ≡ name.now) × FaultHolds files before now fault file
StopsAt files before now number file decisions.NoMemory = Unit {0}
StopsAt files before now number file _ = ⊥

-- the script at this index, if there is one, isn't fetched
abbrev pub StopsScript : Option Files → ℕ → ℕ → ℕ → List (List ℕ) → Option ℕ → Decision → Type 0
StopsScript files before now number words None decision = ⊥
StopsScript files before now number words (Some at) decision =
    StopsAt files before now number (record { name = word_at words at; limit = MOST_SCRIPT_BYTES }) decision

-- of the wanted files, the first that isn't fetched is told; or there was no memory
abbrev pub StopsFetching : Option Files → ℕ → ℕ → List Wanted → Decision → Type 0
StopsFetching files before now wanted (decisions.NotFetched fault number name) =
    (file : Wanted) × (file.name ≡ name.now) × IsNext files wanted number file × FaultHolds files before now fault file
StopsFetching files before now wanted decisions.NoMemory = Unit {0}
StopsFetching files before now wanted _ = ⊥

-- the first fault of the sources is told, by the name that it has and its place in its source
pub record TellsFault (names sources : List (List ℕ)) (name : List ℕ) (fault : Fault) (at : Position) : Type 0 where
  pub file : ℕ
  pub offset : ℕ
  pub source : List ℕ
  pub name_is : slice_get names file ≡ Some name
  pub source_is : slice_get sources file ≡ Some source
  pub refused : HasFirstFault sources file fault offset
  pub at_is : at ≡ place source offset

-- a workload of this size, whose source has so many bytes
abbrev pub made : ℕ → ℕ → Made
made size bytes = record { size = size; bytes = bytes }

-- what was made where this size was asked for: its source is the first that was read
abbrev pub made_from : Option ℕ → List (List ℕ) → Option Made
made_from None sources = None
made_from (Some size) [] = None
made_from (Some size) (source ∷ rest) = Some (made size (length source))

-- what becomes of a run of this project with this script within these limits
abbrev pub OfRun : Option ℕ → Limits → Texts → Project → Decision → Type 0
OfRun size limits texts project (decisions.ScriptRefused fault) = script_fault texts.script fault
OfRun size limits texts project decisions.NoMemory = Unit {0}
OfRun size limits texts project (decisions.Ran made ended) =
    (made ≡ made_from size texts.sources)
    × ((origin : Origin) × (origin.project ≡ project) × events texts.script origin.events × IsRun origin limits ended)
OfRun size limits texts project _ = ⊥

-- what becomes of the listing of this project
abbrev pub OfList : Project → Decision → Type 0
OfList project (decisions.Listed program) = project_of program ≡ project
OfList project decisions.NoMemory = Unit {0}
OfList project _ = ⊥

-- what becomes of a job over a project
abbrev pub OfProject : Job → Limits → Texts → Project → Decision → Type 0
OfProject (jobs.Run size) limits texts project decision = OfRun size limits texts project decision
OfProject jobs.Check limits texts project decision = decision ≡ decisions.Checked
OfProject jobs.List limits texts project decision = OfList project decision

-- the first fault of the sources is told
abbrev pub TellsSource : List (List ℕ) → List (List ℕ) → Decision → Type 0
TellsSource names sources (decisions.SourceRefused name fault at) = TellsFault names sources name.now fault at
TellsSource names sources _ = ⊥

-- what becomes of a job over what was read: there was no memory, the first fault is told by one of these names, or it compiles
abbrev pub OfTexts : Job → Limits → List (List ℕ) → Texts → Decision → Type 0
OfTexts job limits names texts decision =
    (decision ≡ decisions.NoMemory)
    ⊎ (TellsSource names texts.sources decision ⊎ ((project : Project) × compiles texts.sources project × OfProject job limits texts project decision))

-- what an order that names these files works on was fetched
pub record IsFetched (words : List (List ℕ)) (files : Option Files) (asked : Order) (texts : Texts) : Type 0 where
  pub sources : List (List ℕ)
  pub sources_fetched : Fetched files (wanted_sources words asked) sources
  pub scripts : List (List ℕ)
  pub scripts_fetched : Fetched files (wanted_scripts words asked) scripts
  pub texts_are : texts ≡ fetched_texts sources scripts

-- what an order of this command works on: a workload of its size, or what was fetched
abbrev pub IsReadBy : Command → List (List ℕ) → Option Files → Order → Texts → Type 0
IsReadBy commands.Run words files asked texts = IsFetched words files asked texts
IsReadBy commands.Check words files asked texts = IsFetched words files asked texts
IsReadBy commands.List words files asked texts = IsFetched words files asked texts
IsReadBy commands.Replay words files asked texts = IsFetched words files asked texts
IsReadBy commands.Make words files asked texts = texts ≡ made_texts asked.number
