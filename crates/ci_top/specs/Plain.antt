-- What the contract of the top call says in the main, for its reader.
use Rattle.std.specs.Prelude.{◌≡◌, ℕ, ◌-◌, ◌≤◌, List, [], ◌∷◌, codes, Option, Some, Ok, ◌⊎◌}
use Rattle.std.specs.Io.KnownBytes.{Appends}
use Rattle.ci_base.specs.declared.event.Event.{Event}
use Rattle.ci_base.specs.declared.limits.Ending.TheVariants as endings
use Rattle.ci_outside.specs.Shelf.{Files}
use Rattle.ci_runtime.specs.EndStates.{end_state}
use Rattle.ci_script.specs.Scripts.{events}
use Rattle.ci_words.specs.declared.command.Command.TheVariants as commands
use Rattle.ci_words.specs.declared.order.Order.{Order}
use Rattle.ci_words.specs.Order.{Orders}
use Rattle.ci_listing.specs.Listing.{listing}
use Rattle.ci_translation.specs.Translation.{translation}
use Rattle.ci_tree.specs.Bound.{Project}
use Rattle.ci_workload.specs.Workload.{workload_text, script_text}
use Rattle.ci_world.specs.Work.{work, IsFinished}
use Rattle.ci_world.specs.World.{Origin}
use Rattle.ci_top.specs.declared.outcome.Outcome.{Outcome}
use Rattle.ci_top.specs.Answers.{Compiles, IsChecked, IsListed, IsRun, kept_of, run_text}
use Rattle.ci_top.specs.Asked.{AskFor, wanted_sources, wanted_scripts}
use Rattle.ci_top.specs.Defaults.{script_of}
use Rattle.ci_top.specs.Fetching.{Fetched}

-- The history is the round-robin run of what was read: of files, or of a workload of this size.
pub record IsRunOf (words : List (List ℕ)) (files : Option Files) (size : Option ℕ) (outcome : Outcome) : Type 0 where
  pub origin : Origin
  pub instructions : ℕ
  pub run : IsRun words files (kept_of outcome) size origin instructions

-- This run has finished, and its text was put: the report, or what is told of a workload.
pub record IsReported (words : List (List ℕ)) (files : Option Files) (size : Option ℕ) (before after : Option (List ℕ)) (outcome : Outcome) : Type 0 where
  pub of : IsRunOf words files size outcome
  pub finished : outcome.ending ≡ endings.Finished
  pub put : Appends before after (run_text size outcome.history.entries (end_state of.origin outcome.history.entries outcome.loose of.instructions outcome.ending))

-- After this run no event is left, and no task can make a step.
pub record IsAtRest (words : List (List ℕ)) (files : Option Files) (outcome : Outcome) : Type 0 where
  pub size : Option ℕ
  pub of : IsRunOf words files size outcome
  pub rests : IsFinished of.run.run.serial.world.common

-- This run has at most 100 of its budget left.
pub record IsSpent (words : List (List ℕ)) (files : Option Files) (outcome : Outcome) : Type 0 where
  pub size : Option ℕ
  pub of : IsRunOf words files size outcome
  pub rest : of.run.read.asked.limits.budget - work outcome.history.entries outcome.loose ≤ 100

-- What was read compiles, and this was put.
pub record IsApproved (words : List (List ℕ)) (files : Option Files) (before after : Option (List ℕ)) : Type 0 where
  pub checked : IsChecked words files
  pub put : Appends before after (codes "ok\n")

-- What was read compiles, and the listing of its project's code was put, and nothing else.
pub record IsShown (words : List (List ℕ)) (files : Option Files) (before after : Option (List ℕ)) : Type 0 where
  pub project : Project
  pub listed : IsListed words files project
  pub put : Appends before after (listing (translation project))

-- nothing is kept
pub record KeepsNothing (outcome : Outcome) : Type 0 where
  pub history : outcome.history.entries ≡ []
  pub loose : outcome.loose ≡ []

-- The shelf tells its files and has each that the order wants, within its limit: its sources, and its script, if it names one.
pub record AreThere (words : List (List ℕ)) (asked : Order) (files : Option Files) : Type 0 where
  pub told : Files
  pub tells : files ≡ Some told
  pub sources : List (List ℕ)
  pub sources_there : Fetched files (wanted_sources words asked) sources
  pub scripts : List (List ℕ)
  pub scripts_there : Fetched files (wanted_scripts words asked) scripts

-- The words are in order and ask to check files; these are there, and compile.
pub record CanCheck (words : List (List ℕ)) (files : Option Files) : Type 0 where
  pub asked : Order
  pub words_are : Orders words (Ok asked)
  pub checks : asked.command ≡ commands.Check
  pub there : AreThere words asked files
  pub compiled : Compiles there.sources

-- The words are in order and ask to list files; these are there, and compile.
pub record CanList (words : List (List ℕ)) (files : Option Files) : Type 0 where
  pub asked : Order
  pub words_are : Orders words (Ok asked)
  pub lists : asked.command ≡ commands.List
  pub there : AreThere words asked files
  pub compiled : Compiles there.sources

-- The words ask for a run that can be done; its files are there; the sources compile, and the script is in its grammar.
pub record CanRunAll (words : List (List ℕ)) (files : Option Files) : Type 0 where
  pub asked : Order
  pub asks : AskFor words asked
  pub runs : asked.command ≡ commands.Run
  pub there : AreThere words asked files
  pub compiled : Compiles there.sources
  pub script : List Event
  pub scripted : events (script_of there.scripts) script

-- The words ask for a workload that can be made; its source compiles, and its script is in its grammar.
pub record CanMake (words : List (List ℕ)) : Type 0 where
  pub asked : Order
  pub asks : AskFor words asked
  pub makes : asked.command ≡ commands.Make
  pub compiled : Compiles (workload_text asked.number ∷ [])
  pub script : List Event
  pub scripted : events (script_text asked.number) script

-- the status of a run that finished, rests or is spent
abbrev pub IsRunStatus : ℕ → Type 0
IsRunStatus status = (status ≡ 0) ⊎ ((status ≡ 7) ⊎ (status ≡ 8))
