-- What the words ask for, and what of that can be done.
use Rattle.std.specs.Prelude.{◌≡◌, ℕ, ◌<◌, Bool, true, false, not, List, [], ◌∷◌, ◌++◌, map, Option, None, Some, Ok, Err, ◌⊎◌}
use Rattle.ci_base.specs.declared.bounds.TheConstants.{MOST_SCRIPT_BYTES, MOST_SOURCE_BYTES}
use Rattle.ci_words.specs.declared.command.Command.{Command}
use Rattle.ci_words.specs.declared.command.Command.TheVariants as commands
use Rattle.ci_words.specs.declared.fault.WordFault.{WordFault}
use Rattle.ci_words.specs.declared.order.Order.{Order}
use Rattle.ci_words.specs.Command.{command_named}
use Rattle.ci_words.specs.Order.{Orders}
use Rattle.ci_words.specs.Role.{word_at}
use Rattle.ci_top.specs.declared.accept.Job.{Job}
use Rattle.ci_top.specs.declared.accept.Job.TheVariants as jobs
use Rattle.ci_top.specs.Fetching.{Wanted, each_within}

-- the command that the first word spells, if it spells one
abbrev pub command_of : List (List ℕ) → Option Command
command_of words = command_named (word_at words 0)

-- the words at these indexes
abbrev pub words_at : List (List ℕ) → List ℕ → List (List ℕ)
words_at words indexes = map (word_at words) indexes

-- the names of the sources of an order
abbrev pub names_of : List (List ℕ) → Order → List (List ℕ)
names_of words asked = words_at words asked.files

-- what there is, as a list
abbrev pub as_list : {X : Type 0} → Option X → List X
as_list None = []
as_list (Some x) = x ∷ []

-- the sources that an order wants
abbrev pub wanted_sources : List (List ℕ) → Order → List Wanted
wanted_sources words asked = each_within MOST_SOURCE_BYTES (names_of words asked)

-- and its script, if it names one
abbrev pub wanted_scripts : List (List ℕ) → Order → List Wanted
wanted_scripts words asked = each_within MOST_SCRIPT_BYTES (words_at words (as_list asked.script))

-- the files that an order wants, in the order in which they are fetched: its sources and then its script
abbrev pub wanted_of : List (List ℕ) → Order → List Wanted
wanted_of words asked = wanted_sources words asked ++ wanted_scripts words asked

-- what is built of a command: all but the journals
abbrev pub is_built_of : Command → Order → Bool
is_built_of commands.Run asked = not asked.as_journal
is_built_of commands.Check asked = true
is_built_of commands.List asked = true
is_built_of commands.Replay asked = false
is_built_of commands.Make asked = true

abbrev pub is_built : Order → Bool
is_built asked = is_built_of asked.command asked

-- the order asks for a run of files, or for one of a workload of this size
abbrev pub AsksRun : Order → Option ℕ → Type 0
AsksRun asked None = asked.command ≡ commands.Run
AsksRun asked (Some size) = (asked.command ≡ commands.Make) × (asked.number ≡ size)

-- the order asks for this job
abbrev pub AsksJob : Order → Job → Type 0
AsksJob asked (jobs.Run size) = AsksRun asked size
AsksJob asked jobs.Check = asked.command ≡ commands.Check
AsksJob asked jobs.List = asked.command ≡ commands.List

-- the words ask for this order, which is built and has no worker threads
pub record AskFor (words : List (List ℕ)) (asked : Order) : Type 0 where
  pub words_are : Orders words (Ok asked)
  pub alone : asked.limits.workers ≡ 0
  pub built : is_built asked ≡ true

-- the words ask for worker threads, whose number is the word at this index
pub record AskForWorkers (words : List (List ℕ)) (index : ℕ) : Type 0 where
  pub asked : Order
  pub words_are : Orders words (Ok asked)
  pub some : 0 < asked.limits.workers
  pub index_is : asked.workers_at ≡ Some index

-- the words ask for an order without worker threads that isn't built
pub record AskForUnbuilt (words : List (List ℕ)) : Type 0 where
  pub asked : Order
  pub words_are : Orders words (Ok asked)
  pub alone : asked.limits.workers ≡ 0
  pub unbuilt : is_built asked ≡ false

-- the words have a fault, or ask for worker threads, or for an order that isn't built
abbrev pub AreRefused : List (List ℕ) → Type 0
AreRefused words = ((fault : WordFault) × Orders words (Err fault)) ⊎ (((index : ℕ) × AskForWorkers words index) ⊎ AskForUnbuilt words)
