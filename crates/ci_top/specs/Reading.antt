-- What an order works on.
use Rattle.std.specs.Prelude.{◌≡◌, ℕ, List, [], ◌∷◌, codes, Option}
use Rattle.ci_outside.specs.Shelf.{Files}
use Rattle.ci_words.specs.declared.command.Command.{Command}
use Rattle.ci_words.specs.declared.command.Command.TheVariants as commands
use Rattle.ci_words.specs.declared.order.Order.{Order}
use Rattle.ci_workload.specs.Workload.{workload_text, script_text}
use Rattle.ci_top.specs.Asked.{names_of, wanted_of, wanted_sources, wanted_scripts, AskFor}
use Rattle.ci_top.specs.Defaults.{script_of}
use Rattle.ci_top.specs.Fetching.{Wanted, Fetched, IsNext}

-- sources, and the text of a script
pub record Texts : Type 0 where
  pub sources : List (List ℕ)
  pub script : List ℕ

-- the workload of this size
abbrev pub made_texts : ℕ → Texts
made_texts size = record { sources = workload_text size ∷ []; script = script_text size }

-- the sources that were fetched, and the script that was, if one is named
abbrev pub fetched_texts : List (List ℕ) → List (List ℕ) → Texts
fetched_texts sources scripts = record { sources = sources; script = script_of scripts }

-- `make` works on a workload, and each other command on its files
abbrev pub texts_by : Command → ℕ → Texts → Texts
texts_by commands.Run size fetched = fetched
texts_by commands.Check size fetched = fetched
texts_by commands.List size fetched = fetched
texts_by commands.Replay size fetched = fetched
texts_by commands.Make size fetched = made_texts size

-- the names by which faults of sources are told: those of the files, and the command's own where it has none
abbrev pub names_by : Command → List (List ℕ) → List (List ℕ)
names_by commands.Run names = names
names_by commands.Check names = names
names_by commands.List names = names
names_by commands.Replay names = names
names_by commands.Make names = codes "make" ∷ []

abbrev pub names_told : List (List ℕ) → Order → List (List ℕ)
names_told words asked = names_by asked.command (names_of words asked)

-- the words ask for an order, and of the files that it wants, this one of this number is the next to be fetched
pub record ComesTo (words : List (List ℕ)) (files : Option Files) (number : ℕ) (file : Wanted) : Type 0 where
  pub asked : Order
  pub asks : AskFor words asked
  pub next : IsNext files (wanted_of words asked) number file

-- the words ask for an order, all files that it wants were fetched, and this is what it works on
pub record HasAll (words : List (List ℕ)) (files : Option Files) (texts : Texts) : Type 0 where
  pub asked : Order
  pub asks : AskFor words asked
  pub sources : List (List ℕ)
  pub sources_fetched : Fetched files (wanted_sources words asked) sources
  pub scripts : List (List ℕ)
  pub scripts_fetched : Fetched files (wanted_scripts words asked) scripts
  pub texts_are : texts ≡ texts_by asked.command asked.number (fetched_texts sources scripts)
