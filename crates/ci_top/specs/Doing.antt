-- What the top call promises of every order.
use Rattle.std.specs.Prelude.{◌≡◌, ℕ, List, Option, None, Some, ◌⊎◌}
use Rattle.ci_base.specs.declared.limits.Ending.TheVariants as endings
use Rattle.ci_outside.specs.Causes.{Rose}
use Rattle.ci_outside.specs.Shelf.{Files}
use Rattle.ci_words.specs.declared.command.Command.TheVariants as commands
use Rattle.ci_top.specs.declared.outcome.Outcome.{Outcome}
use Rattle.ci_top.specs.Answers.{Answers}
use Rattle.ci_top.specs.Asked.{AreRefused, command_of}
use Rattle.ci_top.specs.Plain.{CanCheck, CanList, CanMake, CanRunAll, IsApproved, IsAtRest, IsReported, IsShown, IsSpent, IsRunStatus, KeepsNothing}

-- The call did the order of the given words: what its outcome says of the shelf and the sink, before it and after it. The first field
-- says all of an answer; those behind it say the main of it once more, for readers who skip the definitions.
pub record DoesOrder {S K : Type 0} (files : S → Option Files) (shelf_faults : S → ℕ) (bytes : K → Option (List ℕ)) (sink_faults : K → ℕ) (given : List (List ℕ)) (shelf shelf_after : S) (out out_after : K) (outcome : Outcome) : Type 0 where
  pub answer : Answers files shelf_faults bytes sink_faults given shelf shelf_after out out_after outcome
  pub contents : files shelf_after ≡ files shelf
  -- Status 0 of `run` tells the round-robin run of the project, which has finished, and its report was put; that of `make` the same of
  -- a workload. Status 0 of `check` tells that what was read compiles, and that of `list` this too, and that the listing of its code
  -- was put. No other command has it.
  pub reported : outcome.status ≡ 0 → command_of given ≡ Some commands.Run → IsReported given (files shelf) None (bytes out) (bytes out_after) outcome
  pub made : outcome.status ≡ 0 → command_of given ≡ Some commands.Make → (size : ℕ) × IsReported given (files shelf) (Some size) (bytes out) (bytes out_after) outcome
  pub checked : outcome.status ≡ 0 → command_of given ≡ Some commands.Check → IsApproved given (files shelf) (bytes out) (bytes out_after)
  pub shown : outcome.status ≡ 0 → command_of given ≡ Some commands.List → IsShown given (files shelf) (bytes out) (bytes out_after)
  pub done : outcome.status ≡ 0 → (command_of given ≡ Some commands.Run) ⊎ ((command_of given ≡ Some commands.Make) ⊎ ((command_of given ≡ Some commands.Check) ⊎ (command_of given ≡ Some commands.List)))
  -- After a run with status 0 or 7 nothing more can happen; with status 8 at most 100 of its budget is left.
  pub finished : outcome.status ≡ 0 → (command_of given ≡ Some commands.Run) ⊎ (command_of given ≡ Some commands.Make) → IsAtRest given (files shelf) outcome
  pub resting : outcome.status ≡ 7 → IsAtRest given (files shelf) outcome
  pub spent : outcome.status ≡ 8 → IsSpent given (files shelf) outcome
  -- No fault is made up.
  pub write_fault : outcome.status ≡ 5 → Rose (sink_faults out) (sink_faults out_after)
  pub read_fault : outcome.status ≡ 15 → Rose (shelf_faults shelf) (shelf_faults shelf_after)
  -- Status 2 comes exactly where the words have a fault, name workers above 0 or ask for what isn't built, unless a put fails. No
  -- file is fetched then, nor by `make`.
  pub words : outcome.status ≡ 2 → AreRefused given
  pub words_always : AreRefused given → (outcome.status ≡ 2) ⊎ (outcome.status ≡ 5)
  pub unfetched : AreRefused given ⊎ (command_of given ≡ Some commands.Make) → shelf_after ≡ shelf
  -- Files that are there and compile are checked, listed or run, and a workload is made, where no call fails outside and there is
  -- memory.
  pub check_answers : CanCheck given (files shelf) → (Rose (shelf_faults shelf) (shelf_faults shelf_after) → ⊥) → (Rose (sink_faults out) (sink_faults out_after) → ⊥) → (outcome.status ≡ 0) ⊎ (outcome.status ≡ 6)
  pub list_answers : CanList given (files shelf) → (Rose (shelf_faults shelf) (shelf_faults shelf_after) → ⊥) → (Rose (sink_faults out) (sink_faults out_after) → ⊥) → (outcome.status ≡ 0) ⊎ (outcome.status ≡ 6)
  pub run_answers : CanRunAll given (files shelf) → (Rose (shelf_faults shelf) (shelf_faults shelf_after) → ⊥) → (Rose (sink_faults out) (sink_faults out_after) → ⊥) → IsRunStatus outcome.status ⊎ (outcome.status ≡ 6)
  pub make_answers : CanMake given → (Rose (sink_faults out) (sink_faults out_after) → ⊥) → IsRunStatus outcome.status ⊎ (outcome.status ≡ 6)
  -- With status 6, want of memory, no run is told; where none is told, nothing is kept.
  pub memory : outcome.status ≡ 6 → outcome.ending ≡ endings.NotRun
  pub refused : outcome.ending ≡ endings.NotRun → KeepsNothing outcome
