-- What the top call promises follows from its answer.
use Rattle.std.proofs.Common.{◌≡◌, ℕ, List, Option, Some, ◌⊎◌}
use Rattle.ci_outside.specs.Shelf.{Files}
use Rattle.ci_source.specs.Laws.{NeverBothMeanings}
use Rattle.ci_words.specs.declared.command.Command.TheVariants as commands
use Rattle.ci_top.specs.declared.outcome.Outcome.{Outcome}
use Rattle.ci_top.specs.Answers.{Answers}
use Rattle.ci_top.specs.Asked.{AreRefused, command_of}
use Rattle.ci_top.specs.Doing.{DoesOrder}
use Rattle.ci_top.proofs.Plain.{reported_lem, made_lem, checked_lem, shown_lem, done_lem, finished_lem, resting_lem, spent_lem, write_fault_lem, read_fault_lem, words_lem, words_always_lem, check_answers_lem, list_answers_lem, run_answers_lem, make_answers_lem, memory_lem, refused_lem}

pub does_order : NeverBothMeanings → {S K : Type 0} (files : S → Option Files) (shelf_faults : S → ℕ) (bytes : K → Option (List ℕ)) (sink_faults : K → ℕ) (words : List (List ℕ)) (shelf shelf_after : S) (out out_after : K) (outcome : Outcome)
    → Answers files shelf_faults bytes sink_faults words shelf shelf_after out out_after outcome → files shelf_after ≡ files shelf → (AreRefused words ⊎ (command_of words ≡ Some commands.Make) → shelf_after ≡ shelf)
    → DoesOrder files shelf_faults bytes sink_faults words shelf shelf_after out out_after outcome
does_order never_both files shelf_faults bytes sink_faults words shelf shelf_after out out_after outcome answer kept unfetched = record {
  answer = answer;
  contents = kept;
  reported = reported_lem files shelf_faults bytes sink_faults words shelf shelf_after out out_after outcome answer;
  made = made_lem files shelf_faults bytes sink_faults words shelf shelf_after out out_after outcome answer;
  checked = checked_lem files shelf_faults bytes sink_faults words shelf shelf_after out out_after outcome answer;
  shown = shown_lem files shelf_faults bytes sink_faults words shelf shelf_after out out_after outcome answer;
  done = done_lem files shelf_faults bytes sink_faults words shelf shelf_after out out_after outcome answer;
  finished = finished_lem files shelf_faults bytes sink_faults words shelf shelf_after out out_after outcome answer;
  resting = resting_lem files shelf_faults bytes sink_faults words shelf shelf_after out out_after outcome answer;
  spent = spent_lem files shelf_faults bytes sink_faults words shelf shelf_after out out_after outcome answer;
  write_fault = write_fault_lem files shelf_faults bytes sink_faults words shelf shelf_after out out_after outcome answer;
  read_fault = read_fault_lem files shelf_faults bytes sink_faults words shelf shelf_after out out_after outcome answer;
  words = words_lem files shelf_faults bytes sink_faults words shelf shelf_after out out_after outcome answer;
  words_always = words_always_lem files shelf_faults bytes sink_faults words shelf shelf_after out out_after outcome answer;
  unfetched = unfetched;
  check_answers = check_answers_lem never_both files shelf_faults bytes sink_faults words shelf shelf_after out out_after outcome answer;
  list_answers = list_answers_lem never_both files shelf_faults bytes sink_faults words shelf shelf_after out out_after outcome answer;
  run_answers = run_answers_lem never_both files shelf_faults bytes sink_faults words shelf shelf_after out out_after outcome answer;
  make_answers = make_answers_lem never_both files shelf_faults bytes sink_faults words shelf shelf_after out out_after outcome answer;
  memory = memory_lem files shelf_faults bytes sink_faults words shelf shelf_after out out_after outcome answer;
  refused = refused_lem files shelf_faults bytes sink_faults words shelf shelf_after out out_after outcome answer;
}
