-- The plain clauses of the top call follow from its contract.
use Rattle.std.proofs.Common.{◌≡◌, ℕ, ◌-◌, ◌≤◌, true, List, ◌∷◌, ◌++◌, [], Option, None, Some, refl, sym, ◌∙◌, ap, subst, arith, ◌⊎◌, inl, inr}
use Rattle.std.specs.Io.KnownBytes.{Appends}
use Rattle.ci_base.specs.declared.limits.Ending.{Ending}
use Rattle.ci_base.specs.declared.limits.Ending.TheVariants as endings
use Rattle.ci_outside.specs.Causes.{Rose}
use Rattle.ci_outside.specs.Shelf.{Files}
use Rattle.ci_base.specs.declared.event.Event.{Event}
use Rattle.ci_script.specs.Scripts.{events, script_fault}
use Rattle.ci_source.specs.Compiling.{HasFirstFault}
use Rattle.ci_source.specs.Laws.{NeverBothMeanings}
use Rattle.ci_words.specs.declared.command.Command.{Command}
use Rattle.ci_words.specs.declared.command.Command.TheVariants as commands
use Rattle.ci_words.specs.declared.order.Order.{Order}
use Rattle.ci_words.proofs.Ordered.{IsOrdered, ordered, check_alone, list_alone}
use Rattle.ci_world.specs.Work.{work, EndsAs, IsFinished}
use Rattle.ci_world.specs.World.{Common, Origin}
use Rattle.ci_top.specs.declared.decision.FileFault.TheVariants as faults
use Rattle.ci_top.specs.declared.outcome.Outcome.{Outcome}
use Rattle.ci_top.specs.Answers.{Answers, Kept, nothing_kept, kept_of, Cause, words_refused, workers_refused, order_not_built, not_fetched, source_refused, script_refused, checked, listed, no_memory, ran, Holds, Compiles, IsRun, status_of, text_of, ending_status, Delivers}
use Rattle.ci_top.specs.Asked.{command_of, wanted_of, wanted_sources, wanted_scripts, is_built_of, AskFor, AreRefused, AsksRun}
use Rattle.ci_top.specs.Fetching.{Fetched, Wanted}
use Rattle.ci_top.specs.Plain.{AreThere, CanCheck, CanList, CanMake, CanRunAll, IsApproved, IsAtRest, IsReported, IsShown, IsSpent, IsRunStatus, KeepsNothing}
use Rattle.ci_top.specs.Reading.{Texts, ComesTo, HasAll, fetched_texts, made_texts, texts_by}
use Rattle.ci_top.proofs.Causes.{refused-not_asked, refused-not_compiled, script_clash, told_clash, not_all, command_clash, runs_clash, differs, check-not_list, run-not_make, IsRunning, running, one_order}
use Rattle.ci_top.proofs.Made.{makes-no_sources, makes-no_scripts}

-- what is asked of the cause where no put failed, and of the status 5 otherwise
split : {K : Type 0} (bytes : K → Option (List ℕ)) (sink_faults : K → ℕ) (out out_after : K) (due status : ℕ) (text : List ℕ) (P : Type 0)
    → Delivers bytes sink_faults out out_after due text status → (status ≡ due → Appends (bytes out) (bytes out_after) text → P) → (status ≡ 5 → Rose (sink_faults out) (sink_faults out_after) → P) → P
split bytes sink_faults out out_after due status text P (inl d) whole stopped = whole d.0 d.1
split bytes sink_faults out out_after due status text P (inr d) whole stopped = stopped d.0 d.1

ending_small : (ending : Ending) (n : ℕ) → n ≡ ending_status ending → (n ≡ 0) ⊎ ((n ≡ 7) ⊎ (n ≡ 8))
ending_small endings.Finished n e = inl e
ending_small endings.Resting n e = inr (inl e)
ending_small endings.Spent n e = inr (inr e)
ending_small endings.NotRun n e = inl e

-- no cause has the status 5
no_five : (kept : Kept) (cause : Cause) → 5 ≡ status_of kept cause → ⊥
no_five kept (words_refused fault) e = omega arith
no_five kept (workers_refused index) e = omega arith
no_five kept order_not_built e = omega arith
no_five kept (not_fetched faults.Absent number name) e = omega arith
no_five kept (not_fetched faults.ReadFault number name) e = omega arith
no_five kept (not_fetched faults.TooLong number name) e = omega arith
no_five kept (source_refused name source fault offset) e = omega arith
no_five kept (script_refused fault) e = omega arith
no_five kept checked e = omega arith
no_five kept (listed project) e = omega arith
no_five kept no_memory e = omega arith
no_five kept (ran size origin n) e = elim (ending_small kept.ending 5 e) [ inl h ↦ omega arith | inr h ↦ elim h [ inl i ↦ omega arith | inr i ↦ omega arith ] ]

-- the status 15 has one cause
fifteen : (words : List (List ℕ)) (files : Option Files) (before now : ℕ) (kept : Kept) (cause : Cause) → Holds words files before now kept cause → 15 ≡ status_of kept cause → Rose before now
fifteen words files before now kept (words_refused fault) holds e = absurd (omega arith)
fifteen words files before now kept (workers_refused index) holds e = absurd (omega arith)
fifteen words files before now kept order_not_built holds e = absurd (omega arith)
fifteen words files before now kept (not_fetched faults.Absent number name) holds e = absurd (omega arith)
fifteen words files before now kept (not_fetched faults.ReadFault number name) holds e = holds.2
fifteen words files before now kept (not_fetched faults.TooLong number name) holds e = absurd (omega arith)
fifteen words files before now kept (source_refused name source fault offset) holds e = absurd (omega arith)
fifteen words files before now kept (script_refused fault) holds e = absurd (omega arith)
fifteen words files before now kept checked holds e = absurd (omega arith)
fifteen words files before now kept (listed project) holds e = absurd (omega arith)
fifteen words files before now kept no_memory holds e = absurd (omega arith)
fifteen words files before now kept (ran size origin n) holds e = absurd (elim (ending_small kept.ending 15 e) [ inl h ↦ omega arith | inr h ↦ elim h [ inl i ↦ omega arith | inr i ↦ omega arith ] ])

-- the status 2 has three causes
two : (words : List (List ℕ)) (files : Option Files) (before now : ℕ) (kept : Kept) (cause : Cause) → Holds words files before now kept cause → 2 ≡ status_of kept cause → AreRefused words
two words files before now kept (words_refused fault) holds e = inl (fault, holds.1)
two words files before now kept (workers_refused index) holds e = inr (inl (index, holds.1))
two words files before now kept order_not_built holds e = inr (inr holds.1)
two words files before now kept (not_fetched faults.Absent number name) holds e = absurd (omega arith)
two words files before now kept (not_fetched faults.ReadFault number name) holds e = absurd (omega arith)
two words files before now kept (not_fetched faults.TooLong number name) holds e = absurd (omega arith)
two words files before now kept (source_refused name source fault offset) holds e = absurd (omega arith)
two words files before now kept (script_refused fault) holds e = absurd (omega arith)
two words files before now kept checked holds e = absurd (omega arith)
two words files before now kept (listed project) holds e = absurd (omega arith)
two words files before now kept no_memory holds e = absurd (omega arith)
two words files before now kept (ran size origin n) holds e = absurd (elim (ending_small kept.ending 2 e) [ inl h ↦ omega arith | inr h ↦ elim h [ inl i ↦ omega arith | inr i ↦ omega arith ] ])

-- refused words have one status
refused : (words : List (List ℕ)) (files : Option Files) (before now : ℕ) (kept : Kept) (cause : Cause) → Holds words files before now kept cause → AreRefused words → status_of kept cause ≡ 2
refused words files before now kept (words_refused fault) holds is_refused = refl
refused words files before now kept (workers_refused index) holds is_refused = refl
refused words files before now kept order_not_built holds is_refused = refl
refused words files before now kept (not_fetched fault number name) holds is_refused = absurd (refused-not_asked words holds.1.asked is_refused holds.1.asks)
refused words files before now kept (source_refused name source fault offset) holds is_refused = absurd (refused-not_asked words holds.1.read.asked is_refused holds.1.read.asks)
refused words files before now kept (script_refused fault) holds is_refused = absurd (refused-not_asked words holds.1.read.asked is_refused holds.1.read.asks)
refused words files before now kept checked holds is_refused = absurd (refused-not_asked words holds.1.read.asked is_refused holds.1.read.asks)
refused words files before now kept (listed project) holds is_refused = absurd (refused-not_asked words holds.1.read.asked is_refused holds.1.read.asks)
refused words files before now kept no_memory holds is_refused = absurd (refused-not_asked words holds.1 is_refused holds.2)
refused words files before now kept (ran size origin n) holds is_refused = absurd (refused-not_asked words holds.read.asked is_refused holds.read.asks)

-- the status 6 keeps nothing
six : (words : List (List ℕ)) (files : Option Files) (before now : ℕ) (kept : Kept) (cause : Cause) → Holds words files before now kept cause → 6 ≡ status_of kept cause → kept ≡ nothing_kept
six words files before now kept (words_refused fault) holds e = holds.0
six words files before now kept (workers_refused index) holds e = holds.0
six words files before now kept order_not_built holds e = holds.0
six words files before now kept (not_fetched fault number name) holds e = holds.0
six words files before now kept (source_refused name source fault offset) holds e = holds.0
six words files before now kept (script_refused fault) holds e = holds.0
six words files before now kept checked holds e = holds.0
six words files before now kept (listed project) holds e = holds.0
six words files before now kept no_memory holds e = holds.0
six words files before now kept (ran size origin n) holds e = absurd (elim (ending_small kept.ending 6 e) [ inl h ↦ omega arith | inr h ↦ elim h [ inl i ↦ omega arith | inr i ↦ omega arith ] ])

-- a run has an ending
no_end : (common : Common) (worked budget : ℕ) (ending : Ending) → ending ≡ endings.NotRun → EndsAs common worked budget ending → ⊥
no_end common worked budget ending same ends = let Family : Ending → Type 0 = EndsAs common worked budget in subst Family same ends

not_run : (words : List (List ℕ)) (files : Option Files) (before now : ℕ) (kept : Kept) (cause : Cause) → Holds words files before now kept cause → kept.ending ≡ endings.NotRun → kept ≡ nothing_kept
not_run words files before now kept (words_refused fault) holds none = holds.0
not_run words files before now kept (workers_refused index) holds none = holds.0
not_run words files before now kept order_not_built holds none = holds.0
not_run words files before now kept (not_fetched fault number name) holds none = holds.0
not_run words files before now kept (source_refused name source fault offset) holds none = holds.0
not_run words files before now kept (script_refused fault) holds none = holds.0
not_run words files before now kept checked holds none = holds.0
not_run words files before now kept (listed project) holds none = holds.0
not_run words files before now kept no_memory holds none = holds.0
not_run words files before now kept (ran size origin n) holds none = absurd (no_end holds.run.serial.world.common (work kept.history kept.loose) holds.read.asked.limits.budget kept.ending none holds.run.ends.as_it_ends)

-- the command of an order that can be done
command_is : (words : List (List ℕ)) (files : Option Files) (texts : Texts) (read : HasAll words files texts) → command_of words ≡ Some read.asked.command
command_is words files texts read = let is : IsOrdered words read.asked = ordered words read.asked read.asks.words_are in is.spelled

one_command : (o : Option Command) (c d : Command) → o ≡ Some c → o ≡ Some d → c ≡ d
one_command o c d one two = let same : Some c ≡ Some d = sym one ∙ two in cc

-- words with another command
other_command : (words : List (List ℕ)) (files : Option Files) (texts : Texts) (read : HasAll words files texts) (c d : Command) → read.asked.command ≡ c → command_of words ≡ Some d → (c ≡ d → ⊥) → ⊥
other_command words files texts read c d is spelled differ = differ (sym is ∙ one_command (command_of words) read.asked.command d (command_is words files texts read) spelled)

-- words that ask for a run
running_words : (words : List (List ℕ)) (files : Option Files) (texts : Texts) (read : HasAll words files texts) (size : Option ℕ) (d : Command) → AsksRun read.asked size → command_of words ≡ Some d → IsRunning d
running_words words files texts read size d runs spelled = subst IsRunning (one_command (command_of words) read.asked.command d (command_is words files texts read) spelled) (running read.asked size runs)

-- what holds where the cause is a run
pub record Ran (words : List (List ℕ)) (files : Option Files) (kept : Kept) (cause : Cause) : Type 0 where
  pub size : Option ℕ
  pub origin : Origin
  pub instructions : ℕ
  pub cause_is : cause ≡ ran size origin instructions
  pub run : IsRun words files kept size origin instructions

-- the statuses of runs
abbrev IsOfRun : ℕ → Type 0
IsOfRun n = (n ≡ 7) ⊎ (n ≡ 8)

of_run : (words : List (List ℕ)) (files : Option Files) (before now : ℕ) (kept : Kept) (n : ℕ) (cause : Cause) → Holds words files before now kept cause → n ≡ status_of kept cause → IsOfRun n → Ran words files kept cause
of_run words files before now kept m (words_refused fault) holds e is = absurd (elim is [ inl h ↦ omega arith | inr h ↦ omega arith ])
of_run words files before now kept m (workers_refused index) holds e is = absurd (elim is [ inl h ↦ omega arith | inr h ↦ omega arith ])
of_run words files before now kept m order_not_built holds e is = absurd (elim is [ inl h ↦ omega arith | inr h ↦ omega arith ])
of_run words files before now kept m (not_fetched faults.Absent number name) holds e is = absurd (elim is [ inl h ↦ omega arith | inr h ↦ omega arith ])
of_run words files before now kept m (not_fetched faults.ReadFault number name) holds e is = absurd (elim is [ inl h ↦ omega arith | inr h ↦ omega arith ])
of_run words files before now kept m (not_fetched faults.TooLong number name) holds e is = absurd (elim is [ inl h ↦ omega arith | inr h ↦ omega arith ])
of_run words files before now kept m (source_refused name source fault offset) holds e is = absurd (elim is [ inl h ↦ omega arith | inr h ↦ omega arith ])
of_run words files before now kept m (script_refused fault) holds e is = absurd (elim is [ inl h ↦ omega arith | inr h ↦ omega arith ])
of_run words files before now kept m checked holds e is = absurd (elim is [ inl h ↦ omega arith | inr h ↦ omega arith ])
of_run words files before now kept m (listed project) holds e is = absurd (elim is [ inl h ↦ omega arith | inr h ↦ omega arith ])
of_run words files before now kept m no_memory holds e is = absurd (elim is [ inl h ↦ omega arith | inr h ↦ omega arith ])
of_run words files before now kept m (ran size origin n) holds e is = record { size = size; origin = origin; instructions = n; cause_is = refl; run = holds }

-- the status 0 of `run` and `make` is that of a run
zero_is_run : (words : List (List ℕ)) (files : Option Files) (before now : ℕ) (kept : Kept) (d : Command) (cause : Cause) → Holds words files before now kept cause → 0 ≡ status_of kept cause → command_of words ≡ Some d → IsRunning d → Ran words files kept cause
zero_is_run words files before now kept d (words_refused fault) holds e spelled runs = absurd (omega arith)
zero_is_run words files before now kept d (workers_refused index) holds e spelled runs = absurd (omega arith)
zero_is_run words files before now kept d order_not_built holds e spelled runs = absurd (omega arith)
zero_is_run words files before now kept d (not_fetched faults.Absent number name) holds e spelled runs = absurd (omega arith)
zero_is_run words files before now kept d (not_fetched faults.ReadFault number name) holds e spelled runs = absurd (omega arith)
zero_is_run words files before now kept d (not_fetched faults.TooLong number name) holds e spelled runs = absurd (omega arith)
zero_is_run words files before now kept d (source_refused name source fault offset) holds e spelled runs = absurd (omega arith)
zero_is_run words files before now kept d (script_refused fault) holds e spelled runs = absurd (omega arith)
zero_is_run words files before now kept d checked holds e spelled runs = absurd (let Family : Command → Type 0 = IsRunning in subst Family (sym (sym holds.1.checks ∙ one_command (command_of words) holds.1.read.asked.command d (command_is words files holds.1.texts holds.1.read) spelled)) runs)
zero_is_run words files before now kept d (listed project) holds e spelled runs = absurd (let Family : Command → Type 0 = IsRunning in subst Family (sym (sym holds.1.lists ∙ one_command (command_of words) holds.1.read.asked.command d (command_is words files holds.1.texts holds.1.read) spelled)) runs)
zero_is_run words files before now kept d no_memory holds e spelled runs = absurd (omega arith)
zero_is_run words files before now kept d (ran size origin n) holds e spelled runs = record { size = size; origin = origin; instructions = n; cause_is = refl; run = holds }

zero_ending : (common : Common) (worked budget : ℕ) (ending : Ending) → 0 ≡ ending_status ending → EndsAs common worked budget ending → ending ≡ endings.Finished
zero_ending common worked budget endings.Finished e ends = refl
zero_ending common worked budget endings.Resting e ends = absurd (omega arith)
zero_ending common worked budget endings.Spent e ends = absurd (omega arith)
zero_ending common worked budget endings.NotRun e ends = absurd ends

-- the status of a run is that of its ending
run_status : (words : List (List ℕ)) (files : Option Files) (kept : Kept) (cause : Cause) → Ran words files kept cause → status_of kept cause ≡ ending_status kept.ending
run_status words files kept cause is = ap (status_of kept) is.cause_is

-- how a run ended whose status is given
run_ends : (words : List (List ℕ)) (files : Option Files) (kept : Kept) (cause : Cause) (is : Ran words files kept cause)
    → EndsAs is.run.run.serial.world.common (work kept.history kept.loose) is.run.read.asked.limits.budget kept.ending
run_ends words files kept cause is = is.run.run.ends.as_it_ends

-- a run with the status 0 has finished
ran_finished : (words : List (List ℕ)) (files : Option Files) (kept : Kept) (cause : Cause) → Ran words files kept cause → 0 ≡ status_of kept cause → kept.ending ≡ endings.Finished
ran_finished words files kept cause is e =
    zero_ending is.run.run.serial.world.common (work kept.history kept.loose) is.run.read.asked.limits.budget kept.ending (e ∙ run_status words files kept cause is) (run_ends words files kept cause is)

rests_as : (common : Common) (worked budget : ℕ) (ending : Ending) → (0 ≡ ending_status ending) ⊎ (7 ≡ ending_status ending) → EndsAs common worked budget ending → IsFinished common
rests_as common worked budget endings.Finished e ends = ends.0
rests_as common worked budget endings.Resting e ends = ends.0
rests_as common worked budget endings.Spent e ends = absurd (elim e [ inl h ↦ omega arith | inr h ↦ omega arith ])
rests_as common worked budget endings.NotRun e ends = absurd ends

spent_as : (common : Common) (worked budget : ℕ) (ending : Ending) → 8 ≡ ending_status ending → EndsAs common worked budget ending → budget - worked ≤ 100
spent_as common worked budget endings.Finished e ends = absurd (omega arith)
spent_as common worked budget endings.Resting e ends = absurd (omega arith)
spent_as common worked budget endings.Spent e ends = ends.1
spent_as common worked budget endings.NotRun e ends = absurd ends

-- the size of a run is that of its command
size_of_run : (words : List (List ℕ)) (files : Option Files) (texts : Texts) (read : HasAll words files texts) (size : Option ℕ) → AsksRun read.asked size → command_of words ≡ Some commands.Run → size ≡ None
size_of_run words files texts read None runs spelled = refl
size_of_run words files texts read (Some n) runs spelled = absurd (other_command words files texts read commands.Make commands.Run runs.0 spelled (λ same. run-not_make (sym same)))

size_of_make : (words : List (List ℕ)) (files : Option Files) (texts : Texts) (read : HasAll words files texts) (size : Option ℕ) → AsksRun read.asked size → command_of words ≡ Some commands.Make → (n : ℕ) × (size ≡ Some n)
size_of_make words files texts read None runs spelled = absurd (other_command words files texts read commands.Run commands.Make runs spelled run-not_make)
size_of_make words files texts read (Some n) runs spelled = (n, refl)

-- a run of this size has finished, and its text was put
reports : (words : List (List ℕ)) (files : Option Files) (before after : Option (List ℕ)) (outcome : Outcome) (cause : Cause) (size : Option ℕ) → (is : Ran words files (kept_of outcome) cause) → is.size ≡ size
    → 0 ≡ status_of (kept_of outcome) cause → Appends before after (text_of (kept_of outcome) cause) → IsReported words files size before after outcome
reports words files before after outcome cause size is same e put =
    let Reported : Option ℕ → Type 0 = λ s. IsReported words files s before after outcome in
    let Text : Cause → Type 0 = λ c. Appends before after (text_of (kept_of outcome) c) in
    subst Reported same (record {
      of = record { origin = is.origin; instructions = is.instructions; run = is.run };
      finished = ran_finished words files (kept_of outcome) cause is e;
      put = subst Text is.cause_is put;
    })

-- after such a run nothing more can happen
at_rest : (words : List (List ℕ)) (files : Option Files) (outcome : Outcome) (cause : Cause) (n : ℕ) → Ran words files (kept_of outcome) cause → n ≡ status_of (kept_of outcome) cause → (n ≡ 0) ⊎ (n ≡ 7) → IsAtRest words files outcome
at_rest words files outcome cause n is e small =
    let due : n ≡ ending_status outcome.ending = e ∙ run_status words files (kept_of outcome) cause is in
    record {
      size = is.size;
      of = record { origin = is.origin; instructions = is.instructions; run = is.run };
      rests = rests_as is.run.run.serial.world.common _ is.run.read.asked.limits.budget outcome.ending
          (elim small [ inl h ↦ inl (sym h ∙ due) | inr h ↦ inr (sym h ∙ due) ]) (run_ends words files (kept_of outcome) cause is);
    }

has_spent : (words : List (List ℕ)) (files : Option Files) (outcome : Outcome) (cause : Cause) → Ran words files (kept_of outcome) cause → 8 ≡ status_of (kept_of outcome) cause → IsSpent words files outcome
has_spent words files outcome cause is e =
    record {
      size = is.size;
      of = record { origin = is.origin; instructions = is.instructions; run = is.run };
      rest = spent_as is.run.run.serial.world.common _ is.run.read.asked.limits.budget outcome.ending (e ∙ run_status words files (kept_of outcome) cause is) (run_ends words files (kept_of outcome) cause is);
    }

-- the status 0 of `check` tells sources that compile
zero_is_checked : (words : List (List ℕ)) (files : Option Files) (shelf_before shelf_now : ℕ) (before after : Option (List ℕ)) (kept : Kept) (cause : Cause)
    → Holds words files shelf_before shelf_now kept cause → 0 ≡ status_of kept cause → Appends before after (text_of kept cause) → command_of words ≡ Some commands.Check
    → IsApproved words files before after
zero_is_checked words files b m before after kept (words_refused fault) holds e put command = absurd (omega arith)
zero_is_checked words files b m before after kept (workers_refused index) holds e put command = absurd (omega arith)
zero_is_checked words files b m before after kept order_not_built holds e put command = absurd (omega arith)
zero_is_checked words files b m before after kept (not_fetched faults.Absent number name) holds e put command = absurd (omega arith)
zero_is_checked words files b m before after kept (not_fetched faults.ReadFault number name) holds e put command = absurd (omega arith)
zero_is_checked words files b m before after kept (not_fetched faults.TooLong number name) holds e put command = absurd (omega arith)
zero_is_checked words files b m before after kept (source_refused name source fault offset) holds e put command = absurd (omega arith)
zero_is_checked words files b m before after kept (script_refused fault) holds e put command = absurd (omega arith)
zero_is_checked words files b m before after kept checked holds e put command = record { checked = holds.1; put = put }
zero_is_checked words files b m before after kept (listed project) holds e put command = absurd (other_command words files holds.1.texts holds.1.read commands.List commands.Check holds.1.lists command (λ same. check-not_list (sym same)))
zero_is_checked words files b m before after kept no_memory holds e put command = absurd (omega arith)
zero_is_checked words files b m before after kept (ran size origin n) holds e put command = absurd (running_words words files holds.texts holds.read size commands.Check holds.runs command)

-- the status 0 of `list` tells the listing of sources that compile
zero_is_shown : (words : List (List ℕ)) (files : Option Files) (shelf_before shelf_now : ℕ) (before after : Option (List ℕ)) (kept : Kept) (cause : Cause)
    → Holds words files shelf_before shelf_now kept cause → 0 ≡ status_of kept cause → Appends before after (text_of kept cause) → command_of words ≡ Some commands.List
    → IsShown words files before after
zero_is_shown words files b m before after kept (words_refused fault) holds e put command = absurd (omega arith)
zero_is_shown words files b m before after kept (workers_refused index) holds e put command = absurd (omega arith)
zero_is_shown words files b m before after kept order_not_built holds e put command = absurd (omega arith)
zero_is_shown words files b m before after kept (not_fetched faults.Absent number name) holds e put command = absurd (omega arith)
zero_is_shown words files b m before after kept (not_fetched faults.ReadFault number name) holds e put command = absurd (omega arith)
zero_is_shown words files b m before after kept (not_fetched faults.TooLong number name) holds e put command = absurd (omega arith)
zero_is_shown words files b m before after kept (source_refused name source fault offset) holds e put command = absurd (omega arith)
zero_is_shown words files b m before after kept (script_refused fault) holds e put command = absurd (omega arith)
zero_is_shown words files b m before after kept checked holds e put command = absurd (other_command words files holds.1.texts holds.1.read commands.Check commands.List holds.1.checks command check-not_list)
zero_is_shown words files b m before after kept (listed project) holds e put command = record { project = project; listed = holds.1; put = put }
zero_is_shown words files b m before after kept no_memory holds e put command = absurd (omega arith)
zero_is_shown words files b m before after kept (ran size origin n) holds e put command = absurd (running_words words files holds.texts holds.read size commands.List holds.runs command)

-- the commands that have the status 0
abbrev IsDone : List (List ℕ) → Type 0
IsDone words = (command_of words ≡ Some commands.Run) ⊎ ((command_of words ≡ Some commands.Make) ⊎ ((command_of words ≡ Some commands.Check) ⊎ (command_of words ≡ Some commands.List)))

done_run : (words : List (List ℕ)) (files : Option Files) (texts : Texts) (read : HasAll words files texts) (size : Option ℕ) → AsksRun read.asked size → IsDone words
done_run words files texts read None runs = inl (command_is words files texts read ∙ ap Some runs)
done_run words files texts read (Some n) runs = inr (inl (command_is words files texts read ∙ ap Some runs.0))

zero_is_done : (words : List (List ℕ)) (files : Option Files) (before now : ℕ) (kept : Kept) (cause : Cause) → Holds words files before now kept cause → 0 ≡ status_of kept cause → IsDone words
zero_is_done words files before now kept (words_refused fault) holds e = absurd (omega arith)
zero_is_done words files before now kept (workers_refused index) holds e = absurd (omega arith)
zero_is_done words files before now kept order_not_built holds e = absurd (omega arith)
zero_is_done words files before now kept (not_fetched faults.Absent number name) holds e = absurd (omega arith)
zero_is_done words files before now kept (not_fetched faults.ReadFault number name) holds e = absurd (omega arith)
zero_is_done words files before now kept (not_fetched faults.TooLong number name) holds e = absurd (omega arith)
zero_is_done words files before now kept (source_refused name source fault offset) holds e = absurd (omega arith)
zero_is_done words files before now kept (script_refused fault) holds e = absurd (omega arith)
zero_is_done words files before now kept checked holds e = inr (inr (inl (command_is words files holds.1.texts holds.1.read ∙ ap Some holds.1.checks)))
zero_is_done words files before now kept (listed project) holds e = inr (inr (inr (command_is words files holds.1.texts holds.1.read ∙ ap Some holds.1.lists)))
zero_is_done words files before now kept no_memory holds e = absurd (omega arith)
zero_is_done words files before now kept (ran size origin n) holds e = done_run words files holds.texts holds.read size holds.runs

-- what was read of files that are there
there_all : (words : List (List ℕ)) (asked : Order) (files : Option Files) → AskFor words asked → ((fetched : Texts) → texts_by asked.command asked.number fetched ≡ fetched) → (there : AreThere words asked files)
    → HasAll words (Some there.told) (fetched_texts there.sources there.scripts)
there_all words asked files asks by there =
    let Sources : Option Files → Type 0 = λ f. Fetched f (wanted_sources words asked) there.sources in
    let Scripts : Option Files → Type 0 = λ f. Fetched f (wanted_scripts words asked) there.scripts in
    record {
      asked = asked;
      asks = asks;
      sources = there.sources;
      sources_fetched = subst Sources there.tells there.sources_there;
      scripts = there.scripts;
      scripts_fetched = subst Scripts there.tells there.scripts_there;
      texts_are = sym (by (fetched_texts there.sources there.scripts));
    }

ending_status_of : (ending : Ending) → IsRunStatus (ending_status ending)
ending_status_of endings.Finished = inl refl
ending_status_of endings.Resting = inr (inl refl)
ending_status_of endings.Spent = inr (inr refl)
ending_status_of endings.NotRun = inl refl

-- files that compile are checked or listed, or there was no memory
settles : NeverBothMeanings → (words : List (List ℕ)) (told : Files) (before now : ℕ) (kept : Kept) (texts : Texts) (read : HasAll words (Some told) texts) (c : Command) → read.asked.command ≡ c → (IsRunning c → ⊥) → Compiles texts.sources
    → (Rose before now → ⊥) → (cause : Cause) → Holds words (Some told) before now kept cause → (status_of kept cause ≡ 0) ⊎ (status_of kept cause ≡ 6)
settles never_both words told before now kept texts read c is other compiled calm (words_refused fault) holds = absurd (refused-not_asked words read.asked (inl (fault, holds.1)) read.asks)
settles never_both words told before now kept texts read c is other compiled calm (workers_refused index) holds = absurd (refused-not_asked words read.asked (inr (inl (index, holds.1))) read.asks)
settles never_both words told before now kept texts read c is other compiled calm order_not_built holds = absurd (refused-not_asked words read.asked (inr (inr holds.1)) read.asks)
settles never_both words told before now kept texts read c is other compiled calm (not_fetched fault number name) holds = absurd (not_all words told before now number fault name texts calm holds.1 holds.2 read)
settles never_both words told before now kept texts read c is other compiled calm (source_refused name source fault offset) holds = absurd (refused-not_compiled never_both words told name source fault offset texts holds.1 read compiled)
settles never_both words told before now kept texts read c is other compiled calm (script_refused fault) holds = absurd (runs_clash words (Some told) holds.1.texts texts holds.1.read read holds.1.size c holds.1.runs is other)
settles never_both words told before now kept texts read c is other compiled calm checked holds = inl refl
settles never_both words told before now kept texts read c is other compiled calm (listed project) holds = inl refl
settles never_both words told before now kept texts read c is other compiled calm no_memory holds = inr refl
settles never_both words told before now kept texts read c is other compiled calm (ran size origin n) holds = absurd (runs_clash words (Some told) holds.texts texts holds.read read size c holds.runs is other)

-- files that can be run are run, or there was no memory
runs_all : NeverBothMeanings → (words : List (List ℕ)) (told : Files) (before now : ℕ) (kept : Kept) (texts : Texts) (read : HasAll words (Some told) texts) → read.asked.command ≡ commands.Run → Compiles texts.sources
    → (script : List Event) → events texts.script script → (Rose before now → ⊥) → (cause : Cause) → Holds words (Some told) before now kept cause → IsRunStatus (status_of kept cause) ⊎ (status_of kept cause ≡ 6)
runs_all never_both words told before now kept texts read runs compiled script scripted calm (words_refused fault) holds = absurd (refused-not_asked words read.asked (inl (fault, holds.1)) read.asks)
runs_all never_both words told before now kept texts read runs compiled script scripted calm (workers_refused index) holds = absurd (refused-not_asked words read.asked (inr (inl (index, holds.1))) read.asks)
runs_all never_both words told before now kept texts read runs compiled script scripted calm order_not_built holds = absurd (refused-not_asked words read.asked (inr (inr holds.1)) read.asks)
runs_all never_both words told before now kept texts read runs compiled script scripted calm (not_fetched fault number name) holds = absurd (not_all words told before now number fault name texts calm holds.1 holds.2 read)
runs_all never_both words told before now kept texts read runs compiled script scripted calm (source_refused name source fault offset) holds = absurd (refused-not_compiled never_both words told name source fault offset texts holds.1 read compiled)
runs_all never_both words told before now kept texts read runs compiled script scripted calm (script_refused fault) holds = absurd (script_clash words told fault texts script holds.1 read scripted)
runs_all never_both words told before now kept texts read runs compiled script scripted calm checked holds = absurd (command_clash words (Some told) texts holds.1.texts read holds.1.read commands.Run commands.Check runs holds.1.checks (differs commands.Run commands.Check (λ e. omega arith)))
runs_all never_both words told before now kept texts read runs compiled script scripted calm (listed project) holds = absurd (command_clash words (Some told) texts holds.1.texts read holds.1.read commands.Run commands.List runs holds.1.lists (differs commands.Run commands.List (λ e. omega arith)))
runs_all never_both words told before now kept texts read runs compiled script scripted calm no_memory holds = inr refl
runs_all never_both words told before now kept texts read runs compiled script scripted calm (ran size origin n) holds = inl (ending_status_of kept.ending)

-- `make` comes to no file
comes_to_none : (words : List (List ℕ)) (files : Option Files) (number : ℕ) (file : Wanted) (asked : Order) → AskFor words asked → asked.command ≡ commands.Make → ComesTo words files number file → ⊥
comes_to_none words files number file asked asks makes comes =
    let same : comes.asked ≡ asked = one_order words comes.asked asked comes.asks.words_are asks.words_are in
    let made : comes.asked.command ≡ commands.Make = ap (λ (o : Order). o.command) same ∙ makes in
    let none : wanted_of words comes.asked ≡ [] =
    ap (λ l. l ++ wanted_scripts words comes.asked) (makes-no_sources words comes.asked comes.asks.words_are made) ∙ makes-no_scripts words comes.asked comes.asks.words_are made in
    in_none comes.next.before (sym none ∙ comes.next.wanted_are) where
      in_none : (front : List Wanted) → [] ≡ front ++ file ∷ comes.next.after → ⊥
      in_none [] same = cc
      in_none (x ∷ front) same = cc

-- it works on its workload
made_texts_are : (words : List (List ℕ)) (files : Option Files) (asked : Order) (texts : Texts) → AskFor words asked → asked.command ≡ commands.Make → HasAll words files texts → texts ≡ made_texts asked.number
made_texts_are words files asked texts asks makes read =
    let same : read.asked ≡ asked = one_order words read.asked asked read.asks.words_are asks.words_are in
    read.texts_are ∙ ap (λ (o : Order). texts_by o.command o.number (fetched_texts read.sources read.scripts)) same ∙ ap (λ c. texts_by c asked.number (fetched_texts read.sources read.scripts)) makes

-- the words have one command
read_command : (words : List (List ℕ)) (files : Option Files) (texts : Texts) (read : HasAll words files texts) (asked : Order) (c : Command) → AskFor words asked → asked.command ≡ c → read.asked.command ≡ c
read_command words files texts read asked c asks is = ap (λ (o : Order). o.command) (one_order words read.asked asked read.asks.words_are asks.words_are) ∙ is

-- a workload that can be made is run, or there was no memory
makes_all : NeverBothMeanings → (words : List (List ℕ)) (files : Option Files) (before now : ℕ) (kept : Kept) → (can : CanMake words) → (cause : Cause) → Holds words files before now kept cause
    → IsRunStatus (status_of kept cause) ⊎ (status_of kept cause ≡ 6)
makes_all never_both words files before now kept can (words_refused fault) holds = absurd (refused-not_asked words can.asked (inl (fault, holds.1)) can.asks)
makes_all never_both words files before now kept can (workers_refused index) holds = absurd (refused-not_asked words can.asked (inr (inl (index, holds.1))) can.asks)
makes_all never_both words files before now kept can order_not_built holds = absurd (refused-not_asked words can.asked (inr (inr holds.1)) can.asks)
makes_all never_both words files before now kept can (not_fetched fault number name) holds = absurd (comes_to_none words files number name can.asked can.asks can.makes holds.1)
makes_all never_both words files before now kept can (source_refused name source fault offset) holds =
    let Family : Texts → Type 0 = λ t. HasFirstFault t.sources holds.1.file fault offset in
    absurd (never_both (made_texts can.asked.number).sources can.compiled.0 holds.1.file fault offset can.compiled.1
    (subst Family (made_texts_are words files can.asked holds.1.texts can.asks can.makes holds.1.read) holds.1.refused))
makes_all never_both words files before now kept can (script_refused fault) holds =
    let Family : Texts → Type 0 = λ t. script_fault t.script fault in
    absurd (told_clash (made_texts can.asked.number).script fault can.script
    (subst Family (made_texts_are words files can.asked holds.1.texts can.asks can.makes holds.1.read) holds.1.refused) can.scripted)
makes_all never_both words files before now kept can checked holds = absurd (differs commands.Make commands.Check (λ e. omega arith) (sym (read_command words files holds.1.texts holds.1.read can.asked commands.Make can.asks can.makes) ∙ holds.1.checks))
makes_all never_both words files before now kept can (listed project) holds = absurd (differs commands.Make commands.List (λ e. omega arith) (sym (read_command words files holds.1.texts holds.1.read can.asked commands.Make can.asks can.makes) ∙ holds.1.lists))
makes_all never_both words files before now kept can no_memory holds = inr refl
makes_all never_both words files before now kept can (ran size origin n) holds = inl (ending_status_of kept.ending)

-- words that ask to check can be done
asks_check : (words : List (List ℕ)) (files : Option Files) (can : CanCheck words files) → AskFor words can.asked
asks_check words files can =
    let Built : Command → Type 0 = λ c. is_built_of c can.asked ≡ true in
    record {
      words_are = can.words_are;
      alone = check_alone words can.asked (ordered words can.asked can.words_are) can.checks;
      built = subst Built (sym can.checks) refl;
    }

-- words that ask to list can be done
asks_list : (words : List (List ℕ)) (files : Option Files) (can : CanList words files) → AskFor words can.asked
asks_list words files can =
    let Built : Command → Type 0 = λ c. is_built_of c can.asked ≡ true in
    record {
      words_are = can.words_are;
      alone = list_alone words can.asked (ordered words can.asked can.words_are) can.lists;
      built = subst Built (sym can.lists) refl;
    }

by_check : (asked : Order) → asked.command ≡ commands.Check → (fetched : Texts) → texts_by asked.command asked.number fetched ≡ fetched
by_check asked same fetched = ap (λ c. texts_by c asked.number fetched) same

by_list : (asked : Order) → asked.command ≡ commands.List → (fetched : Texts) → texts_by asked.command asked.number fetched ≡ fetched
by_list asked same fetched = ap (λ c. texts_by c asked.number fetched) same

by_run : (asked : Order) → asked.command ≡ commands.Run → (fetched : Texts) → texts_by asked.command asked.number fetched ≡ fetched
by_run asked same fetched = ap (λ c. texts_by c asked.number fetched) same

checks_all : NeverBothMeanings → (words : List (List ℕ)) (files : Option Files) (before now : ℕ) (kept : Kept) (cause : Cause) → Holds words files before now kept cause → CanCheck words files → (Rose before now → ⊥) → (status_of kept cause ≡ 0) ⊎ (status_of kept cause ≡ 6)
unfolding there_all
checks_all never_both words files before now kept cause holds can calm =
    let Held : Option Files → Type 0 = λ f. Holds words f before now kept cause in
    settles never_both words can.there.told before now kept _ (there_all words can.asked files (asks_check words files can) (by_check can.asked can.checks) can.there) commands.Check can.checks (λ none. none) can.compiled calm cause
    (subst Held can.there.tells holds)

lists_all : NeverBothMeanings → (words : List (List ℕ)) (files : Option Files) (before now : ℕ) (kept : Kept) (cause : Cause) → Holds words files before now kept cause → CanList words files → (Rose before now → ⊥) → (status_of kept cause ≡ 0) ⊎ (status_of kept cause ≡ 6)
unfolding there_all
lists_all never_both words files before now kept cause holds can calm =
    let Held : Option Files → Type 0 = λ f. Holds words f before now kept cause in
    settles never_both words can.there.told before now kept _ (there_all words can.asked files (asks_list words files can) (by_list can.asked can.lists) can.there) commands.List can.lists (λ none. none) can.compiled calm cause
    (subst Held can.there.tells holds)

runs_told : NeverBothMeanings → (words : List (List ℕ)) (files : Option Files) (before now : ℕ) (kept : Kept) (cause : Cause) → Holds words files before now kept cause → CanRunAll words files → (Rose before now → ⊥) → IsRunStatus (status_of kept cause) ⊎ (status_of kept cause ≡ 6)
unfolding there_all
runs_told never_both words files before now kept cause holds can calm =
    let Held : Option Files → Type 0 = λ f. Holds words f before now kept cause in
    runs_all never_both words can.there.told before now kept _ (there_all words can.asked files can.asks (by_run can.asked can.runs) can.there) can.runs can.compiled can.script can.scripted calm cause
    (subst Held can.there.tells holds)

-- The clauses of the top call, each for any answer that meets the contract.
pub write_fault_lem : {S K : Type 0} (files : S → Option Files) (shelf_faults : S → ℕ) (bytes : K → Option (List ℕ)) (sink_faults : K → ℕ) (words : List (List ℕ)) (shelf shelf_after : S) (out out_after : K) (outcome : Outcome)
    → Answers files shelf_faults bytes sink_faults words shelf shelf_after out out_after outcome → outcome.status ≡ 5 → Rose (sink_faults out) (sink_faults out_after)
write_fault_lem files shelf_faults bytes sink_faults words shelf shelf_after out out_after outcome answer status =
    split bytes sink_faults out out_after _ outcome.status _ (Rose (sink_faults out) (sink_faults out_after)) answer.delivers
    (λ due put. absurd (no_five (kept_of outcome) answer.cause (sym status ∙ due))) (λ five rose. rose)

pub read_fault_lem : {S K : Type 0} (files : S → Option Files) (shelf_faults : S → ℕ) (bytes : K → Option (List ℕ)) (sink_faults : K → ℕ) (words : List (List ℕ)) (shelf shelf_after : S) (out out_after : K) (outcome : Outcome)
    → Answers files shelf_faults bytes sink_faults words shelf shelf_after out out_after outcome → outcome.status ≡ 15 → Rose (shelf_faults shelf) (shelf_faults shelf_after)
read_fault_lem files shelf_faults bytes sink_faults words shelf shelf_after out out_after outcome answer status =
    split bytes sink_faults out out_after _ outcome.status _ (Rose (shelf_faults shelf) (shelf_faults shelf_after)) answer.delivers
    (λ due put. fifteen words (files shelf) (shelf_faults shelf) (shelf_faults shelf_after) (kept_of outcome) answer.cause answer.holds (sym status ∙ due)) (λ five rose. absurd (omega arith))

pub words_lem : {S K : Type 0} (files : S → Option Files) (shelf_faults : S → ℕ) (bytes : K → Option (List ℕ)) (sink_faults : K → ℕ) (words : List (List ℕ)) (shelf shelf_after : S) (out out_after : K) (outcome : Outcome)
    → Answers files shelf_faults bytes sink_faults words shelf shelf_after out out_after outcome → outcome.status ≡ 2 → AreRefused words
words_lem files shelf_faults bytes sink_faults words shelf shelf_after out out_after outcome answer status =
    split bytes sink_faults out out_after _ outcome.status _ (AreRefused words) answer.delivers
    (λ due put. two words (files shelf) (shelf_faults shelf) (shelf_faults shelf_after) (kept_of outcome) answer.cause answer.holds (sym status ∙ due)) (λ five rose. absurd (omega arith))

pub words_always_lem : {S K : Type 0} (files : S → Option Files) (shelf_faults : S → ℕ) (bytes : K → Option (List ℕ)) (sink_faults : K → ℕ) (words : List (List ℕ)) (shelf shelf_after : S) (out out_after : K) (outcome : Outcome)
    → Answers files shelf_faults bytes sink_faults words shelf shelf_after out out_after outcome → AreRefused words → (outcome.status ≡ 2) ⊎ (outcome.status ≡ 5)
words_always_lem files shelf_faults bytes sink_faults words shelf shelf_after out out_after outcome answer is_refused =
    split bytes sink_faults out out_after _ outcome.status _ ((outcome.status ≡ 2) ⊎ (outcome.status ≡ 5)) answer.delivers
    (λ due put. inl (due ∙ refused words (files shelf) (shelf_faults shelf) (shelf_faults shelf_after) (kept_of outcome) answer.cause answer.holds is_refused)) (λ five rose. inr five)

pub reported_lem : {S K : Type 0} (files : S → Option Files) (shelf_faults : S → ℕ) (bytes : K → Option (List ℕ)) (sink_faults : K → ℕ) (words : List (List ℕ)) (shelf shelf_after : S) (out out_after : K) (outcome : Outcome)
    → Answers files shelf_faults bytes sink_faults words shelf shelf_after out out_after outcome → outcome.status ≡ 0 → command_of words ≡ Some commands.Run → IsReported words (files shelf) None (bytes out) (bytes out_after) outcome
reported_lem files shelf_faults bytes sink_faults words shelf shelf_after out out_after outcome answer status command =
    split bytes sink_faults out out_after _ outcome.status _ (IsReported words (files shelf) None (bytes out) (bytes out_after) outcome) answer.delivers
    (λ due put. let is : Ran words (files shelf) (kept_of outcome) answer.cause = zero_is_run words (files shelf) (shelf_faults shelf) (shelf_faults shelf_after) (kept_of outcome) commands.Run answer.cause answer.holds (sym status ∙ due) command tt in
    reports words (files shelf) (bytes out) (bytes out_after) outcome answer.cause None is (size_of_run words (files shelf) is.run.texts is.run.read is.size is.run.runs command) (sym status ∙ due) put) (λ five rose. absurd (omega arith))

pub made_lem : {S K : Type 0} (files : S → Option Files) (shelf_faults : S → ℕ) (bytes : K → Option (List ℕ)) (sink_faults : K → ℕ) (words : List (List ℕ)) (shelf shelf_after : S) (out out_after : K) (outcome : Outcome)
    → Answers files shelf_faults bytes sink_faults words shelf shelf_after out out_after outcome → outcome.status ≡ 0 → command_of words ≡ Some commands.Make → (size : ℕ) × IsReported words (files shelf) (Some size) (bytes out) (bytes out_after) outcome
made_lem files shelf_faults bytes sink_faults words shelf shelf_after out out_after outcome answer status command =
    split bytes sink_faults out out_after _ outcome.status _ ((size : ℕ) × IsReported words (files shelf) (Some size) (bytes out) (bytes out_after) outcome) answer.delivers
    (λ due put. let is : Ran words (files shelf) (kept_of outcome) answer.cause = zero_is_run words (files shelf) (shelf_faults shelf) (shelf_faults shelf_after) (kept_of outcome) commands.Make answer.cause answer.holds (sym status ∙ due) command tt in
    let sized : (n : ℕ) × (is.size ≡ Some n) = size_of_make words (files shelf) is.run.texts is.run.read is.size is.run.runs command in
    (sized.0, reports words (files shelf) (bytes out) (bytes out_after) outcome answer.cause (Some sized.0) is sized.1 (sym status ∙ due) put)) (λ five rose. absurd (omega arith))

pub checked_lem : {S K : Type 0} (files : S → Option Files) (shelf_faults : S → ℕ) (bytes : K → Option (List ℕ)) (sink_faults : K → ℕ) (words : List (List ℕ)) (shelf shelf_after : S) (out out_after : K) (outcome : Outcome)
    → Answers files shelf_faults bytes sink_faults words shelf shelf_after out out_after outcome → outcome.status ≡ 0 → command_of words ≡ Some commands.Check → IsApproved words (files shelf) (bytes out) (bytes out_after)
checked_lem files shelf_faults bytes sink_faults words shelf shelf_after out out_after outcome answer status command =
    split bytes sink_faults out out_after _ outcome.status _ (IsApproved words (files shelf) (bytes out) (bytes out_after)) answer.delivers
    (λ due put. zero_is_checked words (files shelf) (shelf_faults shelf) (shelf_faults shelf_after) (bytes out) (bytes out_after) (kept_of outcome) answer.cause answer.holds (sym status ∙ due) put command) (λ five rose. absurd (omega arith))

pub shown_lem : {S K : Type 0} (files : S → Option Files) (shelf_faults : S → ℕ) (bytes : K → Option (List ℕ)) (sink_faults : K → ℕ) (words : List (List ℕ)) (shelf shelf_after : S) (out out_after : K) (outcome : Outcome)
    → Answers files shelf_faults bytes sink_faults words shelf shelf_after out out_after outcome → outcome.status ≡ 0 → command_of words ≡ Some commands.List → IsShown words (files shelf) (bytes out) (bytes out_after)
shown_lem files shelf_faults bytes sink_faults words shelf shelf_after out out_after outcome answer status command =
    split bytes sink_faults out out_after _ outcome.status _ (IsShown words (files shelf) (bytes out) (bytes out_after)) answer.delivers
    (λ due put. zero_is_shown words (files shelf) (shelf_faults shelf) (shelf_faults shelf_after) (bytes out) (bytes out_after) (kept_of outcome) answer.cause answer.holds (sym status ∙ due) put command) (λ five rose. absurd (omega arith))

pub done_lem : {S K : Type 0} (files : S → Option Files) (shelf_faults : S → ℕ) (bytes : K → Option (List ℕ)) (sink_faults : K → ℕ) (words : List (List ℕ)) (shelf shelf_after : S) (out out_after : K) (outcome : Outcome)
    → Answers files shelf_faults bytes sink_faults words shelf shelf_after out out_after outcome → outcome.status ≡ 0 → IsDone words
done_lem files shelf_faults bytes sink_faults words shelf shelf_after out out_after outcome answer status =
    split bytes sink_faults out out_after _ outcome.status _ (IsDone words) answer.delivers
    (λ due put. zero_is_done words (files shelf) (shelf_faults shelf) (shelf_faults shelf_after) (kept_of outcome) answer.cause answer.holds (sym status ∙ due)) (λ five rose. absurd (omega arith))

pub finished_lem : {S K : Type 0} (files : S → Option Files) (shelf_faults : S → ℕ) (bytes : K → Option (List ℕ)) (sink_faults : K → ℕ) (words : List (List ℕ)) (shelf shelf_after : S) (out out_after : K) (outcome : Outcome)
    → Answers files shelf_faults bytes sink_faults words shelf shelf_after out out_after outcome → outcome.status ≡ 0 → (command_of words ≡ Some commands.Run) ⊎ (command_of words ≡ Some commands.Make) → IsAtRest words (files shelf) outcome
finished_lem files shelf_faults bytes sink_faults words shelf shelf_after out out_after outcome answer status command =
    split bytes sink_faults out out_after _ outcome.status _ (IsAtRest words (files shelf) outcome) answer.delivers
    (λ due put. elim command [
      | inl command ↦ at_rest words (files shelf) outcome answer.cause 0 (zero_is_run words (files shelf) (shelf_faults shelf) (shelf_faults shelf_after) (kept_of outcome) commands.Run answer.cause answer.holds (sym status ∙ due) command tt) (sym status ∙ due) (inl refl)
      | inr command ↦ at_rest words (files shelf) outcome answer.cause 0 (zero_is_run words (files shelf) (shelf_faults shelf) (shelf_faults shelf_after) (kept_of outcome) commands.Make answer.cause answer.holds (sym status ∙ due) command tt) (sym status ∙ due) (inl refl)
    ]) (λ five rose. absurd (omega arith))

pub resting_lem : {S K : Type 0} (files : S → Option Files) (shelf_faults : S → ℕ) (bytes : K → Option (List ℕ)) (sink_faults : K → ℕ) (words : List (List ℕ)) (shelf shelf_after : S) (out out_after : K) (outcome : Outcome)
    → Answers files shelf_faults bytes sink_faults words shelf shelf_after out out_after outcome → outcome.status ≡ 7 → IsAtRest words (files shelf) outcome
resting_lem files shelf_faults bytes sink_faults words shelf shelf_after out out_after outcome answer status =
    split bytes sink_faults out out_after _ outcome.status _ (IsAtRest words (files shelf) outcome) answer.delivers
    (λ due put. at_rest words (files shelf) outcome answer.cause 7 (of_run words (files shelf) (shelf_faults shelf) (shelf_faults shelf_after) (kept_of outcome) 7 answer.cause answer.holds (sym status ∙ due) (inl refl)) (sym status ∙ due) (inr refl)) (λ five rose. absurd (omega arith))

pub spent_lem : {S K : Type 0} (files : S → Option Files) (shelf_faults : S → ℕ) (bytes : K → Option (List ℕ)) (sink_faults : K → ℕ) (words : List (List ℕ)) (shelf shelf_after : S) (out out_after : K) (outcome : Outcome)
    → Answers files shelf_faults bytes sink_faults words shelf shelf_after out out_after outcome → outcome.status ≡ 8 → IsSpent words (files shelf) outcome
spent_lem files shelf_faults bytes sink_faults words shelf shelf_after out out_after outcome answer status =
    split bytes sink_faults out out_after _ outcome.status _ (IsSpent words (files shelf) outcome) answer.delivers
    (λ due put. has_spent words (files shelf) outcome answer.cause (of_run words (files shelf) (shelf_faults shelf) (shelf_faults shelf_after) (kept_of outcome) 8 answer.cause answer.holds (sym status ∙ due) (inr refl)) (sym status ∙ due)) (λ five rose. absurd (omega arith))

pub memory_lem : {S K : Type 0} (files : S → Option Files) (shelf_faults : S → ℕ) (bytes : K → Option (List ℕ)) (sink_faults : K → ℕ) (words : List (List ℕ)) (shelf shelf_after : S) (out out_after : K) (outcome : Outcome)
    → Answers files shelf_faults bytes sink_faults words shelf shelf_after out out_after outcome → outcome.status ≡ 6 → outcome.ending ≡ endings.NotRun
memory_lem files shelf_faults bytes sink_faults words shelf shelf_after out out_after outcome answer status =
    split bytes sink_faults out out_after _ outcome.status _ (outcome.ending ≡ endings.NotRun) answer.delivers
    (λ due put. ap (λ (k : Kept). k.ending) (six words (files shelf) (shelf_faults shelf) (shelf_faults shelf_after) (kept_of outcome) answer.cause answer.holds (sym status ∙ due))) (λ five rose. absurd (omega arith))

pub refused_lem : {S K : Type 0} (files : S → Option Files) (shelf_faults : S → ℕ) (bytes : K → Option (List ℕ)) (sink_faults : K → ℕ) (words : List (List ℕ)) (shelf shelf_after : S) (out out_after : K) (outcome : Outcome)
    → Answers files shelf_faults bytes sink_faults words shelf shelf_after out out_after outcome → outcome.ending ≡ endings.NotRun → KeepsNothing outcome
refused_lem files shelf_faults bytes sink_faults words shelf shelf_after out out_after outcome answer none =
    let same : kept_of outcome ≡ nothing_kept = not_run words (files shelf) (shelf_faults shelf) (shelf_faults shelf_after) (kept_of outcome) answer.cause answer.holds none in
    record { history = ap (λ (k : Kept). k.history) same; loose = ap (λ (k : Kept). k.loose) same }

status_along : (status due : ℕ) → status ≡ due → (due ≡ 0) ⊎ (due ≡ 6) → (status ≡ 0) ⊎ (status ≡ 6)
status_along status due same (inl zero_is) = inl (same ∙ zero_is)
status_along status due same (inr six_is) = inr (same ∙ six_is)

run_status_along : (status due : ℕ) → status ≡ due → IsRunStatus due ⊎ (due ≡ 6) → IsRunStatus status ⊎ (status ≡ 6)
run_status_along status due same is = let Family : ℕ → Type 0 = λ n. IsRunStatus n ⊎ (n ≡ 6) in subst Family (sym same) is

pub check_answers_lem : NeverBothMeanings → {S K : Type 0} (files : S → Option Files) (shelf_faults : S → ℕ) (bytes : K → Option (List ℕ)) (sink_faults : K → ℕ) (words : List (List ℕ)) (shelf shelf_after : S) (out out_after : K) (outcome : Outcome)
    → Answers files shelf_faults bytes sink_faults words shelf shelf_after out out_after outcome → CanCheck words (files shelf) → (Rose (shelf_faults shelf) (shelf_faults shelf_after) → ⊥) → (Rose (sink_faults out) (sink_faults out_after) → ⊥) → (outcome.status ≡ 0) ⊎ (outcome.status ≡ 6)
check_answers_lem never_both files shelf_faults bytes sink_faults words shelf shelf_after out out_after outcome answer can calm still =
    split bytes sink_faults out out_after _ outcome.status _ ((outcome.status ≡ 0) ⊎ (outcome.status ≡ 6)) answer.delivers
    (λ due put. status_along _ _ due (checks_all never_both words (files shelf) (shelf_faults shelf) (shelf_faults shelf_after) (kept_of outcome) answer.cause answer.holds can calm)) (λ five rose. absurd (still rose))

pub list_answers_lem : NeverBothMeanings → {S K : Type 0} (files : S → Option Files) (shelf_faults : S → ℕ) (bytes : K → Option (List ℕ)) (sink_faults : K → ℕ) (words : List (List ℕ)) (shelf shelf_after : S) (out out_after : K) (outcome : Outcome)
    → Answers files shelf_faults bytes sink_faults words shelf shelf_after out out_after outcome → CanList words (files shelf) → (Rose (shelf_faults shelf) (shelf_faults shelf_after) → ⊥) → (Rose (sink_faults out) (sink_faults out_after) → ⊥) → (outcome.status ≡ 0) ⊎ (outcome.status ≡ 6)
list_answers_lem never_both files shelf_faults bytes sink_faults words shelf shelf_after out out_after outcome answer can calm still =
    split bytes sink_faults out out_after _ outcome.status _ ((outcome.status ≡ 0) ⊎ (outcome.status ≡ 6)) answer.delivers
    (λ due put. status_along _ _ due (lists_all never_both words (files shelf) (shelf_faults shelf) (shelf_faults shelf_after) (kept_of outcome) answer.cause answer.holds can calm)) (λ five rose. absurd (still rose))

pub run_answers_lem : NeverBothMeanings → {S K : Type 0} (files : S → Option Files) (shelf_faults : S → ℕ) (bytes : K → Option (List ℕ)) (sink_faults : K → ℕ) (words : List (List ℕ)) (shelf shelf_after : S) (out out_after : K) (outcome : Outcome)
    → Answers files shelf_faults bytes sink_faults words shelf shelf_after out out_after outcome → CanRunAll words (files shelf) → (Rose (shelf_faults shelf) (shelf_faults shelf_after) → ⊥) → (Rose (sink_faults out) (sink_faults out_after) → ⊥) → IsRunStatus outcome.status ⊎ (outcome.status ≡ 6)
run_answers_lem never_both files shelf_faults bytes sink_faults words shelf shelf_after out out_after outcome answer can calm still =
    split bytes sink_faults out out_after _ outcome.status _ (IsRunStatus outcome.status ⊎ (outcome.status ≡ 6)) answer.delivers
    (λ due put. run_status_along _ _ due (runs_told never_both words (files shelf) (shelf_faults shelf) (shelf_faults shelf_after) (kept_of outcome) answer.cause answer.holds can calm)) (λ five rose. absurd (still rose))

pub make_answers_lem : NeverBothMeanings → {S K : Type 0} (files : S → Option Files) (shelf_faults : S → ℕ) (bytes : K → Option (List ℕ)) (sink_faults : K → ℕ) (words : List (List ℕ)) (shelf shelf_after : S) (out out_after : K) (outcome : Outcome)
    → Answers files shelf_faults bytes sink_faults words shelf shelf_after out out_after outcome → CanMake words → (Rose (sink_faults out) (sink_faults out_after) → ⊥) → IsRunStatus outcome.status ⊎ (outcome.status ≡ 6)
make_answers_lem never_both files shelf_faults bytes sink_faults words shelf shelf_after out out_after outcome answer can still =
    split bytes sink_faults out out_after _ outcome.status _ (IsRunStatus outcome.status ⊎ (outcome.status ≡ 6)) answer.delivers
    (λ due put. run_status_along _ _ due (makes_all never_both words (files shelf) (shelf_faults shelf) (shelf_faults shelf_after) (kept_of outcome) can answer.cause answer.holds)) (λ five rose. absurd (still rose))
