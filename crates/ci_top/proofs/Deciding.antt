-- The causes of decisions.
use Rattle.std.proofs.Common.{◌≡◌, ℕ, ◌⊎◌, ◌∷◌, List, [], ◌++◌, length, Option, None, Some, refl, ◌∙◌, ap, sym, subst, inl, inr}
use Rattle.std.proofs.lemmas.List.{length-map}
use Rattle.ci_words.specs.Role.{word_at}
use Rattle.ci_words.proofs.Ordered.{IsOrdered, ordered}
use Rattle.ci_outside.specs.Shelf.{Files}
use Rattle.ci_runtime.specs.declared.ended.Ended.{Ended}
use Rattle.ci_source.specs.Compiling.{compiles}
use Rattle.ci_tree.specs.Bound.{Project}
use Rattle.ci_tree.specs.SeenBound.{project_of}
use Rattle.ci_words.specs.declared.command.Command.{Command}
use Rattle.ci_words.specs.declared.command.Command.TheVariants as commands
use Rattle.ci_words.specs.declared.order.Order.{Order}
use Rattle.ci_workload.specs.Workload.{workload_text}
use Rattle.ci_top.specs.declared.accept.Job.{Job}
use Rattle.ci_top.specs.declared.accept.Job.TheVariants as jobs
use Rattle.ci_top.specs.declared.decision.Decision.{Decision}
use Rattle.ci_top.specs.declared.decision.Decision.TheVariants as decisions
use Rattle.ci_top.specs.declared.decision.Made.{Made}
use Rattle.ci_top.specs.Answers.{words_refused, workers_refused, order_not_built, not_fetched, source_refused, script_refused, checked, listed, no_memory, ran, told_text, words_text, file_text, run_text}
use Rattle.ci_top.specs.Asked.{names_of, wanted_of, wanted_sources, AskFor, AreRefused, AsksJob, AsksRun, command_of}
use Rattle.ci_top.specs.Fetching.{Wanted, Fetched}
use Rattle.ci_top.specs.Decisions.{Decided, RefusesWords, StopsFetching, IsFetched, IsReadBy, OfList, OfProject, OfRun, OfTexts, TellsSource, made_from, told_run}
use Rattle.ci_top.specs.Reading.{Texts, HasAll, fetched_texts, made_texts, names_by, names_told, texts_by}
use Rattle.ci_top.proofs.Causes.{one_order, refused-not_asked}
use Rattle.ci_base.specs.declared.bounds.TheConstants.{MOST_SOURCE_BYTES}
use Rattle.ci_top.proofs.Fetching.{Fetched-length, length-wanted}
use Rattle.ci_top.proofs.Made.{makes-no_sources, makes-no_scripts}

-- words that are refused
pub decided-words : (words : List (List ℕ)) (files : Option Files) (before now : ℕ) (decision : Decision) → RefusesWords words decision → Decided words files before now decision
decided-words words files before now (decisions.WordsRefused fault) (inl holds) = record { cause = words_refused fault; holds = (refl, holds); text_is = refl; status_is = refl }
decided-words words files before now (decisions.WordsRefused fault) (inr (index, holds, fault_is)) = record { cause = workers_refused index; holds = (refl, holds); text_is = ap words_text fault_is; status_is = refl }
decided-words words files before now decisions.OrderNotBuilt holds = record { cause = order_not_built; holds = (refl, holds); text_is = refl; status_is = refl }
decided-words words files before now (decisions.NotFetched fault number name) none = absurd none
decided-words words files before now (decisions.SourceRefused name fault at) none = absurd none
decided-words words files before now (decisions.ScriptRefused fault) none = absurd none
decided-words words files before now decisions.Checked none = absurd none
decided-words words files before now (decisions.Listed program) none = absurd none
decided-words words files before now decisions.NoMemory none = absurd none
decided-words words files before now (decisions.Ran made ended) none = absurd none

-- there was no memory
no-memory : (words : List (List ℕ)) (files : Option Files) (before now : ℕ) (asked : Order) → AskFor words asked → Decided words files before now decisions.NoMemory
no-memory words files before now asked asks = record { cause = no_memory; holds = (refl, asked, asks); text_is = refl; status_is = refl }

-- a file that isn't fetched
pub decided-stopped : (words : List (List ℕ)) (files : Option Files) (before now : ℕ) (asked : Order) (decision : Decision) → AskFor words asked → StopsFetching files before now (wanted_of words asked) decision → Decided words files before now decision
decided-stopped words files before now asked (decisions.NotFetched fault number name) asks (file, name_is, next, holds) = record {
  cause = not_fetched fault number file;
  holds = (refl, record { asked = asked; asks = asks; next = next }, holds);
  text_is = ap (file_text fault number) (sym name_is);
  status_is = refl;
}
decided-stopped words files before now asked decisions.NoMemory asks stops = no-memory words files before now asked asks
decided-stopped words files before now asked (decisions.WordsRefused fault) asks none = absurd none
decided-stopped words files before now asked decisions.OrderNotBuilt asks none = absurd none
decided-stopped words files before now asked (decisions.SourceRefused name fault at) asks none = absurd none
decided-stopped words files before now asked (decisions.ScriptRefused fault) asks none = absurd none
decided-stopped words files before now asked decisions.Checked asks none = absurd none
decided-stopped words files before now asked (decisions.Listed program) asks none = absurd none
decided-stopped words files before now asked (decisions.Ran made ended) asks none = absurd none

-- what was fetched for an order that works on it
has-fetched : (words : List (List ℕ)) (files : Option Files) (asked : Order) (texts : Texts) → AskFor words asked → ((fetched : Texts) → texts_by asked.command asked.number fetched ≡ fetched) → IsFetched words files asked texts → HasAll words files texts
has-fetched words files asked texts asks by read = record {
  asked = asked;
  asks = asks;
  sources = read.sources;
  sources_fetched = read.sources_fetched;
  scripts = read.scripts;
  scripts_fetched = read.scripts_fetched;
  texts_are = read.texts_are ∙ sym (by (fetched_texts read.sources read.scripts));
}

-- what was made for `make`
pub has-made : (words : List (List ℕ)) (files : Option Files) (asked : Order) → AskFor words asked → asked.command ≡ commands.Make → HasAll words files (made_texts asked.number)
has-made words files asked asks makes =
    let Nothing : List Wanted → Type 0 = λ l. Fetched files l [] in
    record {
      asked = asked;
      asks = asks;
      sources = [];
      sources_fetched = subst Nothing (sym (makes-no_sources words asked asks.words_are makes)) tt;
      scripts = [];
      scripts_fetched = subst Nothing (sym (makes-no_scripts words asked asks.words_are makes)) tt;
      texts_are = ap (λ c. texts_by c asked.number (fetched_texts [] [])) (sym makes);
    }

-- what was read is all that the order works on
pub has-all : (words : List (List ℕ)) (files : Option Files) (asked : Order) (texts : Texts) → AskFor words asked → IsReadBy asked.command words files asked texts → HasAll words files texts
has-all words files asked texts asks read = by_command asked.command refl read where
  by_command : (c : Command) → asked.command ≡ c → IsReadBy c words files asked texts → HasAll words files texts
  by_command commands.Run same read = has-fetched words files asked texts asks (λ f. ap (λ c. texts_by c asked.number f) same) read
  by_command commands.Check same read = has-fetched words files asked texts asks (λ f. ap (λ c. texts_by c asked.number f) same) read
  by_command commands.List same read = has-fetched words files asked texts asks (λ f. ap (λ c. texts_by c asked.number f) same) read
  by_command commands.Replay same read = has-fetched words files asked texts asks (λ f. ap (λ c. texts_by c asked.number f) same) read
  by_command commands.Make same read = let Has : Texts → Type 0 = HasAll words files in subst Has (sym read) (has-made words files asked asks same)

-- the first fault of what was read
decided-source : (words : List (List ℕ)) (files : Option Files) (before now : ℕ) (texts : Texts) (decision : Decision) → (read : HasAll words files texts) → TellsSource (names_told words read.asked) texts.sources decision → Decided words files before now decision
decided-source words files before now texts (decisions.SourceRefused name fault at) read tells = record {
  cause = source_refused name.now tells.source fault tells.offset;
  holds = (refl, record { texts = texts; read = read; file = tells.file; name_is = tells.name_is; source_is = tells.source_is; refused = tells.refused });
  text_is = ap (λ p. name.now ++ told_text p fault) tells.at_is;
  status_is = refl;
}
decided-source words files before now texts (decisions.WordsRefused fault) read none = absurd none
decided-source words files before now texts decisions.OrderNotBuilt read none = absurd none
decided-source words files before now texts (decisions.NotFetched fault number name) read none = absurd none
decided-source words files before now texts (decisions.ScriptRefused fault) read none = absurd none
decided-source words files before now texts decisions.Checked read none = absurd none
decided-source words files before now texts (decisions.Listed program) read none = absurd none
decided-source words files before now texts decisions.NoMemory read none = absurd none
decided-source words files before now texts (decisions.Ran made ended) read none = absurd none

-- what is told of the run of what was read
told-text : (asked : Order) (size : Option ℕ) (texts : Texts) (made : Option Made) (ended : Ended) (fetched : Texts) → AsksRun asked size → texts ≡ texts_by asked.command asked.number fetched → made ≡ made_from size texts.sources
    → told_run made ended.history.entries ended.end ≡ run_text size ended.history.entries ended.end
told-text asked None texts made ended fetched runs texts_are made_is = ap (λ m. told_run m ended.history.entries ended.end) made_is
told-text asked (Some n) texts made ended fetched (makes, number) texts_are made_is =
    let are : texts ≡ made_texts n = texts_are ∙ ap (λ c. texts_by c asked.number fetched) makes ∙ ap made_texts number in
    let is : made ≡ made_from (Some n) (workload_text n ∷ []) = made_is ∙ ap (λ (t : Texts). made_from (Some n) t.sources) are in
    ap (λ m. told_run m ended.history.entries ended.end) is

-- a run of what was read
decided-run : (words : List (List ℕ)) (files : Option Files) (before now : ℕ) (texts : Texts) (size : Option ℕ) (project : Project) (decision : Decision) → (read : HasAll words files texts)
    → AsksRun read.asked size → compiles texts.sources project → OfRun size read.asked.limits texts project decision → Decided words files before now decision
decided-run words files before now texts size project (decisions.ScriptRefused fault) read runs compiled refused = record {
  cause = script_refused fault;
  holds = (refl, record { texts = texts; read = read; size = size; runs = runs; compiled = (project, compiled); refused = refused });
  text_is = refl;
  status_is = refl;
}
decided-run words files before now texts size project decisions.NoMemory read runs compiled of = no-memory words files before now read.asked read.asks
decided-run words files before now texts size project (decisions.Ran made ended) read runs compiled (made_is, (origin, project_is, scripted, is_run)) =
    let Compiled : Project → Type 0 = compiles texts.sources in
    record {
      cause = ran size origin ended.end.instructions;
      holds = record {
        texts = texts;
        read = read;
        runs = runs;
        compiled = subst Compiled (sym project_is) compiled;
        scripted = scripted;
        run = is_run.serial;
      };
      text_is = told-text read.asked size texts made ended (fetched_texts read.sources read.scripts) runs read.texts_are made_is
          ∙ ap (run_text size ended.history.entries) is_run.end_is;
      status_is = refl;
    }
decided-run words files before now texts size project (decisions.WordsRefused fault) read runs compiled none = absurd none
decided-run words files before now texts size project decisions.OrderNotBuilt read runs compiled none = absurd none
decided-run words files before now texts size project (decisions.NotFetched fault number name) read runs compiled none = absurd none
decided-run words files before now texts size project (decisions.SourceRefused name fault at) read runs compiled none = absurd none
decided-run words files before now texts size project decisions.Checked read runs compiled none = absurd none
decided-run words files before now texts size project (decisions.Listed program) read runs compiled none = absurd none

-- the listing of what was read
decided-list : (words : List (List ℕ)) (files : Option Files) (before now : ℕ) (texts : Texts) (project : Project) (decision : Decision) → (read : HasAll words files texts)
    → read.asked.command ≡ commands.List → compiles texts.sources project → OfList project decision → Decided words files before now decision
decided-list words files before now texts project (decisions.Listed program) read lists compiled same =
    let Compiled : Project → Type 0 = compiles texts.sources in
    record {
      cause = listed (project_of program);
      holds = (refl, record { texts = texts; read = read; lists = lists; compiled = subst Compiled (sym same) compiled });
      text_is = refl;
      status_is = refl;
    }
decided-list words files before now texts project decisions.NoMemory read lists compiled of = no-memory words files before now read.asked read.asks
decided-list words files before now texts project (decisions.WordsRefused fault) read lists compiled none = absurd none
decided-list words files before now texts project decisions.OrderNotBuilt read lists compiled none = absurd none
decided-list words files before now texts project (decisions.NotFetched fault number name) read lists compiled none = absurd none
decided-list words files before now texts project (decisions.SourceRefused name fault at) read lists compiled none = absurd none
decided-list words files before now texts project (decisions.ScriptRefused fault) read lists compiled none = absurd none
decided-list words files before now texts project decisions.Checked read lists compiled none = absurd none
decided-list words files before now texts project (decisions.Ran made ended) read lists compiled none = absurd none

-- a job over what compiles
decided-job : (words : List (List ℕ)) (files : Option Files) (before now : ℕ) (texts : Texts) (job : Job) (project : Project) (decision : Decision) → (read : HasAll words files texts)
    → AsksJob read.asked job → compiles texts.sources project → OfProject job read.asked.limits texts project decision → Decided words files before now decision
decided-job words files before now texts (jobs.Run size) project decision read asks compiled of = decided-run words files before now texts size project decision read asks compiled of
decided-job words files before now texts jobs.Check project decision read asks compiled same =
    let Family : Decision → Type 0 = Decided words files before now in
    subst Family (sym same) (record { cause = checked; holds = (refl, record { texts = texts; read = read; checks = asks; compiled = (project, compiled) }); text_is = refl; status_is = refl })
decided-job words files before now texts jobs.List project decision read asks compiled of = decided-list words files before now texts project decision read asks compiled of

-- what becomes of what was read
decided-read : (words : List (List ℕ)) (files : Option Files) (before now : ℕ) (texts : Texts) (job : Job) (decision : Decision) → (read : HasAll words files texts)
    → AsksJob read.asked job → OfTexts job read.asked.limits (names_told words read.asked) texts decision → Decided words files before now decision
decided-read words files before now texts job decision read asks (inl same) =
    let Family : Decision → Type 0 = Decided words files before now in
    subst Family (sym same) (no-memory words files before now read.asked read.asks)
decided-read words files before now texts job decision read asks (inr (inl tells)) = decided-source words files before now texts decision read tells
decided-read words files before now texts job decision read asks (inr (inr (project, compiled, of))) = decided-job words files before now texts job project decision read asks compiled of

-- what was read for the order that was accepted
pub decided-texts : (words : List (List ℕ)) (files : Option Files) (before now : ℕ) (asked : Order) (texts : Texts) (job : Job) (decision : Decision) → AskFor words asked
    → IsReadBy asked.command words files asked texts → AsksJob asked job → OfTexts job asked.limits (names_told words asked) texts decision → Decided words files before now decision
decided-texts words files before now asked texts job decision asks read asks_job of =
    let all : HasAll words files texts = has-all words files asked texts asks read in
    let same : all.asked ≡ asked = one_order words all.asked asked all.asks.words_are asks.words_are in
    let Asks : Order → Type 0 = λ a. AsksJob a job in
    let Of : Order → Type 0 = λ a. OfTexts job a.limits (names_told words a) texts decision in
    decided-read words files before now texts job decision all (subst Asks (sym same) asks_job) (subst Of (sym same) of)

-- each source that was read has a name
fetched-named : (words : List (List ℕ)) (files : Option Files) (asked : Order) (texts : Texts) → IsFetched words files asked texts → length (names_of words asked) ≡ length texts.sources
fetched-named words files asked texts read =
    length-map asked.files (word_at words) ∙ sym (length-wanted MOST_SOURCE_BYTES words asked.files) ∙ sym (Fetched-length files (wanted_sources words asked) read.sources read.sources_fetched)
    ∙ ap (λ (t : Texts). length t.sources) (sym read.texts_are)

pub named-sources : (words : List (List ℕ)) (files : Option Files) (asked : Order) (texts : Texts) → IsReadBy asked.command words files asked texts → length (names_told words asked) ≡ length texts.sources
named-sources words files asked texts read = by_command asked.command read where
  by_command : (c : Command) → IsReadBy c words files asked texts → length (names_by c (names_of words asked)) ≡ length texts.sources
  by_command commands.Run read = fetched-named words files asked texts read
  by_command commands.Check read = fetched-named words files asked texts read
  by_command commands.List read = fetched-named words files asked texts read
  by_command commands.Replay read = fetched-named words files asked texts read
  by_command commands.Make read = ap (λ (t : Texts). length t.sources) (sym read)

-- words that are refused, and those of `make`, leave the shelf as it is
pub unfetched : {S : Type 0} (words : List (List ℕ)) (asked : Order) (shelf shelf' : S) → AskFor words asked → (asked.command ≡ commands.Make → shelf' ≡ shelf) → AreRefused words ⊎ (command_of words ≡ Some commands.Make) → shelf' ≡ shelf
unfetched words asked shelf shelf' asks untouched (inl refused) = absurd (refused-not_asked words asked refused asks)
unfetched words asked shelf shelf' asks untouched (inr spelled) =
    let is : IsOrdered words asked = ordered words asked asks.words_are in
    untouched (same_command asked.command commands.Make (sym is.spelled ∙ spelled)) where
      same_command : (c d : Command) → Some c ≡ Some d → c ≡ d
      same_command c d same = cc
