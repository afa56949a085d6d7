-- Two causes that hold of the same words agree.
use Rattle.std.proofs.Common.{◌≡◌, ℕ, ◌<◌, ◌≤◌, true, false, List, [], ◌∷◌, ◌++◌, length, Option, Some, None, Result, Ok, Err, IsSomeAnd, refl, sym, ◌∙◌, ap, subst, arith, inl, inr}
use Rattle.std.specs.FinMap.{get}
use Rattle.std.specs.List.{slice_get}
use Rattle.ci_base.specs.declared.entry.Entry.{Entry}
use Rattle.ci_base.specs.declared.event.Event.{Event}
use Rattle.ci_base.specs.declared.limits.Ending.{Ending}
use Rattle.ci_base.specs.declared.limits.Limits.{Limits}
use Rattle.ci_base.specs.declared.list.Loose.{Loose}
use Rattle.ci_outside.specs.Causes.{Rose}
use Rattle.ci_outside.specs.Shelf.{Files, HasFile}
use Rattle.ci_runtime.specs.Runs.{IsSerialRun}
use Rattle.ci_script.specs.declared.fault.ScriptFault.{ScriptFault}
use Rattle.ci_script.specs.Scripts.{Told, script_fault, events}
use Rattle.ci_source.specs.declared.fault.Fault.{Fault}
use Rattle.ci_source.specs.Compiling.{HasFirstFault, compiles}
use Rattle.ci_source.specs.Laws.{HaveOneFirstFault, NeverBothMeanings, HaveOneProject}
use Rattle.ci_tree.specs.Bound.{Project}
use Rattle.ci_words.specs.declared.command.Command.{Command}
use Rattle.ci_words.specs.declared.command.Command.TheVariants as commands
use Rattle.ci_words.specs.declared.fault.WordFault.{WordFault}
use Rattle.ci_words.specs.declared.order.Order.{Order}
use Rattle.ci_words.specs.Order.{Orders}
use Rattle.ci_words.proofs.Answer.{one_answer}
use Rattle.ci_world.specs.Laws.{OneSerial}
use Rattle.ci_world.specs.Serial.{Progress, loose as loose_ticks}
use Rattle.ci_world.specs.World.{Origin}
use Rattle.ci_top.specs.declared.decision.FileFault.{FileFault}
use Rattle.ci_top.specs.declared.decision.FileFault.TheVariants as faults
use Rattle.ci_top.specs.Answers.{Kept, words_refused, workers_refused, order_not_built, not_fetched, source_refused, script_refused, checked, listed, no_memory, ran, FaultHolds, Compiles, IsRun, IsRefused, IsScriptRefused, IsListed}
use Rattle.ci_top.specs.Asked.{wanted_of, wanted_sources, wanted_scripts, is_built, AskFor, AskForWorkers, AreRefused, AsksRun}
use Rattle.ci_top.specs.Fetching.{Wanted, Fetched}
use Rattle.ci_top.specs.OneCause.{OneCause, IsOneRun}
use Rattle.ci_top.specs.Reading.{Texts, ComesTo, HasAll, texts_by, fetched_texts, names_told}
use Rattle.ci_top.proofs.Fetching.{Fetched-append}

option_clash : {A : Type 0} (x : A) (o : Option A) → o ≡ None → o ≡ Some x → ⊥
option_clash {A} x o none some =
    let Family : Option A → Type 0 = λ p. elim p [ None ↦ Unit {0} | Some y ↦ ⊥ ] in
    subst Family (sym none ∙ some) tt

-- a file that was fetched isn't at fault
fetched-no_fault : (files : Files) (before now : ℕ) (fault : FileFault) (file : Wanted) (content : List ℕ) → (Rose before now → ⊥) → HasFile (Some files) file.name content → length content ≤ file.limit
    → FaultHolds (Some files) before now fault file → ⊥
fetched-no_fault files before now faults.Absent file content calm has within lacks = option_clash content (get files file.name) lacks has
fetched-no_fault files before now faults.ReadFault file content calm has within rose = calm rose
fetched-no_fault files before now faults.TooLong file content calm has within long =
    let Family : Option (List ℕ) → Type 0 = λ o. IsSomeAnd o (λ c. file.limit < length c) in
    let longer : file.limit < length content = subst Family has long in
    omega arith

-- a file that isn't there isn't too long
absent-not_long : (files : Files) (before now : ℕ) (file : Wanted) → FaultHolds (Some files) before now faults.Absent file → FaultHolds (Some files) before now faults.TooLong file → ⊥
absent-not_long files before now file lacks long = none-holds (λ c. file.limit < length c) (get files file.name) lacks long where
  none-holds : {A : Type 0} (P : A → Type 0) (o : Option A) → o ≡ None → IsSomeAnd o P → ⊥
  none-holds P None none holds = holds
  none-holds P (Some x) none holds = option_clash x (Some x) none refl

-- one file has one fault
same_fault : (files : Files) (before now : ℕ) (fault other : FileFault) (file : Wanted) → (Rose before now → ⊥) → FaultHolds (Some files) before now fault file → FaultHolds (Some files) before now other file
    → fault ≡ other
same_fault files before now faults.Absent faults.Absent file calm one two = refl
same_fault files before now faults.Absent faults.ReadFault file calm one two = absurd (calm two)
same_fault files before now faults.Absent faults.TooLong file calm one two = absurd (absent-not_long files before now file one two)
same_fault files before now faults.ReadFault other file calm one two = absurd (calm one)
same_fault files before now faults.TooLong faults.Absent file calm one two = absurd (absent-not_long files before now file two one)
same_fault files before now faults.TooLong faults.ReadFault file calm one two = absurd (calm two)
same_fault files before now faults.TooLong faults.TooLong file calm one two = refl

-- the file has this content, within its limit
abbrev IsThere : Files → List ℕ → Wanted → Type 0
IsThere files content file = HasFile (Some files) file.name content × (length content ≤ file.limit)

-- each of the files that were fetched is there
fetched-at : (files : Files) (front behind : List Wanted) (file : Wanted) (contents : List (List ℕ)) → Fetched (Some files) (front ++ file ∷ behind) contents → (content : List ℕ) × IsThere files content file
fetched-at files [] behind file [] none = absurd none
fetched-at files [] behind file (content ∷ contents) fetched = (content, (fetched.0, fetched.1))
fetched-at files (x ∷ front) behind file [] none = absurd none
fetched-at files (x ∷ front) behind file (content ∷ contents) fetched = fetched-at files front behind file contents fetched.2

-- the first file at fault is one
first_fault : (files : Files) (before now : ℕ) (fault other : FileFault) (front front' behind behind' : List Wanted) (file file' : Wanted) (contents contents' : List (List ℕ))
    → (Rose before now → ⊥) → front ++ file ∷ behind ≡ front' ++ file' ∷ behind' → Fetched (Some files) front contents → Fetched (Some files) front' contents'
    → FaultHolds (Some files) before now fault file → FaultHolds (Some files) before now other file' → (length front ≡ length front') × (file ≡ file')
first_fault files before now fault other [] [] behind behind' file file' contents contents' calm wanted one two holds holds' = (refl, cc)
first_fault files before now fault other [] (x ∷ front') behind behind' file file' contents [] calm wanted one none holds holds' = absurd none
first_fault files before now fault other [] (x ∷ front') behind behind' file file' contents (content ∷ contents') calm wanted one two holds holds' =
    let same : x ≡ file = cc in
    let there : IsThere files content file = subst (IsThere files content) same (two.0, two.1) in
    absurd (fetched-no_fault files before now fault file content calm there.0 there.1 holds)
first_fault files before now fault other (x ∷ front) [] behind behind' file file' [] contents' calm wanted none two holds holds' = absurd none
first_fault files before now fault other (x ∷ front) [] behind behind' file file' (content ∷ contents) contents' calm wanted one two holds holds' =
    let same : x ≡ file' = cc in
    let there : IsThere files content file' = subst (IsThere files content) same (one.0, one.1) in
    absurd (fetched-no_fault files before now other file' content calm there.0 there.1 holds')
first_fault files before now fault other (x ∷ front) (y ∷ front') behind behind' file file' [] contents' calm wanted none two holds holds' = absurd none
first_fault files before now fault other (x ∷ front) (y ∷ front') behind behind' file file' (content ∷ contents) [] calm wanted one none holds holds' = absurd none
first_fault files before now fault other (x ∷ front) (y ∷ front') behind behind' file file' (content ∷ contents) (content' ∷ contents') calm wanted one two holds holds' =
    let rest : front ++ file ∷ behind ≡ front' ++ file' ∷ behind' = cc in
    let found : (length front ≡ length front') × (file ≡ file') =
    first_fault files before now fault other front front' behind behind' file file' contents contents' calm rest one.2 two.2 holds holds' in
    (omega (arith, found.0), found.1)

-- the words have one order
pub one_order : (words : List (List ℕ)) (asked asked' : Order) → Orders words (Ok asked) → Orders words (Ok asked') → asked ≡ asked'
one_order words asked asked' one two =
    let left : Result Order WordFault = Ok asked' in
    let both : left ≡ Ok asked = one_answer words (Ok asked) (Ok asked') one two in
    cc

-- the words have one fault
one_refusal : (words : List (List ℕ)) (fault other : WordFault) → Orders words (Err fault) → Orders words (Err other) → fault ≡ other
one_refusal words fault other one two =
    let left : Result Order WordFault = Err other in
    let both : left ≡ Err fault = one_answer words (Err fault) (Err other) one two in
    cc

-- words that are in order have no fault
order_clash : (words : List (List ℕ)) (asked : Order) (fault : WordFault) → Orders words (Ok asked) → Orders words (Err fault) → ⊥
order_clash words asked fault one two =
    let Family : Result Order WordFault → Type 0 = λ r. elim r [ Ok a ↦ ⊥ | Err e ↦ Unit {0} ] in
    subst Family (one_answer words (Ok asked) (Err fault) one two) tt

true_clash : false ≡ true → ⊥
true_clash same = cc

-- workers that are asked for are above 0
workers_clash : (words : List (List ℕ)) (index : ℕ) (asked : Order) → AskForWorkers words index → Orders words (Ok asked) → asked.limits.workers ≡ 0 → ⊥
workers_clash words index asked refused asks alone =
    let same : refused.asked ≡ asked = one_order words refused.asked asked refused.words_are asks in
    let workers : refused.asked.limits.workers ≡ asked.limits.workers = ap (λ o. o.limits.workers) same in
    let some : 0 < refused.asked.limits.workers = refused.some in
    omega arith

-- words that are refused ask for no order that can be done
pub refused-not_asked : (words : List (List ℕ)) (asked : Order) → AreRefused words → AskFor words asked → ⊥
refused-not_asked words asked (inl (fault, has)) asks = order_clash words asked fault asks.words_are has
refused-not_asked words asked (inr (inl (index, refused))) asks = workers_clash words index asked refused asks.words_are asks.alone
refused-not_asked words asked (inr (inr refused)) asks =
    let same : is_built refused.asked ≡ is_built asked = ap is_built (one_order words refused.asked asked refused.words_are asks.words_are) in
    true_clash (sym refused.unbuilt ∙ same ∙ asks.built)

-- workers are asked for at one index
one_index : (words : List (List ℕ)) (index other : ℕ) → AskForWorkers words index → AskForWorkers words other → index ≡ other
one_index words index other one two =
    let same : one.asked ≡ two.asked = one_order words one.asked two.asked one.words_are two.words_are in
    let both : Some index ≡ Some other = sym one.index_is ∙ ap (λ o. o.workers_at) same ∙ two.index_is in
    cc

-- files have one list of contents
one_contents : (files : Files) (wanted : List Wanted) (contents contents' : List (List ℕ)) → Fetched (Some files) wanted contents → Fetched (Some files) wanted contents' → contents ≡ contents'
one_contents files [] [] [] one two = refl
one_contents files [] [] (c ∷ cs) one none = absurd none
one_contents files [] (c ∷ cs) contents' none two = absurd none
one_contents files (file ∷ wanted) [] contents' none two = absurd none
one_contents files (file ∷ wanted) (c ∷ cs) [] one none = absurd none
one_contents files (file ∷ wanted) (c ∷ cs) (d ∷ ds) one two =
    let same : c ≡ d = some_same c d (sym one.0 ∙ two.0) in
    let rest : cs ≡ ds = one_contents files wanted cs ds one.2 two.2 in
    cc where
      some_same : (x y : List ℕ) → Some x ≡ Some y → x ≡ y
      some_same x y e = cc

-- an order wants one list of files
one_wanted : (words : List (List ℕ)) (asked other : Order) → AskFor words asked → AskFor words other → wanted_of words asked ≡ wanted_of words other
one_wanted words asked other one two = ap (wanted_of words) (one_order words asked other one.words_are two.words_are)

-- where a file is at fault, not all files were fetched
pub not_all : (words : List (List ℕ)) (files : Files) (before now number : ℕ) (fault : FileFault) (file : Wanted) (texts : Texts) → (Rose before now → ⊥) → ComesTo words (Some files) number file
    → FaultHolds (Some files) before now fault file → HasAll words (Some files) texts → ⊥
not_all words files before now number fault file texts calm comes holds all =
    let whole : Fetched (Some files) (wanted_of words all.asked) (all.sources ++ all.scripts) =
    Fetched-append (Some files) (wanted_sources words all.asked) (wanted_scripts words all.asked) all.sources all.scripts all.sources_fetched all.scripts_fetched in
    let wanted : wanted_of words all.asked ≡ comes.next.before ++ file ∷ comes.next.after =
    one_wanted words all.asked comes.asked all.asks comes.asks ∙ comes.next.wanted_are in
    let Family : List Wanted → Type 0 = λ l. Fetched (Some files) l (all.sources ++ all.scripts) in
    let found : (content : List ℕ) × IsThere files content file = fetched-at files comes.next.before comes.next.after file (all.sources ++ all.scripts) (subst Family wanted whole) in
    fetched-no_fault files before now fault file found.0 calm found.1.0 found.1.1 holds

-- the words ask for one order
same_asked : (words : List (List ℕ)) (files : Option Files) (texts texts' : Texts) (one : HasAll words files texts) (two : HasAll words files texts') → one.asked ≡ two.asked
same_asked words files texts texts' one two = one_order words one.asked two.asked one.asks.words_are two.asks.words_are

-- it works on one thing
pub same_texts : (words : List (List ℕ)) (files : Files) (texts texts' : Texts) → HasAll words (Some files) texts → HasAll words (Some files) texts' → texts ≡ texts'
same_texts words files texts texts' one two =
    let asked : one.asked ≡ two.asked = same_asked words (Some files) texts texts' one two in
    let Sources : Order → Type 0 = λ a. Fetched (Some files) (wanted_sources words a) two.sources in
    let Scripts : Order → Type 0 = λ a. Fetched (Some files) (wanted_scripts words a) two.scripts in
    let sources : one.sources ≡ two.sources =
    one_contents files (wanted_sources words one.asked) one.sources two.sources one.sources_fetched (subst Sources (sym asked) two.sources_fetched) in
    let scripts : one.scripts ≡ two.scripts =
    one_contents files (wanted_scripts words one.asked) one.scripts two.scripts one.scripts_fetched (subst Scripts (sym asked) two.scripts_fetched) in
    one.texts_are ∙ ap (λ (a : Order). texts_by a.command a.number (fetched_texts one.sources one.scripts)) asked
    ∙ ap (λ s. texts_by two.asked.command two.asked.number (fetched_texts s one.scripts)) sources
    ∙ ap (λ s. texts_by two.asked.command two.asked.number (fetched_texts two.sources s)) scripts ∙ sym two.texts_are

-- two files at fault are one
same_file : (words : List (List ℕ)) (files : Files) (before now : ℕ) (fault other : FileFault) (number number' : ℕ) (file file' : Wanted) → (Rose before now → ⊥)
    → ComesTo words (Some files) number file → FaultHolds (Some files) before now fault file → ComesTo words (Some files) number' file' → FaultHolds (Some files) before now other file'
    → not_fetched fault number file ≡ not_fetched other number' file'
same_file words files before now fault other number number' file file' calm one holds two holds' =
    let wanted : one.next.before ++ file ∷ one.next.after ≡ two.next.before ++ file' ∷ two.next.after =
    sym one.next.wanted_are ∙ one_wanted words one.asked two.asked one.asks two.asks ∙ two.next.wanted_are in
    let found : (length one.next.before ≡ length two.next.before) × (file ≡ file') =
    first_fault files before now fault other one.next.before two.next.before one.next.after two.next.after file file' one.next.contents two.next.contents calm wanted one.next.fetched two.next.fetched holds holds' in
    let Family : Wanted → Type 0 = λ f. FaultHolds (Some files) before now other f in
    let faults_same : fault ≡ other = same_fault files before now fault other file calm holds (subst Family (sym found.1) holds') in
    let files_same : file ≡ file' = found.1 in
    let numbers_same : number ≡ number' = omega (arith, one.next.number_is, two.next.number_is, found.0) in
    cc

-- a list has one member at an index
one_member : (xs ys : List (List ℕ)) (i j : ℕ) (x y : List ℕ) → xs ≡ ys → i ≡ j → slice_get xs i ≡ Some x → slice_get ys j ≡ Some y → x ≡ y
one_member xs ys i j x y lists indexes one two =
    let both : slice_get xs i ≡ slice_get ys j = ap (λ l. slice_get l i) lists ∙ ap (slice_get ys) indexes in
    let same : Some x ≡ Some y = sym one ∙ both ∙ two in
    cc

-- sources are refused in one way
same_refusal : HaveOneFirstFault → (words : List (List ℕ)) (files : Files) (name name' source source' : List ℕ) (fault fault' : Fault) (offset offset' : ℕ)
    → IsRefused words (Some files) name source fault offset → IsRefused words (Some files) name' source' fault' offset' → source_refused name source fault offset ≡ source_refused name' source' fault' offset'
same_refusal one_fault words files name name' source source' fault fault' offset offset' one two =
    let lists : one.texts.sources ≡ two.texts.sources = ap (λ (t : Texts). t.sources) (same_texts words files one.texts two.texts one.read two.read) in
    let Family : List (List ℕ) → Type 0 = λ l. HasFirstFault l two.file fault' offset' in
    let found : (one.file ≡ two.file) × (fault ≡ fault') × (offset ≡ offset') =
    one_fault one.texts.sources one.file two.file fault fault' offset offset' one.refused (subst Family (sym lists) two.refused) in
    let named : names_told words one.read.asked ≡ names_told words two.read.asked = ap (names_told words) (same_asked words (Some files) one.texts two.texts one.read two.read) in
    let names : name ≡ name' = one_member _ _ one.file two.file name name' named found.0 one.name_is two.name_is in
    let sources : source ≡ source' = one_member one.texts.sources two.texts.sources one.file two.file source source' lists found.0 one.source_is two.source_is in
    let faults_same : fault ≡ fault' = found.1 in
    let offsets_same : offset ≡ offset' = found.2 in
    cc

-- sources that are refused don't compile
pub refused-not_compiled : NeverBothMeanings → (words : List (List ℕ)) (files : Files) (name source : List ℕ) (fault : Fault) (offset : ℕ) (texts : Texts)
    → IsRefused words (Some files) name source fault offset → HasAll words (Some files) texts → Compiles texts.sources → ⊥
refused-not_compiled never_both words files name source fault offset texts refused read compiled =
    let Family : Texts → Type 0 = λ t. HasFirstFault t.sources refused.file fault offset in
    never_both texts.sources compiled.0 refused.file fault offset compiled.1
    (subst Family (same_texts words files refused.texts texts refused.read read) refused.refused)

-- an order has one command
pub command_clash : (words : List (List ℕ)) (files : Option Files) (texts texts' : Texts) (one : HasAll words files texts) (two : HasAll words files texts') (c d : Command)
    → one.asked.command ≡ c → two.asked.command ≡ d → (c ≡ d → ⊥) → ⊥
command_clash words files texts texts' one two c d is_c is_d differ =
    differ (sym is_c ∙ ap (λ (o : Order). o.command) (same_asked words files texts texts' one two) ∙ is_d)

-- commands by their numbers
abbrev pub command_number : Command → ℕ
command_number commands.Run = 0
command_number commands.Check = 1
command_number commands.List = 2
command_number commands.Replay = 3
command_number commands.Make = 4

pub differs : (c d : Command) → (command_number c ≡ command_number d → ⊥) → c ≡ d → ⊥
differs c d other same = other (ap command_number same)

pub check-not_list : commands.Check ≡ commands.List → ⊥
check-not_list = differs commands.Check commands.List (λ e. omega arith)

pub run-not_make : commands.Run ≡ commands.Make → ⊥
run-not_make = differs commands.Run commands.Make (λ e. omega arith)

-- the command of a run
abbrev pub IsRunning : Command → Type 0
IsRunning commands.Run = Unit {0}
IsRunning commands.Check = ⊥
IsRunning commands.List = ⊥
IsRunning commands.Replay = ⊥
IsRunning commands.Make = Unit {0}

pub running : (asked : Order) (size : Option ℕ) → AsksRun asked size → IsRunning asked.command
running asked None runs = subst IsRunning (sym runs) tt
running asked (Some size) runs = subst IsRunning (sym runs.0) tt

-- an order to run asks for nothing else
pub runs_clash : (words : List (List ℕ)) (files : Option Files) (texts texts' : Texts) (one : HasAll words files texts) (two : HasAll words files texts') (size : Option ℕ) (c : Command)
    → AsksRun one.asked size → two.asked.command ≡ c → (IsRunning c → ⊥) → ⊥
runs_clash words files texts texts' one two size c runs is_c other =
    other (subst IsRunning (ap (λ (o : Order). o.command) (same_asked words files texts texts' one two) ∙ is_c) (running one.asked size runs))

-- it runs one thing
same_size : (asked asked' : Order) (size size' : Option ℕ) → asked ≡ asked' → AsksRun asked size → AsksRun asked' size' → size ≡ size'
same_size asked asked' None None same one two = refl
same_size asked asked' None (Some n) same one two = absurd (run-not_make (sym one ∙ ap (λ (o : Order). o.command) same ∙ two.0))
same_size asked asked' (Some n) None same one two = absurd (run-not_make (sym two ∙ ap (λ (o : Order). o.command) (sym same) ∙ one.0))
same_size asked asked' (Some n) (Some m) same one two = ap Some (sym one.1 ∙ ap (λ (o : Order). o.number) same ∙ two.1)

-- the listings of the same files are of one project
same_listed : HaveOneProject → (words : List (List ℕ)) (files : Files) (project project' : Project) → IsListed words (Some files) project → IsListed words (Some files) project' → project ≡ project'
same_listed one_project words files project project' one two =
    let Family : Texts → Type 0 = λ t. compiles t.sources project' in
    one_project one.texts.sources project project' one.compiled (subst Family (sym (same_texts words files one.texts two.texts one.read two.read)) two.compiled)

-- a script says one thing
same_fault_told : (script : List ℕ) (fault fault' : ScriptFault) → script_fault script fault → script_fault script fault' → fault ≡ fault'
same_fault_told script fault fault' one two =
    let left : Told = Err fault in
    let same : left ≡ Err fault' = sym one ∙ two in
    cc

pub told_clash : (script : List ℕ) (fault : ScriptFault) (es : List Event) → script_fault script fault → events script es → ⊥
told_clash script fault es one two =
    let Family : Told → Type 0 = λ r. elim r [ Ok a ↦ ⊥ | Err e ↦ Unit {0} ] in
    subst Family (sym one ∙ two) tt

same_events : (script : List ℕ) (es es' : List Event) → events script es → events script es' → es ≡ es'
same_events script es es' one two =
    let left : Told = Ok es in
    let same : left ≡ Ok es' = sym one ∙ two in
    cc

-- scripts are refused in one way
same_script : (words : List (List ℕ)) (files : Files) (fault fault' : ScriptFault) → IsScriptRefused words (Some files) fault → IsScriptRefused words (Some files) fault' → fault ≡ fault'
same_script words files fault fault' one two =
    let Family : Texts → Type 0 = λ t. script_fault t.script fault' in
    same_fault_told one.texts.script fault fault' one.refused (subst Family (sym (same_texts words files one.texts two.texts one.read two.read)) two.refused)

-- a script that is refused isn't run
pub script_clash : (words : List (List ℕ)) (files : Files) (fault : ScriptFault) (texts : Texts) (es : List Event) → IsScriptRefused words (Some files) fault → HasAll words (Some files) texts → events texts.script es → ⊥
script_clash words files fault texts es one read scripted =
    let Family : Texts → Type 0 = λ t. script_fault t.script fault in
    told_clash texts.script fault es (subst Family (same_texts words files one.texts texts one.read read) one.refused) scripted

same_origin : (o p : Origin) → o.project ≡ p.project → o.events ≡ p.events → o ≡ p
same_origin o p projects scripts =
    let with_project : Project → Origin = λ x. record { project = x; events = o.events } in
    let with_events : List Event → Origin = λ x. record { project = p.project; events = x } in
    ap with_project projects ∙ ap with_events scripts

kept_by_fields : (k l : Kept) → k.history ≡ l.history → k.loose ≡ l.loose → k.ending ≡ l.ending → k ≡ l
kept_by_fields k l histories looses endings =
    let with_history : List Entry → Kept = λ x. record { history = x; loose = k.loose; ending = k.ending } in
    let with_loose : List Loose → Kept = λ x. record { history = l.history; loose = x; ending = k.ending } in
    let with_ending : Ending → Kept = λ x. record { history = l.history; loose = l.loose; ending = x } in
    ap with_history histories ∙ ap with_loose looses ∙ ap with_ending endings

-- there is one round-robin run of an origin
same_kept : OneSerial → (origin : Origin) (limits : Limits) (kept kept' : Kept) (instructions others : ℕ) → IsSerialRun origin limits kept.history kept.loose instructions kept.ending
    → IsSerialRun origin limits kept'.history kept'.loose others kept'.ending → kept ≡ kept'
same_kept one_serial origin limits kept kept' instructions others one two =
    let same : (one.serial ≡ two.serial) × (kept.ending ≡ kept'.ending) =
    one_serial origin limits one.serial two.serial kept.ending kept'.ending one.rounds two.rounds in
    let history : kept.history ≡ kept'.history = sym one.history_is ∙ ap (λ (s : Progress). s.history) same.0 ∙ two.history_is in
    let loose : kept.loose ≡ kept'.loose = sym one.loose_are ∙ ap loose_ticks same.0 ∙ two.loose_are in
    kept_by_fields kept kept' history loose same.1

-- two runs of the same words are one
same_run : HaveOneProject → OneSerial → (words : List (List ℕ)) (files : Files) (kept kept' : Kept) (size size' : Option ℕ) (origin origin' : Origin) (instructions others : ℕ)
    → IsRun words (Some files) kept size origin instructions → IsRun words (Some files) kept' size' origin' others
    → IsOneRun kept kept' (ran size origin instructions) (ran size' origin' others)
same_run one_project one_serial words files kept kept' size size' origin origin' instructions others one two =
    let texts : one.texts ≡ two.texts = same_texts words files one.texts two.texts one.read two.read in
    let asked : one.read.asked ≡ two.read.asked = same_asked words (Some files) one.texts two.texts one.read two.read in
    let Compiled : Texts → Type 0 = λ t. compiles t.sources origin'.project in
    let Scripted : Texts → Type 0 = λ t. events t.script origin'.events in
    let origins : origin ≡ origin' = same_origin origin origin'
    (one_project one.texts.sources origin.project origin'.project one.compiled (subst Compiled (sym texts) two.compiled))
    (same_events one.texts.script origin.events origin'.events one.scripted (subst Scripted (sym texts) two.scripted)) in
    let OfOrigin : Origin → Type 0 = λ o. IsSerialRun o two.read.asked.limits kept'.history kept'.loose others kept'.ending in
    let OfOrder : Order → Type 0 = λ a. IsSerialRun origin a.limits kept'.history kept'.loose others kept'.ending in
    let sizes : size ≡ size' = same_size one.read.asked two.read.asked size size' asked one.runs two.runs in
    record {
      size = size;
      origin = origin;
      instructions = instructions;
      others = others;
      one = refl;
      two = let back : origin' ≡ origin = sym origins in let size_back : size' ≡ size = sym sizes in cc;
      kept_same = same_kept one_serial origin one.read.asked.limits kept kept' instructions others one.run (subst OfOrder (sym asked) (subst OfOrigin (sym origins) two.run));
    }

-- two causes that hold agree
pub one_cause_lem : HaveOneFirstFault → NeverBothMeanings → HaveOneProject → OneSerial → OneCause
one_cause_lem one_fault never_both one_project one_serial words files before now kept kept' (words_refused fault) (words_refused fault') calm one two =
    inl (ap words_refused (one_refusal words fault fault' one.1 two.1))
one_cause_lem one_fault never_both one_project one_serial words files before now kept kept' (words_refused fault) (workers_refused index') calm one two =
    absurd (order_clash words two.1.asked fault two.1.words_are one.1)
one_cause_lem one_fault never_both one_project one_serial words files before now kept kept' (words_refused fault) order_not_built calm one two =
    absurd (order_clash words two.1.asked fault two.1.words_are one.1)
one_cause_lem one_fault never_both one_project one_serial words files before now kept kept' (words_refused fault) (not_fetched f' number' name') calm one two =
    absurd (refused-not_asked words two.1.asked (inl (fault, one.1)) two.1.asks)
one_cause_lem one_fault never_both one_project one_serial words files before now kept kept' (words_refused fault) (source_refused name' source' fault' offset') calm one two =
    absurd (refused-not_asked words two.1.read.asked (inl (fault, one.1)) two.1.read.asks)
one_cause_lem one_fault never_both one_project one_serial words files before now kept kept' (words_refused fault) (script_refused fault') calm one two =
    absurd (refused-not_asked words two.1.read.asked (inl (fault, one.1)) two.1.read.asks)
one_cause_lem one_fault never_both one_project one_serial words files before now kept kept' (words_refused fault) checked calm one two =
    absurd (refused-not_asked words two.1.read.asked (inl (fault, one.1)) two.1.read.asks)
one_cause_lem one_fault never_both one_project one_serial words files before now kept kept' (words_refused fault) (listed project') calm one two =
    absurd (refused-not_asked words two.1.read.asked (inl (fault, one.1)) two.1.read.asks)
one_cause_lem one_fault never_both one_project one_serial words files before now kept kept' (words_refused fault) no_memory calm one two =
    inr (inl refl)
one_cause_lem one_fault never_both one_project one_serial words files before now kept kept' (words_refused fault) (ran size' origin' n') calm one two =
    absurd (refused-not_asked words two.read.asked (inl (fault, one.1)) two.read.asks)
one_cause_lem one_fault never_both one_project one_serial words files before now kept kept' (workers_refused index) (words_refused fault') calm one two =
    absurd (order_clash words one.1.asked fault' one.1.words_are two.1)
one_cause_lem one_fault never_both one_project one_serial words files before now kept kept' (workers_refused index) (workers_refused index') calm one two =
    inl (ap workers_refused (one_index words index index' one.1 two.1))
one_cause_lem one_fault never_both one_project one_serial words files before now kept kept' (workers_refused index) order_not_built calm one two =
    absurd (workers_clash words index two.1.asked one.1 two.1.words_are two.1.alone)
one_cause_lem one_fault never_both one_project one_serial words files before now kept kept' (workers_refused index) (not_fetched f' number' name') calm one two =
    absurd (refused-not_asked words two.1.asked (inr (inl (index, one.1))) two.1.asks)
one_cause_lem one_fault never_both one_project one_serial words files before now kept kept' (workers_refused index) (source_refused name' source' fault' offset') calm one two =
    absurd (refused-not_asked words two.1.read.asked (inr (inl (index, one.1))) two.1.read.asks)
one_cause_lem one_fault never_both one_project one_serial words files before now kept kept' (workers_refused index) (script_refused fault') calm one two =
    absurd (refused-not_asked words two.1.read.asked (inr (inl (index, one.1))) two.1.read.asks)
one_cause_lem one_fault never_both one_project one_serial words files before now kept kept' (workers_refused index) checked calm one two =
    absurd (refused-not_asked words two.1.read.asked (inr (inl (index, one.1))) two.1.read.asks)
one_cause_lem one_fault never_both one_project one_serial words files before now kept kept' (workers_refused index) (listed project') calm one two =
    absurd (refused-not_asked words two.1.read.asked (inr (inl (index, one.1))) two.1.read.asks)
one_cause_lem one_fault never_both one_project one_serial words files before now kept kept' (workers_refused index) no_memory calm one two =
    inr (inl refl)
one_cause_lem one_fault never_both one_project one_serial words files before now kept kept' (workers_refused index) (ran size' origin' n') calm one two =
    absurd (refused-not_asked words two.read.asked (inr (inl (index, one.1))) two.read.asks)
one_cause_lem one_fault never_both one_project one_serial words files before now kept kept' order_not_built (words_refused fault') calm one two =
    absurd (order_clash words one.1.asked fault' one.1.words_are two.1)
one_cause_lem one_fault never_both one_project one_serial words files before now kept kept' order_not_built (workers_refused index') calm one two =
    absurd (workers_clash words index' one.1.asked two.1 one.1.words_are one.1.alone)
one_cause_lem one_fault never_both one_project one_serial words files before now kept kept' order_not_built order_not_built calm one two =
    inl refl
one_cause_lem one_fault never_both one_project one_serial words files before now kept kept' order_not_built (not_fetched f' number' name') calm one two =
    absurd (refused-not_asked words two.1.asked (inr (inr one.1)) two.1.asks)
one_cause_lem one_fault never_both one_project one_serial words files before now kept kept' order_not_built (source_refused name' source' fault' offset') calm one two =
    absurd (refused-not_asked words two.1.read.asked (inr (inr one.1)) two.1.read.asks)
one_cause_lem one_fault never_both one_project one_serial words files before now kept kept' order_not_built (script_refused fault') calm one two =
    absurd (refused-not_asked words two.1.read.asked (inr (inr one.1)) two.1.read.asks)
one_cause_lem one_fault never_both one_project one_serial words files before now kept kept' order_not_built checked calm one two =
    absurd (refused-not_asked words two.1.read.asked (inr (inr one.1)) two.1.read.asks)
one_cause_lem one_fault never_both one_project one_serial words files before now kept kept' order_not_built (listed project') calm one two =
    absurd (refused-not_asked words two.1.read.asked (inr (inr one.1)) two.1.read.asks)
one_cause_lem one_fault never_both one_project one_serial words files before now kept kept' order_not_built no_memory calm one two =
    inr (inl refl)
one_cause_lem one_fault never_both one_project one_serial words files before now kept kept' order_not_built (ran size' origin' n') calm one two =
    absurd (refused-not_asked words two.read.asked (inr (inr one.1)) two.read.asks)
one_cause_lem one_fault never_both one_project one_serial words files before now kept kept' (not_fetched f number name) (words_refused fault') calm one two =
    absurd (refused-not_asked words one.1.asked (inl (fault', two.1)) one.1.asks)
one_cause_lem one_fault never_both one_project one_serial words files before now kept kept' (not_fetched f number name) (workers_refused index') calm one two =
    absurd (refused-not_asked words one.1.asked (inr (inl (index', two.1))) one.1.asks)
one_cause_lem one_fault never_both one_project one_serial words files before now kept kept' (not_fetched f number name) order_not_built calm one two =
    absurd (refused-not_asked words one.1.asked (inr (inr two.1)) one.1.asks)
one_cause_lem one_fault never_both one_project one_serial words files before now kept kept' (not_fetched f number name) (not_fetched f' number' name') calm one two =
    inl (same_file words files before now f f' number number' name name' calm one.1 one.2 two.1 two.2)
one_cause_lem one_fault never_both one_project one_serial words files before now kept kept' (not_fetched f number name) (source_refused name' source' fault' offset') calm one two =
    absurd (not_all words files before now number f name two.1.texts calm one.1 one.2 two.1.read)
one_cause_lem one_fault never_both one_project one_serial words files before now kept kept' (not_fetched f number name) (script_refused fault') calm one two =
    absurd (not_all words files before now number f name two.1.texts calm one.1 one.2 two.1.read)
one_cause_lem one_fault never_both one_project one_serial words files before now kept kept' (not_fetched f number name) checked calm one two =
    absurd (not_all words files before now number f name two.1.texts calm one.1 one.2 two.1.read)
one_cause_lem one_fault never_both one_project one_serial words files before now kept kept' (not_fetched f number name) (listed project') calm one two =
    absurd (not_all words files before now number f name two.1.texts calm one.1 one.2 two.1.read)
one_cause_lem one_fault never_both one_project one_serial words files before now kept kept' (not_fetched f number name) no_memory calm one two =
    inr (inl refl)
one_cause_lem one_fault never_both one_project one_serial words files before now kept kept' (not_fetched f number name) (ran size' origin' n') calm one two =
    absurd (not_all words files before now number f name two.texts calm one.1 one.2 two.read)
one_cause_lem one_fault never_both one_project one_serial words files before now kept kept' (source_refused name source fault offset) (words_refused fault') calm one two =
    absurd (refused-not_asked words one.1.read.asked (inl (fault', two.1)) one.1.read.asks)
one_cause_lem one_fault never_both one_project one_serial words files before now kept kept' (source_refused name source fault offset) (workers_refused index') calm one two =
    absurd (refused-not_asked words one.1.read.asked (inr (inl (index', two.1))) one.1.read.asks)
one_cause_lem one_fault never_both one_project one_serial words files before now kept kept' (source_refused name source fault offset) order_not_built calm one two =
    absurd (refused-not_asked words one.1.read.asked (inr (inr two.1)) one.1.read.asks)
one_cause_lem one_fault never_both one_project one_serial words files before now kept kept' (source_refused name source fault offset) (not_fetched f' number' name') calm one two =
    absurd (not_all words files before now number' f' name' one.1.texts calm two.1 two.2 one.1.read)
one_cause_lem one_fault never_both one_project one_serial words files before now kept kept' (source_refused name source fault offset) (source_refused name' source' fault' offset') calm one two =
    inl (same_refusal one_fault words files name name' source source' fault fault' offset offset' one.1 two.1)
one_cause_lem one_fault never_both one_project one_serial words files before now kept kept' (source_refused name source fault offset) (script_refused fault') calm one two =
    absurd (refused-not_compiled never_both words files name source fault offset two.1.texts one.1 two.1.read two.1.compiled)
one_cause_lem one_fault never_both one_project one_serial words files before now kept kept' (source_refused name source fault offset) checked calm one two =
    absurd (refused-not_compiled never_both words files name source fault offset two.1.texts one.1 two.1.read two.1.compiled)
one_cause_lem one_fault never_both one_project one_serial words files before now kept kept' (source_refused name source fault offset) (listed project') calm one two =
    absurd (refused-not_compiled never_both words files name source fault offset two.1.texts one.1 two.1.read (project', two.1.compiled))
one_cause_lem one_fault never_both one_project one_serial words files before now kept kept' (source_refused name source fault offset) no_memory calm one two =
    inr (inl refl)
one_cause_lem one_fault never_both one_project one_serial words files before now kept kept' (source_refused name source fault offset) (ran size' origin' n') calm one two =
    absurd (refused-not_compiled never_both words files name source fault offset two.texts one.1 two.read (origin'.project, two.compiled))
one_cause_lem one_fault never_both one_project one_serial words files before now kept kept' (script_refused fault) (words_refused fault') calm one two =
    absurd (refused-not_asked words one.1.read.asked (inl (fault', two.1)) one.1.read.asks)
one_cause_lem one_fault never_both one_project one_serial words files before now kept kept' (script_refused fault) (workers_refused index') calm one two =
    absurd (refused-not_asked words one.1.read.asked (inr (inl (index', two.1))) one.1.read.asks)
one_cause_lem one_fault never_both one_project one_serial words files before now kept kept' (script_refused fault) order_not_built calm one two =
    absurd (refused-not_asked words one.1.read.asked (inr (inr two.1)) one.1.read.asks)
one_cause_lem one_fault never_both one_project one_serial words files before now kept kept' (script_refused fault) (not_fetched f' number' name') calm one two =
    absurd (not_all words files before now number' f' name' one.1.texts calm two.1 two.2 one.1.read)
one_cause_lem one_fault never_both one_project one_serial words files before now kept kept' (script_refused fault) (source_refused name' source' fault' offset') calm one two =
    absurd (refused-not_compiled never_both words files name' source' fault' offset' one.1.texts two.1 one.1.read one.1.compiled)
one_cause_lem one_fault never_both one_project one_serial words files before now kept kept' (script_refused fault) (script_refused fault') calm one two =
    inl (ap script_refused (same_script words files fault fault' one.1 two.1))
one_cause_lem one_fault never_both one_project one_serial words files before now kept kept' (script_refused fault) checked calm one two =
    absurd (runs_clash words (Some files) one.1.texts two.1.texts one.1.read two.1.read one.1.size commands.Check one.1.runs two.1.checks (λ none. none))
one_cause_lem one_fault never_both one_project one_serial words files before now kept kept' (script_refused fault) (listed project') calm one two =
    absurd (runs_clash words (Some files) one.1.texts two.1.texts one.1.read two.1.read one.1.size commands.List one.1.runs two.1.lists (λ none. none))
one_cause_lem one_fault never_both one_project one_serial words files before now kept kept' (script_refused fault) no_memory calm one two =
    inr (inl refl)
one_cause_lem one_fault never_both one_project one_serial words files before now kept kept' (script_refused fault) (ran size' origin' n') calm one two =
    absurd (script_clash words files fault two.texts origin'.events one.1 two.read two.scripted)
one_cause_lem one_fault never_both one_project one_serial words files before now kept kept' checked (words_refused fault') calm one two =
    absurd (refused-not_asked words one.1.read.asked (inl (fault', two.1)) one.1.read.asks)
one_cause_lem one_fault never_both one_project one_serial words files before now kept kept' checked (workers_refused index') calm one two =
    absurd (refused-not_asked words one.1.read.asked (inr (inl (index', two.1))) one.1.read.asks)
one_cause_lem one_fault never_both one_project one_serial words files before now kept kept' checked order_not_built calm one two =
    absurd (refused-not_asked words one.1.read.asked (inr (inr two.1)) one.1.read.asks)
one_cause_lem one_fault never_both one_project one_serial words files before now kept kept' checked (not_fetched f' number' name') calm one two =
    absurd (not_all words files before now number' f' name' one.1.texts calm two.1 two.2 one.1.read)
one_cause_lem one_fault never_both one_project one_serial words files before now kept kept' checked (source_refused name' source' fault' offset') calm one two =
    absurd (refused-not_compiled never_both words files name' source' fault' offset' one.1.texts two.1 one.1.read one.1.compiled)
one_cause_lem one_fault never_both one_project one_serial words files before now kept kept' checked (script_refused fault') calm one two =
    absurd (runs_clash words (Some files) two.1.texts one.1.texts two.1.read one.1.read two.1.size commands.Check two.1.runs one.1.checks (λ none. none))
one_cause_lem one_fault never_both one_project one_serial words files before now kept kept' checked checked calm one two =
    inl refl
one_cause_lem one_fault never_both one_project one_serial words files before now kept kept' checked (listed project') calm one two =
    absurd (command_clash words (Some files) one.1.texts two.1.texts one.1.read two.1.read commands.Check commands.List one.1.checks two.1.lists check-not_list)
one_cause_lem one_fault never_both one_project one_serial words files before now kept kept' checked no_memory calm one two =
    inr (inl refl)
one_cause_lem one_fault never_both one_project one_serial words files before now kept kept' checked (ran size' origin' n') calm one two =
    absurd (runs_clash words (Some files) two.texts one.1.texts two.read one.1.read size' commands.Check two.runs one.1.checks (λ none. none))
one_cause_lem one_fault never_both one_project one_serial words files before now kept kept' (listed project) (words_refused fault') calm one two =
    absurd (refused-not_asked words one.1.read.asked (inl (fault', two.1)) one.1.read.asks)
one_cause_lem one_fault never_both one_project one_serial words files before now kept kept' (listed project) (workers_refused index') calm one two =
    absurd (refused-not_asked words one.1.read.asked (inr (inl (index', two.1))) one.1.read.asks)
one_cause_lem one_fault never_both one_project one_serial words files before now kept kept' (listed project) order_not_built calm one two =
    absurd (refused-not_asked words one.1.read.asked (inr (inr two.1)) one.1.read.asks)
one_cause_lem one_fault never_both one_project one_serial words files before now kept kept' (listed project) (not_fetched f' number' name') calm one two =
    absurd (not_all words files before now number' f' name' one.1.texts calm two.1 two.2 one.1.read)
one_cause_lem one_fault never_both one_project one_serial words files before now kept kept' (listed project) (source_refused name' source' fault' offset') calm one two =
    absurd (refused-not_compiled never_both words files name' source' fault' offset' one.1.texts two.1 one.1.read (project, one.1.compiled))
one_cause_lem one_fault never_both one_project one_serial words files before now kept kept' (listed project) (script_refused fault') calm one two =
    absurd (runs_clash words (Some files) two.1.texts one.1.texts two.1.read one.1.read two.1.size commands.List two.1.runs one.1.lists (λ none. none))
one_cause_lem one_fault never_both one_project one_serial words files before now kept kept' (listed project) checked calm one two =
    absurd (command_clash words (Some files) two.1.texts one.1.texts two.1.read one.1.read commands.Check commands.List two.1.checks one.1.lists check-not_list)
one_cause_lem one_fault never_both one_project one_serial words files before now kept kept' (listed project) (listed project') calm one two =
    inl (ap listed (same_listed one_project words files project project' one.1 two.1))
one_cause_lem one_fault never_both one_project one_serial words files before now kept kept' (listed project) no_memory calm one two =
    inr (inl refl)
one_cause_lem one_fault never_both one_project one_serial words files before now kept kept' (listed project) (ran size' origin' n') calm one two =
    absurd (runs_clash words (Some files) two.texts one.1.texts two.read one.1.read size' commands.List two.runs one.1.lists (λ none. none))
one_cause_lem one_fault never_both one_project one_serial words files before now kept kept' no_memory other calm one two = inr (inl refl)
one_cause_lem one_fault never_both one_project one_serial words files before now kept kept' (ran size origin n) (words_refused fault') calm one two =
    absurd (refused-not_asked words one.read.asked (inl (fault', two.1)) one.read.asks)
one_cause_lem one_fault never_both one_project one_serial words files before now kept kept' (ran size origin n) (workers_refused index') calm one two =
    absurd (refused-not_asked words one.read.asked (inr (inl (index', two.1))) one.read.asks)
one_cause_lem one_fault never_both one_project one_serial words files before now kept kept' (ran size origin n) order_not_built calm one two =
    absurd (refused-not_asked words one.read.asked (inr (inr two.1)) one.read.asks)
one_cause_lem one_fault never_both one_project one_serial words files before now kept kept' (ran size origin n) (not_fetched f' number' name') calm one two =
    absurd (not_all words files before now number' f' name' one.texts calm two.1 two.2 one.read)
one_cause_lem one_fault never_both one_project one_serial words files before now kept kept' (ran size origin n) (source_refused name' source' fault' offset') calm one two =
    absurd (refused-not_compiled never_both words files name' source' fault' offset' one.texts two.1 one.read (origin.project, one.compiled))
one_cause_lem one_fault never_both one_project one_serial words files before now kept kept' (ran size origin n) (script_refused fault') calm one two =
    absurd (script_clash words files fault' one.texts origin.events two.1 one.read one.scripted)
one_cause_lem one_fault never_both one_project one_serial words files before now kept kept' (ran size origin n) checked calm one two =
    absurd (runs_clash words (Some files) one.texts two.1.texts one.read two.1.read size commands.Check one.runs two.1.checks (λ none. none))
one_cause_lem one_fault never_both one_project one_serial words files before now kept kept' (ran size origin n) (listed project') calm one two =
    absurd (runs_clash words (Some files) one.texts two.1.texts one.read two.1.read size commands.List one.runs two.1.lists (λ none. none))
one_cause_lem one_fault never_both one_project one_serial words files before now kept kept' (ran size origin n) no_memory calm one two =
    inr (inl refl)
one_cause_lem one_fault never_both one_project one_serial words files before now kept kept' (ran size origin n) (ran size' origin' n') calm one two =
    inr (inr (same_run one_project one_serial words files kept kept' size size' origin origin' n n' one two))
