-- Files that are fetched one after the other.
use Rattle.std.proofs.Common.{◌≡◌, ℕ, zero, suc, ◌+◌, ◌<◌, ◌≤◌, ◌∙◌, List, [], ◌∷◌, ◌++◌, length, take, drop, get_or, append_assoc, Option, Some, None, Err, refl, sym, ap, subst, arith, All, length-take-le}
use Rattle.std.specs.Prelude.{IsErrOf}
use Rattle.std.specs.List.{slice_get}
use Rattle.std.proofs.lemmas.List.{drop_more, take_more, take-append-drop}
use Rattle.std.proofs.lemmas.List.Elements.{All-nil, All-cons}
use Rattle.std.proofs.lemmas.Option.{slice_get_within, get_or_from_slice_get}
use Rattle.std.specs.Borrow.{Bor}
use Rattle.ci_outside.specs.Causes.{Rose}
use Rattle.ci_outside.specs.Shelf.{Files, HasFile, LacksFile, HasLongFile}
use Rattle.ci_outside.specs.declared.shelf.Fetch.{Fetch}
use Rattle.ci_outside.specs.declared.shelf.Fetch.TheVariants as fetches
use Rattle.ci_top.specs.Asked.{words_at, as_list, wanted_sources, wanted_of}
use Rattle.ci_top.specs.Decisions.{StopsAt, StopsFetching, StopsScript, decision_of_fetch}
use Rattle.ci_top.specs.Fetching.{Wanted, each_within, Fetched, IsNext}
use Rattle.ci_base.specs.declared.bounds.TheConstants.{MOST_SCRIPT_BYTES}
use Rattle.ci_words.specs.declared.order.Order.{Order}
use Rattle.ci_words.specs.Role.{word_at}
use Rattle.ci_top.specs.declared.decision.Decision.{Decision}
use Rattle.ci_top.specs.declared.decision.Decision.TheVariants as decisions
use Rattle.ci_top.specs.declared.decision.FileFault.{FileFault}
use Rattle.ci_top.specs.declared.decision.FileFault.TheVariants as faults
use Rattle.ci_top.specs.Answers.{FaultHolds}

-- the next element in front of what is behind it
drop_step : {A : Type 0} (xs : List A) (i : ℕ) (x : A) → x ≡ get_or xs i x → i < length xs → drop i xs ≡ x ∷ drop (i + 1) xs
drop_step xs i x x_is within = drop_more xs i x within ∙ ap (λ y. y ∷ drop (i + 1) xs) (sym x_is)

-- the member at an index, with those before it and behind it
around : {A : Type 0} (xs : List A) (i : ℕ) (x : A) → slice_get xs i ≡ Some x → xs ≡ take i xs ++ x ∷ drop (i + 1) xs
around xs i x is =
    sym (take-append-drop i xs)
    ∙ ap (λ l. take i xs ++ l) (drop_step xs i x (sym (get_or_from_slice_get xs i x x is)) (slice_get_within xs i x is))

-- files that were fetched, and more of them
pub Fetched-append : (files : Option Files) (wanted more : List Wanted) (contents others : List (List ℕ)) → Fetched files wanted contents → Fetched files more others → Fetched files (wanted ++ more) (contents ++ others)
Fetched-append files [] more [] others none rest = rest
Fetched-append files [] more (content ∷ contents) others none rest = absurd none
Fetched-append files (file ∷ wanted) more [] others none rest = absurd none
Fetched-append files (file ∷ wanted) more (content ∷ contents) others first rest = (first.0, first.1, Fetched-append files wanted more contents others first.2 rest)

-- one file more
pub Fetched-next : (files : Option Files) (wanted : List Wanted) (contents : List (List ℕ)) (i : ℕ) (file : Wanted) (content : List ℕ) → slice_get wanted i ≡ Some file → Fetched files (take i wanted) contents
    → HasFile files file.name content → length content ≤ file.limit → Fetched files (take (i + 1) wanted) (contents ++ content ∷ [])
Fetched-next files wanted contents i file content is fetched has within =
    let Family : List Wanted → Type 0 = λ l. Fetched files l (contents ++ content ∷ []) in
    let longer : take (i + 1) wanted ≡ take i wanted ++ file ∷ [] =
    take_more wanted i file (slice_get_within wanted i file is) ∙ ap (λ y. take i wanted ++ y ∷ []) (get_or_from_slice_get wanted i file file is) in
    subst Family (sym longer) (Fetched-append files (take i wanted) (file ∷ []) contents (content ∷ []) fetched (has, within, tt))

-- as many contents as files
pub Fetched-length : (files : Option Files) (wanted : List Wanted) (contents : List (List ℕ)) → Fetched files wanted contents → length contents ≡ length wanted
Fetched-length files [] [] fetched = refl
Fetched-length files [] (content ∷ contents) none = absurd none
Fetched-length files (file ∷ wanted) [] none = absurd none
Fetched-length files (file ∷ wanted) (content ∷ contents) fetched = omega (arith, Fetched-length files wanted contents fetched.2)

-- as many files as indexes of their names
pub length-wanted : (limit : ℕ) (words : List (List ℕ)) (indexes : List ℕ) → length (each_within limit (words_at words indexes)) ≡ length indexes
length-wanted limit words [] = refl
length-wanted limit words (at ∷ indexes) = omega (arith, length-wanted limit words indexes)

-- the file of a name
pub wanted-at : (limit : ℕ) (names : List (List ℕ)) (i : ℕ) (name : List ℕ) → slice_get names i ≡ Some name → slice_get (each_within limit names) i ≡ Some (record { name = name; limit = limit })
wanted-at limit [] i name is = absurd (cc)
wanted-at limit (x ∷ names) zero name is = let same : x ≡ name = cc in ap (λ n. Some (record { name = n; limit = limit })) same
wanted-at limit (x ∷ names) (suc i) name is = wanted-at limit names i name is

-- each within its limit
pub Fetched-within : (files : Option Files) (limit : ℕ) (names contents : List (List ℕ)) → Fetched files (each_within limit names) contents → All (λ content. length content ≤ limit) contents
Fetched-within files limit [] [] fetched = All-nil _
Fetched-within files limit [] (content ∷ contents) none = absurd none
Fetched-within files limit (name ∷ names) [] none = absurd none
Fetched-within files limit (name ∷ names) (content ∷ contents) fetched = All-cons (λ content. length content ≤ limit) content contents fetched.1 (Fetched-within files limit names contents fetched.2)

-- the next file
next_file : (files : Option Files) (wanted : List Wanted) (contents : List (List ℕ)) (i : ℕ) (file : Wanted) → slice_get wanted i ≡ Some file → Fetched files (take i wanted) contents → IsNext files wanted (i + 1) file
next_file files wanted contents i file is fetched = record {
  before = take i wanted;
  after = drop (i + 1) wanted;
  wanted_are = around wanted i file is;
  number_is = omega (arith, slice_get_within wanted i file is, length-take-le i wanted (let within : i < length wanted = slice_get_within wanted i file is in omega arith));
  contents = contents;
  fetched = fetched;
}

rose_later : (before mid now : ℕ) → before ≤ mid → Rose mid now → Rose before now
rose_later before mid now later rose = omega arith

-- a file that isn't fetched ends the order
pub stops-at : {T : Type 0} (files : Option Files) (before now limit number : ℕ) (wanted : List ℕ) (name : Bor (List ℕ)) (fetch : Fetch) → wanted ≡ name.now
    → (IsErrOf {T = T} (Err fetch) fetches.Absent → LacksFile files name.now) → (IsErrOf {T = T} (Err fetch) fetches.TooLong → HasLongFile files name.now limit) → (IsErrOf {T = T} (Err fetch) fetches.Failed → Rose before now)
    → StopsAt files before now number (record { name = wanted; limit = limit }) (decision_of_fetch fetch number name)
stops-at files before now limit number wanted name fetches.Absent is absent long failed =
    let Family : List ℕ → Type 0 = λ n. LacksFile files n in (refl, is, subst Family (sym is) (absent refl))
stops-at files before now limit number wanted name fetches.TooLong is absent long failed =
    let Family : List ℕ → Type 0 = λ n. HasLongFile files n limit in (refl, is, subst Family (sym is) (long refl))
stops-at files before now limit number wanted name fetches.Failed is absent long failed = (refl, is, failed refl)
stops-at files before now limit number wanted name fetches.Memory is absent long failed = tt

-- a fault that rose later rose before too
fault-later : (files : Option Files) (before mid now : ℕ) (fault : FileFault) (file : Wanted) → before ≤ mid → FaultHolds files mid now fault file → FaultHolds files before now fault file
fault-later files before mid now faults.Absent file later holds = holds
fault-later files before mid now faults.ReadFault file later holds = rose_later before mid now later holds
fault-later files before mid now faults.TooLong file later holds = holds

-- where the next of the wanted files isn't fetched, the order ends
at-next : (files : Option Files) (before mid now number : ℕ) (wanted : List Wanted) (file : Wanted) (decision : Decision) → IsNext files wanted number file → before ≤ mid
    → StopsAt files mid now number file decision → StopsFetching files before now wanted decision
at-next files before mid now number wanted file (decisions.NotFetched fault told name) next later (told_is, name_is, holds) =
    let Family : ℕ → Type 0 = λ n. IsNext files wanted n file in
    (file, name_is, subst Family (sym told_is) next, fault-later files before mid now fault file later holds)
at-next files before mid now number wanted file decisions.NoMemory next later stops = tt
at-next files before mid now number wanted file (decisions.WordsRefused fault) next later none = absurd none
at-next files before mid now number wanted file decisions.OrderNotBuilt next later none = absurd none
at-next files before mid now number wanted file (decisions.SourceRefused name fault at) next later none = absurd none
at-next files before mid now number wanted file (decisions.ScriptRefused fault) next later none = absurd none
at-next files before mid now number wanted file decisions.Checked next later none = absurd none
at-next files before mid now number wanted file (decisions.Listed program) next later none = absurd none
at-next files before mid now number wanted file (decisions.Ran made ended) next later none = absurd none

pub stops-next : (files : Option Files) (before mid now : ℕ) (wanted : List Wanted) (contents : List (List ℕ)) (i : ℕ) (file : Wanted) (decision : Decision) → slice_get wanted i ≡ Some file
    → Fetched files (take i wanted) contents → before ≤ mid → StopsAt files mid now (i + 1) file decision → StopsFetching files before now wanted decision
stops-next files before mid now wanted contents i file decision is fetched later stops =
    at-next files before mid now (i + 1) wanted file decision (next_file files wanted contents i file is fetched) later stops

-- of more wanted files, the first that isn't fetched is the same
pub stops-before : (files : Option Files) (before now : ℕ) (wanted more : List Wanted) (decision : Decision) → StopsFetching files before now wanted decision → StopsFetching files before now (wanted ++ more) decision
stops-before files before now wanted more (decisions.NotFetched fault number name) (file, name_is, next, holds) = (
  file,
  name_is,
  record {
    before = next.before;
    after = next.after ++ more;
    wanted_are = ap (λ l. l ++ more) next.wanted_are ∙ append_assoc next.before (file ∷ next.after) more;
    number_is = next.number_is;
    contents = next.contents;
    fetched = next.fetched;
  },
  holds,
)
stops-before files before now wanted more decisions.NoMemory stops = tt
stops-before files before now wanted more (decisions.WordsRefused fault) none = absurd none
stops-before files before now wanted more decisions.OrderNotBuilt none = absurd none
stops-before files before now wanted more (decisions.SourceRefused name fault at) none = absurd none
stops-before files before now wanted more (decisions.ScriptRefused fault) none = absurd none
stops-before files before now wanted more decisions.Checked none = absurd none
stops-before files before now wanted more (decisions.Listed program) none = absurd none
stops-before files before now wanted more (decisions.Ran made ended) none = absurd none

-- a script that isn't fetched behind its sources
pub stops-script : (files : Option Files) (before mid now number : ℕ) (words : List (List ℕ)) (asked : Order) (sources : List (List ℕ)) (decision : Decision) → Fetched files (wanted_sources words asked) sources
    → number ≡ length (wanted_sources words asked) + 1 → before ≤ mid → StopsScript files mid now number words asked.script decision → StopsFetching files before now (wanted_of words asked) decision
stops-script files before mid now number words asked sources decision fetched number_is later stops = by_script asked.script stops where
  by_script : (script : Option ℕ) → StopsScript files mid now number words script decision
      → StopsFetching files before now (wanted_sources words asked ++ each_within MOST_SCRIPT_BYTES (words_at words (as_list script))) decision
  by_script None none = absurd none
  by_script (Some at) stops_at =
      at-next files before mid now number _ (record { name = word_at words at; limit = MOST_SCRIPT_BYTES }) decision (record {
        before = wanted_sources words asked;
        after = [];
        wanted_are = refl;
        number_is = number_is;
        contents = sources;
        fetched = fetched;
      }) later stops_at

-- the script that was fetched, if one is named
pub script-fetched : (files : Option Files) (name content : List ℕ) (limit : ℕ) → HasFile files name content → length content ≤ limit → Fetched files (each_within limit (name ∷ [])) (content ∷ [])
script-fetched files name content limit has within = (has, within, tt)
