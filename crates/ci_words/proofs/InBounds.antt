use Rattle.std.proofs.Common.{◌≡◌, ℕ, zero, suc, ◌<◌, ◌≤◌, ◌+◌, arith, refl, sym, ap, subst, inl, Bool, true, false, if◌then◌else◌, Option, Some, None, IsSome, IfSome, List, [], ◌∷◌, ◌++◌, length, All}
use Rattle.std.proofs.lemmas.List.{append-nil}
use Rattle.std.proofs.lemmas.List.Elements.{All-nil, All-push, All-weaker}
use Rattle.std.proofs.lemmas.Bool.{eq-eqb}
use Rattle.ci_words.specs.declared.command.Command.{Command}
use Rattle.ci_words.specs.declared.command.Command.TheVariants as commands
use Rattle.ci_words.specs.declared.command.OptionName.{OptionName}
use Rattle.ci_words.specs.declared.command.OptionName.TheVariants as names
use Rattle.ci_words.specs.declared.role.Role.{Role}
use Rattle.ci_words.specs.declared.role.Role.TheVariants as roles
use Rattle.ci_words.specs.declared.number.Bounds.{Bounds}
use Rattle.ci_words.specs.declared.fault.Fault.TheVariants as faults
use Rattle.ci_words.specs.Command.{takes_files}
use Rattle.ci_words.specs.Role.{word_at, role_at, role_number, same_role, count_before, index_before, indexes_before}
use Rattle.ci_words.specs.Number.{is_number, value_of, bounds_of}
use Rattle.ci_words.specs.Fault.{IsToBe, IsFree}
use Rattle.ci_words.specs.Order.{value_index, number_at, files_of, size_of, order_of}
use Rattle.ci_words.specs.Bounds.{IsInBounds}
use Rattle.ci_words.proofs.Free.{index_has, number_within, count_at_most, length-indexes}

-- a index is below the end
index_within : (command : Command) (words : List (List ℕ)) (role : Role) (end : ℕ) → IfSome (index_before command words role end) (λ at. at < end)
index_within command words role end = by_index (index_before command words role end) refl where
  by_index : (index : Option ℕ) → index_before command words role end ≡ index → IfSome index (λ at. at < end)
  by_index None same = tt
  by_index (Some at) same = let has = index_has command words role end at same in has.0

-- indexes are below the end
indexes_within : (command : Command) (words : List (List ℕ)) (role : Role) (end : ℕ) → All (λ at. at < end) (indexes_before command words role end)
indexes_within command words role zero = All-nil _
indexes_within command words role (suc end) =
    by_test (same_role (role_at command words end) role)
    (All-weaker (λ (at : ℕ). at < end) (λ (at : ℕ). at < suc end) (λ at below. omega arith) (indexes_before command words role end) (indexes_within command words role end)) where
      by_test : (answer : Bool) → All (λ (at : ℕ). at < suc end) (indexes_before command words role end) → All (λ (at : ℕ). at < suc end) (indexes_before command words role end ++ (if answer then end ∷ [] else []))
      by_test true earlier = All-push (λ (at : ℕ). at < suc end) (indexes_before command words role end) end earlier (omega arith)
      by_test false earlier = rw append-nil earlier

-- a word that has the role has a index
some_index : (command : Command) (words : List (List ℕ)) (role : Role) (end at : ℕ) → at < end → role_at command words at ≡ role → IsSome (index_before command words role end)
some_index command words role zero at below has = absurd (omega arith)
some_index command words role (suc end) at below has =
    by_test (same_role (role_at command words end) role) refl (some_index command words role end at) where
      by_test : (answer : Bool) → same_role (role_at command words end) role ≡ answer → (at < end → role_at command words at ≡ role → IsSome (index_before command words role end)) → IsSome (if answer then Some end else index_before command words role end)
      by_test true same earlier = refl
      by_test false other earlier =
          let different : at ≡ end → ⊥ = λ last.
          let here : role_at command words end ≡ role = subst (λ (k : ℕ). role_at command words k ≡ role) last has in
          let same : same_role (role_at command words end) role ≡ true = eq-eqb (role_number (role_at command words end)) (role_number role) (ap role_number here) in
          cc in
          earlier (omega arith) has

-- words of which some are counted have a index
counted_index : (command : Command) (words : List (List ℕ)) (role : Role) (end : ℕ) → 0 < count_before command words role end → (at : ℕ) × (index_before command words role end ≡ Some at)
counted_index command words role zero some = absurd (omega arith)
counted_index command words role (suc end) some =
    by_test (same_role (role_at command words end) role) some (counted_index command words role end) where
      by_test : (answer : Bool) → 0 < count_before command words role end + (if answer then 1 else 0) → (0 < count_before command words role end → (at : ℕ) × (index_before command words role end ≡ Some at)) → (at : ℕ) × ((if answer then Some end else index_before command words role end) ≡ Some at)
      by_test true more earlier = (end, refl)
      by_test false more earlier = earlier (omega arith)

-- a number of words without a fault is at least the smallest of its bounds
number_above : (command : Command) (words : List (List ℕ)) (at : ℕ) (bounds : Bounds) → IsFree command words → IsToBe command words at bounds → bounds.low ≤ value_of (word_at words at)
number_above command words at bounds free to_be = by_test (is_number (word_at words at)) refl where
  by_test : (answer : Bool) → is_number (word_at words at) ≡ answer → bounds.low ≤ value_of (word_at words at)
  by_test false none = absurd (free at faults.NotANumber (bounds, to_be, none))
  by_test true digits =
      let none_below : value_of (word_at words at) < bounds.low → ⊥ = λ below. free at faults.OutOfRange (bounds, to_be, digits, inl below) in
      omega arith

-- the number of an option is within its bounds
option_within : (command : Command) (words : List (List ℕ)) (name : OptionName) (bounds : Bounds) (default : ℕ) → IsFree command words → bounds_of name ≡ Some bounds → bounds.low ≤ default → default ≤ bounds.high → (bounds.low ≤ number_at words (value_index command words name) default) × (number_at words (value_index command words name) default ≤ bounds.high)
option_within command words name bounds default free bound low high = by_index (value_index command words name) refl where
  by_index : (index : Option ℕ) → value_index command words name ≡ index → (bounds.low ≤ number_at words index default) × (number_at words index default ≤ bounds.high)
  by_index None same = (low, high)
  by_index (Some at) same =
      let has = index_has command words (roles.Value name) (length words) at same in
      let to_be : IsToBe command words at bounds = (has.0, rw has.1 bound) in
      (number_above command words at bounds free to_be, number_within command words at bounds free to_be)

-- the number of `make` is within its bounds
make_within : (words : List (List ℕ)) → IsFree commands.Make words → (1 ≤ size_of commands.Make words) × (size_of commands.Make words ≤ 900)
make_within words free =
    let none_missing : count_before commands.Make words roles.Plain (length words) ≡ 0 → ⊥ = λ none. free (length words) faults.NumberMissing (refl, refl, none) in
    let index = counted_index commands.Make words roles.Plain (length words) (omega arith) in
    let has = index_has commands.Make words roles.Plain (length words) index.0 index.1 in
    let alone : 0 < count_before commands.Make words roles.Plain index.0 → ⊥ = λ more. free index.0 faults.WordTooMany (has, refl, more) in
    let first : count_before commands.Make words roles.Plain index.0 ≡ 0 = omega arith in
    let bounds : Bounds = record { low = 1; high = 900 } in
    let to_be : IsToBe commands.Make words index.0 bounds = (has.0, rw (has.1, first) refl) in
    let low : 1 ≤ value_of (word_at words index.0) = number_above commands.Make words index.0 bounds free to_be in
    let high : value_of (word_at words index.0) ≤ 900 = number_within commands.Make words index.0 bounds free to_be in
    rw index.1 (low, high)

-- `replay` has a journal
replay_journal : (words : List (List ℕ)) → IsFree commands.Replay words → IsSome (value_index commands.Replay words names.From)
replay_journal words free =
    let none_missing : count_before commands.Replay words (roles.Known names.From) (length words) ≡ 0 → ⊥ = λ none. free (length words) faults.FromMissing (refl, refl, none) in
    let index = counted_index commands.Replay words (roles.Known names.From) (length words) (omega arith) in
    let has = index_has commands.Replay words (roles.Known names.From) (length words) index.0 index.1 in
    let not_last : index.0 + 1 ≡ length words → ⊥ = λ last. free index.0 faults.ValueMissing (names.From, has, refl, last) in
    let role : role_at commands.Replay words (suc index.0) ≡ roles.Value names.From = rw has.1 refl in
    some_index commands.Replay words (roles.Value names.From) (length words) (suc index.0) (omega arith) role

-- the files are below the number of words, and few
files_within : (command : Command) (words : List (List ℕ)) → IsFree command words → All (λ at. at < length words) (files_of command words) × (length (files_of command words) ≤ 64) × (takes_files command ≡ true → 0 < length (files_of command words))
files_within command words free = by_command (takes_files command) refl where
  by_command : (answer : Bool) → takes_files command ≡ answer → All (λ at. at < length words) (if answer then indexes_before command words roles.Plain (length words) else []) × (length (if answer then indexes_before command words roles.Plain (length words) else []) ≤ 64) × (answer ≡ true → 0 < length (if answer then indexes_before command words roles.Plain (length words) else []))
  by_command false takes = (All-nil _, omega arith, λ other. cc)
  by_command true takes =
      let many : length (indexes_before command words roles.Plain (length words)) ≡ count_before command words roles.Plain (length words) = length-indexes command words roles.Plain (length words) in
      let few : count_before command words roles.Plain (length words) ≤ 64 =
      count_at_most command words roles.Plain 64 (length words) (λ k below plain full. free k faults.TooManyFiles ((omega arith, plain), takes, full)) in
      let none_missing : count_before command words roles.Plain (length words) ≡ 0 → ⊥ = λ none. free (length words) faults.NoFile (refl, takes, none) in
      (indexes_within command words roles.Plain (length words), omega arith, λ same. omega arith)

-- what words without a fault ask for is within its bounds
pub order_within : (command : Command) (words : List (List ℕ)) → IsFree command words → IsInBounds words (order_of command words)
order_within command words free =
    let files = files_within command words free in
    let workers = option_within command words names.Workers (record { low = 0; high = 16 }) 0 free refl (omega arith) (omega arith) in
    record {
      files = files.0;
      most_files = files.1;
      some_file = files.2;
      script = index_within command words (roles.Value names.Script) (length words);
      journal = index_within command words (roles.Value names.From) (length words);
      some_journal = λ same. by_replay same;
      number = λ same. by_make same;
      slice = option_within command words names.Slice (record { low = 1; high = 1000000 }) 1000 free refl (omega arith) (omega arith);
      budget = option_within command words names.Budget (record { low = 200; high = 100000000 }) 10000000 free refl (omega arith) (omega arith);
      workers = workers.1;
      slice_at = index_within command words (roles.Value names.Slice) (length words);
      budget_at = index_within command words (roles.Value names.Budget) (length words);
      workers_at = index_within command words (roles.Value names.Workers) (length words);
      some_workers_at = some_value words (value_index command words names.Workers);
    } where
      some_value : (words : List (List ℕ)) (index : Option ℕ) → 0 < number_at words index 0 → IsSome index
      some_value words None some = absurd (omega arith)
      some_value words (Some at) some = refl

      by_replay : command ≡ commands.Replay → IsSome (value_index command words names.From)
      by_replay same =
          let P : Command → Type 0 = λ c. IsFree c words → IsSome (value_index c words names.From) in
          subst P (sym same) (replay_journal words) free

      by_make : command ≡ commands.Make → (1 ≤ size_of command words) × (size_of command words ≤ 900)
      by_make same =
          let P : Command → Type 0 = λ c. IsFree c words → (1 ≤ size_of c words) × (size_of c words ≤ 900) in
          subst P (sym same) (make_within words) free
