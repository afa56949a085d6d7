use Rattle.std.proofs.Common.{◌≡◌, ℕ, zero, suc, ◌<◌, ◌≤◌, ◌+◌, arith, rules, refl, sym, ap, subst, inr, min, Bool, true, false, if◌then◌else◌, Some, IsSome, List, [], ◌∷◌, length, ◌++◌, ◌∙◌, length-append}
use Rattle.std.specs.List.{slice_get}
use Rattle.ci_words.specs.declared.command.Command.{Command}
use Rattle.ci_words.specs.declared.command.Command.TheVariants as commands
use Rattle.ci_words.specs.declared.command.OptionName.{OptionName}
use Rattle.ci_words.specs.declared.command.OptionName.TheVariants as names
use Rattle.ci_words.specs.declared.role.Role.{Role}
use Rattle.ci_words.specs.declared.role.Role.TheVariants as roles
use Rattle.ci_words.specs.declared.number.Bounds.{Bounds}
use Rattle.ci_words.specs.declared.fault.Fault.TheVariants as faults
use Rattle.ci_words.specs.Command.{takes_files}
use Rattle.ci_words.specs.Role.{word_at, role_at, role_number, same_role, count_before, index_before, indexes_before}
use Rattle.ci_words.specs.Number.{is_number, value_of, bounds_of}
use Rattle.ci_words.specs.Fault.{IsToBe, IsFree}
use Rattle.ci_words.specs.Order.{value_index}
use Rattle.std.proofs.lemmas.Bool.{eqb-true}

-- all roles, by their numbers
abbrev all_roles : List Role
all_roles =
    roles.Command ∷ roles.Unknown ∷ roles.Plain
    ∷ roles.Known names.Script ∷ roles.Known names.Slice ∷ roles.Known names.Budget ∷ roles.Known names.Workers ∷ roles.Known names.Journal ∷ roles.Known names.From
    ∷ roles.Value names.Script ∷ roles.Value names.Slice ∷ roles.Value names.Budget ∷ roles.Value names.Workers ∷ roles.Value names.Journal ∷ roles.Value names.From ∷ []

-- the number of a role leads back to it
role_numbered : (role : Role) → slice_get all_roles (role_number role) ≡ Some role
role_numbered roles.Command = refl
role_numbered roles.Unknown = refl
role_numbered roles.Plain = refl
role_numbered (roles.Known names.Script) = refl
role_numbered (roles.Known names.Slice) = refl
role_numbered (roles.Known names.Budget) = refl
role_numbered (roles.Known names.Workers) = refl
role_numbered (roles.Known names.Journal) = refl
role_numbered (roles.Known names.From) = refl
role_numbered (roles.Value names.Script) = refl
role_numbered (roles.Value names.Slice) = refl
role_numbered (roles.Value names.Budget) = refl
role_numbered (roles.Value names.Workers) = refl
role_numbered (roles.Value names.Journal) = refl
role_numbered (roles.Value names.From) = refl

-- roles that the test finds the same are the same
pub same_role-true : (role other : Role) → same_role role other ≡ true → role ≡ other
same_role-true role other same =
    let numbers : role_number role ≡ role_number other = eqb-true (role_number role) (role_number other) same in
    let read : slice_get all_roles (role_number role) ≡ slice_get all_roles (role_number other) = ap (slice_get all_roles) numbers in
    let one = role_numbered role in
    let two = role_numbered other in
    cc

-- the word at the index of a role has it
pub index_has : (command : Command) (words : List (List ℕ)) (role : Role) (end at : ℕ) → index_before command words role end ≡ Some at → (at < end) × (role_at command words at ≡ role)
index_has command words role zero at placed = cc
index_has command words role (suc end) at placed =
    by_test (same_role (role_at command words end) role) refl placed (index_has command words role end at) where
      by_test : (answer : Bool) → same_role (role_at command words end) role ≡ answer → (if answer then Some end else index_before command words role end) ≡ Some at → (index_before command words role end ≡ Some at → (at < end) × (role_at command words at ≡ role)) → (at < suc end) × (role_at command words at ≡ role)
      by_test true same here earlier =
          let there : end ≡ at = cc in
          (omega arith, subst (λ (k : ℕ). role_at command words k ≡ role) there (same_role-true _ _ same))
      by_test false other before earlier =
          let has = earlier before in
          (omega arith, has.1)

-- a number of words without a fault is at most the largest of its bounds
pub number_within : (command : Command) (words : List (List ℕ)) (at : ℕ) (bounds : Bounds) → IsFree command words → IsToBe command words at bounds → value_of (word_at words at) ≤ bounds.high
number_within command words at bounds free to_be = by_test (is_number (word_at words at)) refl where
  by_test : (answer : Bool) → is_number (word_at words at) ≡ answer → value_of (word_at words at) ≤ bounds.high
  by_test false none = absurd (free at faults.NotANumber (bounds, to_be, none))
  by_test true digits =
      let none_above : bounds.high < value_of (word_at words at) → ⊥ = λ above. free at faults.OutOfRange (bounds, to_be, digits, inr above) in
      omega arith

-- the bounds of an option that takes a number
small_bounds : (name : OptionName) → IsSome (bounds_of name) → (bounds : Bounds) × (bounds_of name ≡ Some bounds) × (bounds.high ≤ 100000000)
small_bounds names.Script some = absurd (search (rules, some))
small_bounds names.Slice some = (record { low = 1; high = 1000000 }, refl, omega arith)
small_bounds names.Budget some = (record { low = 200; high = 100000000 }, refl, omega arith)
small_bounds names.Workers some = (record { low = 0; high = 16 }, refl, omega arith)
small_bounds names.Journal some = absurd (search (rules, some))
small_bounds names.From some = absurd (search (rules, some))

-- the number of an option is read whole
pub option_value : (command : Command) (words : List (List ℕ)) (name : OptionName) (at : ℕ) → IsFree command words → IsSome (bounds_of name) → Some at ≡ value_index command words name → min (value_of (word_at words at)) 200000000 ≡ value_of (word_at words at)
option_value command words name at free some placed =
    let has = index_has command words (roles.Value name) (length words) at (sym placed) in
    let bounds = small_bounds name some in
    let to_be : IsToBe command words at bounds.0 = (has.0, rw has.1 bounds.1) in
    let within = number_within command words at bounds.0 free to_be in
    omega arith

-- the number of `make` is read whole
pub make_value : (words : List (List ℕ)) (at : ℕ) → IsFree commands.Make words → Some at ≡ index_before commands.Make words roles.Plain (length words) → min (value_of (word_at words at)) 200000000 ≡ value_of (word_at words at)
make_value words at free placed =
    let has = index_has commands.Make words roles.Plain (length words) at (sym placed) in
    let alone : 0 < count_before commands.Make words roles.Plain at → ⊥ = λ more. free at faults.WordTooMany (has, refl, more) in
    let first : count_before commands.Make words roles.Plain at ≡ 0 = omega arith in
    let bounds : Bounds = record { low = 1; high = 900 } in
    let to_be : IsToBe commands.Make words at bounds = (has.0, rw (has.1, first) refl) in
    let within : value_of (word_at words at) ≤ 900 = number_within commands.Make words at bounds free to_be in
    omega arith

-- Where no word of the role has so many of them before it, there are at most so many.
pub count_at_most : (command : Command) (words : List (List ℕ)) (role : Role) (most end : ℕ) → ((at : ℕ) → at < end → role_at command words at ≡ role → count_before command words role at ≡ most → ⊥) → count_before command words role end ≤ most
count_at_most command words role most zero never = omega arith
count_at_most command words role most (suc end) never =
    by_test (same_role (role_at command words end) role) refl (count_at_most command words role most end (λ at below. never at (omega arith))) (never end (omega arith)) where
      by_test : (answer : Bool) → same_role (role_at command words end) role ≡ answer → count_before command words role end ≤ most → (role_at command words end ≡ role → count_before command words role end ≡ most → ⊥) → count_before command words role end + (if answer then 1 else 0) ≤ most
      by_test true same earlier last =
          let other : count_before command words role end ≡ most → ⊥ = last (same_role-true _ _ same) in
          omega arith
      by_test false other earlier last = omega arith

-- as many indexes as are counted
pub length-indexes : (command : Command) (words : List (List ℕ)) (role : Role) (end : ℕ) → length (indexes_before command words role end) ≡ count_before command words role end
length-indexes command words role zero = refl
length-indexes command words role (suc end) =
    by_test (same_role (role_at command words end) role) (length-indexes command words role end) where
      by_test : (answer : Bool) → length (indexes_before command words role end) ≡ count_before command words role end → length (indexes_before command words role end ++ (if answer then end ∷ [] else [])) ≡ count_before command words role end + (if answer then 1 else 0)
      by_test true earlier = omega (arith, length-append (indexes_before command words role end) (end ∷ []))
      by_test false earlier = omega (arith, length-append (indexes_before command words role end) [])

-- a file has less than 64 files before it
pub room_for_file : (command : Command) (words : List (List ℕ)) (at : ℕ) (files : List ℕ) (current : Role) → takes_files command ≡ true → IsFree command words → at < length words → current ≡ role_at command words at → files ≡ indexes_before command words roles.Plain at → true ≡ same_role current roles.Plain → length files < 64
room_for_file command words at files current takes free within here placed same =
    let role : role_at command words at ≡ roles.Plain = sym here ∙ same_role-true current roles.Plain (sym same) in
    let other : count_before command words roles.Plain at ≡ 64 → ⊥ = λ full. free at faults.TooManyFiles ((within, role), takes, full) in
    let few : count_before command words roles.Plain at ≤ 64 =
    count_at_most command words roles.Plain 64 at (λ k below plain full. free k faults.TooManyFiles ((omega arith, plain), takes, full)) in
    let many : length files ≡ count_before command words roles.Plain at = ap length placed ∙ length-indexes command words roles.Plain at in
    omega arith
