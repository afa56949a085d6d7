use Rattle.std.proofs.Common.{◌≡◌, ℕ, zero, suc, ◌<◌, ◌≤◌, ◌+◌, ◌⊎◌, inl, inr, arith, refl, subst, Bool, true, false, Option, Some, None, Result, Ok, Err, List, [], ◌∷◌, length}
use Rattle.std.proofs.lemmas.Bool.{cases_lt}
use Rattle.ci_words.specs.declared.command.Command.{Command}
use Rattle.ci_words.specs.declared.command.Command.TheVariants as commands
use Rattle.ci_words.specs.declared.command.OptionName.{OptionName}
use Rattle.ci_words.specs.declared.command.OptionName.TheVariants as names
use Rattle.ci_words.specs.declared.role.Role.{Role}
use Rattle.ci_words.specs.declared.role.Role.TheVariants as roles
use Rattle.ci_words.specs.declared.number.Bounds.{Bounds}
use Rattle.ci_words.specs.declared.fault.Fault.{Fault}
use Rattle.ci_words.specs.declared.fault.Fault.TheVariants as faults
use Rattle.ci_words.specs.declared.fault.WordFault.{WordFault}
use Rattle.ci_words.specs.declared.order.Order.{Order}
use Rattle.ci_words.specs.Command.{command_named, takes_files, takes_value}
use Rattle.ci_words.specs.Role.{word_at, role_at, count_before}
use Rattle.ci_words.specs.Number.{is_number, value_of, bounds_of, bounds_of_plain}
use Rattle.ci_words.specs.Fault.{rank_of, number_of, HasFault, IsToBe, IsFreeAt, IsGivenAt, IsFirst}
use Rattle.ci_words.specs.Order.{order_of, OrdersAs, OrdersOf, Orders}
use Rattle.ci_words.proofs.Few.{fault_within}
use Rattle.ci_words.proofs.Only.{OptionFault, NumberFault, CountFault, EndFault, option_only, unknown_only, command_free, value_free, number_only, count_only, end_only}

-- a fault or none is given at the index
abbrev Given : Command → List (List ℕ) → ℕ → Type 0
Given command words at = (given : Option Fault) × IsGivenAt command words at given

-- at an option of the command
given_option : (command : Command) (words : List (List ℕ)) (at : ℕ) (name : OptionName) → at < length words → role_at command words at ≡ roles.Known name → Given command words at
given_option command words at name within role =
    by_test (takes_value name) refl (cases_lt (at + 1) (length words)) (cases_lt 0 (count_before command words (roles.Known name) at)) where
      only : (fault : Fault) → HasFault command words fault at → OptionFault command words at name fault
      only = option_only command words at name within role

      repeated_least : (takes_value name ≡ true → at + 1 ≡ length words → ⊥) → (other : Fault) → OptionFault command words at name other → 7 ≤ rank_of other
      repeated_least whole faults.ValueMissing says = absurd (whole says.0 says.1)
      repeated_least whole faults.Repeated says = omega arith
      repeated_least whole other says = absurd says

      no_fault : (takes_value name ≡ true → at + 1 ≡ length words → ⊥) → count_before command words (roles.Known name) at ≤ 0 → (other : Fault) → OptionFault command words at name other → ⊥
      no_fault whole none faults.ValueMissing says = whole says.0 says.1
      no_fault whole none faults.Repeated says = omega arith
      no_fault whole none other says = says

      missing_least : (other : Fault) → OptionFault command words at name other → 4 ≤ rank_of other
      missing_least faults.ValueMissing says = omega arith
      missing_least faults.Repeated says = omega arith
      missing_least other says = absurd says

      again : (takes_value name ≡ true → at + 1 ≡ length words → ⊥) → (0 < count_before command words (roles.Known name) at) ⊎ (count_before command words (roles.Known name) at ≤ 0) → Given command words at
      again whole (inl more) = (Some faults.Repeated, ((name, (within, role), more), λ other has. repeated_least whole other (only other has)))
      again whole (inr none) = (None, λ other has. no_fault whole none other (only other has))

      by_test : (takes : Bool) → takes_value name ≡ takes → (at + 1 < length words) ⊎ (length words ≤ at + 1) → (0 < count_before command words (roles.Known name) at) ⊎ (count_before command words (roles.Known name) at ≤ 0) → Given command words at
      by_test false none index before = again (λ takes last. cc) before
      by_test true value (inl inside) before = again (λ takes last. omega arith) before
      by_test true value (inr last) before = (Some faults.ValueMissing, ((name, (within, role), value, omega arith), λ other has. missing_least other (only other has)))

-- at a word that is to be a number
given_number : (command : Command) (words : List (List ℕ)) (at : ℕ) (bounds : Bounds) → IsToBe command words at bounds → Given command words at
given_number command words at bounds to_be =
    by_test (is_number (word_at words at)) refl (cases_lt (value_of (word_at words at)) bounds.low) (cases_lt bounds.high (value_of (word_at words at))) where
      only : (fault : Fault) → HasFault command words fault at → NumberFault bounds (word_at words at) fault
      only = number_only command words at bounds to_be

      first_least : (other : Fault) → NumberFault bounds (word_at words at) other → 5 ≤ rank_of other
      first_least faults.NotANumber says = omega arith
      first_least faults.OutOfRange says = omega arith
      first_least other says = absurd says

      second_least : is_number (word_at words at) ≡ true → (other : Fault) → NumberFault bounds (word_at words at) other → 6 ≤ rank_of other
      second_least digits faults.NotANumber says = cc
      second_least digits faults.OutOfRange says = omega arith
      second_least digits other says = absurd says

      no_fault : is_number (word_at words at) ≡ true → bounds.low ≤ value_of (word_at words at) → value_of (word_at words at) ≤ bounds.high → (other : Fault) → NumberFault bounds (word_at words at) other → ⊥
      no_fault digits low high faults.NotANumber says = cc
      no_fault digits low high faults.OutOfRange says = omega arith
      no_fault digits low high other says = says

      by_test : (answer : Bool) → is_number (word_at words at) ≡ answer → (value_of (word_at words at) < bounds.low) ⊎ (bounds.low ≤ value_of (word_at words at)) → (bounds.high < value_of (word_at words at)) ⊎ (value_of (word_at words at) ≤ bounds.high) → Given command words at
      by_test false none low high = (Some faults.NotANumber, ((bounds, to_be, none), λ other has. first_least other (only other has)))
      by_test true digits (inl below) high = (Some faults.OutOfRange, ((bounds, to_be, digits, inl below), λ other has. second_least digits other (only other has)))
      by_test true digits (inr low) (inl above) = (Some faults.OutOfRange, ((bounds, to_be, digits, inr above), λ other has. second_least digits other (only other has)))
      by_test true digits (inr low) (inr high) = (None, λ other has. no_fault digits low high other (only other has))

-- at the value of an option
given_value : (command : Command) (words : List (List ℕ)) (at : ℕ) (name : OptionName) → at < length words → role_at command words at ≡ roles.Value name → Given command words at
given_value command words at name within role = by_bounds (bounds_of name) refl where
  by_bounds : (bounds : Option Bounds) → bounds_of name ≡ bounds → Given command words at
  by_bounds (Some bounds) same = given_number command words at bounds (within, rw role same)
  by_bounds None same = (None, value_free command words at name within role same)

-- at a plain word
given_plain : (command : Command) (words : List (List ℕ)) (at : ℕ) → at < length words → role_at command words at ≡ roles.Plain → Given command words at
given_plain command words at within role = by_bounds (bounds_of_plain command (count_before command words roles.Plain at)) refl where
  before : ℕ
  before = count_before command words roles.Plain at

  count_least : takes_files command ≡ true → (other : Fault) → CountFault command (count_before command words roles.Plain at) other → 9 ≤ rank_of other
  count_least takes faults.TooManyFiles says = omega arith
  count_least takes faults.WordTooMany says = omega arith
  count_least takes other says = absurd says

  word_least : takes_files command ≡ false → (other : Fault) → CountFault command (count_before command words roles.Plain at) other → 10 ≤ rank_of other
  word_least takes faults.TooManyFiles says = cc
  word_least takes faults.WordTooMany says = omega arith
  word_least takes other says = absurd says

  no_many : takes_files command ≡ true → (count_before command words roles.Plain at ≡ 64 → ⊥) → (other : Fault) → CountFault command (count_before command words roles.Plain at) other → ⊥
  no_many takes few faults.TooManyFiles says = few says.1
  no_many takes few faults.WordTooMany says = cc
  no_many takes few other says = says

  no_second : takes_files command ≡ false → count_before command words roles.Plain at ≤ 0 → (other : Fault) → CountFault command (count_before command words roles.Plain at) other → ⊥
  no_second takes none faults.TooManyFiles says = cc
  no_second takes none faults.WordTooMany says = omega arith
  no_second takes none other says = says

  by_command : (answer : Bool) → takes_files command ≡ answer → ((fault : Fault) → HasFault command words fault at → CountFault command (count_before command words roles.Plain at) fault) → (count_before command words roles.Plain at < 64) ⊎ (64 ≤ count_before command words roles.Plain at) → (64 < count_before command words roles.Plain at) ⊎ (count_before command words roles.Plain at ≤ 64) → (0 < count_before command words roles.Plain at) ⊎ (count_before command words roles.Plain at ≤ 0) → Given command words at
  by_command true takes only (inl few) below some = (None, λ other has. no_many takes (λ full. omega arith) other (only other has))
  by_command true takes only (inr many) (inl more) some = (None, λ other has. no_many takes (λ full. omega arith) other (only other has))
  by_command true takes only (inr many) (inr full) some = (Some faults.TooManyFiles, (((within, role), takes, omega arith), λ other has. count_least takes other (only other has)))
  by_command false takes only many below (inl some) = (Some faults.WordTooMany, (((within, role), takes, some), λ other has. word_least takes other (only other has)))
  by_command false takes only many below (inr none) = (None, λ other has. no_second takes none other (only other has))

  by_bounds : (bounds : Option Bounds) → bounds_of_plain command (count_before command words roles.Plain at) ≡ bounds → Given command words at
  by_bounds (Some bounds) same = given_number command words at bounds (within, rw role same)
  by_bounds None same =
      by_command (takes_files command) refl (count_only command words at within role same)
      (cases_lt (count_before command words roles.Plain at) 64) (cases_lt 64 (count_before command words roles.Plain at)) (cases_lt 0 (count_before command words roles.Plain at))

-- at the number of words
given_end : (command : Command) (words : List (List ℕ)) → Given command words (length words)
given_end command words =
    by_plain (takes_files command) refl (cases_lt 0 (count_before command words roles.Plain (length words))) where
      file_least : takes_files command ≡ true → (other : Fault) → EndFault command words other → 8 ≤ rank_of other
      file_least takes faults.NumberMissing says = cc
      file_least takes faults.FromMissing says = omega arith
      file_least takes faults.NoFile says = omega arith
      file_least takes other says = absurd says

      number_least : (other : Fault) → EndFault command words other → 4 ≤ rank_of other
      number_least faults.NumberMissing says = omega arith
      number_least faults.FromMissing says = omega arith
      number_least faults.NoFile says = omega arith
      number_least other says = absurd says

      from_least : 0 < count_before command words roles.Plain (length words) → (other : Fault) → EndFault command words other → 11 ≤ rank_of other
      from_least some faults.NumberMissing says = absurd (omega arith)
      from_least some faults.FromMissing says = omega arith
      from_least some faults.NoFile says = absurd (omega arith)
      from_least some other says = absurd says

      no_fault : 0 < count_before command words roles.Plain (length words) → (command ≡ commands.Replay → 0 < count_before command words (roles.Known names.From) (length words)) → (other : Fault) → EndFault command words other → ⊥
      no_fault some from faults.NumberMissing says = omega arith
      no_fault some from faults.FromMissing says = let more = from says.0 in omega arith
      no_fault some from faults.NoFile says = omega arith
      no_fault some from other says = says

      without_from : 0 < count_before command words roles.Plain (length words) → (command ≡ commands.Replay → ⊥) → Given command words (length words)
      without_from some never = (None, λ other has. no_fault some (λ same. absurd (never same)) other (end_only command words other has))

      with_from : 0 < count_before command words roles.Plain (length words) → command ≡ commands.Replay → (0 < count_before command words (roles.Known names.From) (length words)) ⊎ (count_before command words (roles.Known names.From) (length words) ≤ 0) → Given command words (length words)
      with_from some replay (inl more) = (None, λ other has. no_fault some (λ same. more) other (end_only command words other has))
      with_from some replay (inr none) = (Some faults.FromMissing, ((refl, replay, omega arith), λ other has. from_least some other (end_only command words other has)))

      by_command : (asked : Command) → command ≡ asked → 0 < count_before command words roles.Plain (length words) → Given command words (length words)
      by_command commands.Run same some = without_from some (λ replay. cc)
      by_command commands.Check same some = without_from some (λ replay. cc)
      by_command commands.List same some = without_from some (λ replay. cc)
      by_command commands.Make same some = without_from some (λ replay. cc)
      by_command commands.Replay same some = with_from some same (cases_lt 0 (count_before command words (roles.Known names.From) (length words)))

      by_plain : (answer : Bool) → takes_files command ≡ answer → (0 < count_before command words roles.Plain (length words)) ⊎ (count_before command words roles.Plain (length words) ≤ 0) → Given command words (length words)
      by_plain answer takes (inl some) = by_command command refl some
      by_plain true takes (inr none) = (Some faults.NoFile, ((refl, takes, omega arith), λ other has. file_least takes other (end_only command words other has)))
      by_plain false takes (inr none) = (Some faults.NumberMissing, ((refl, takes, omega arith), λ other has. number_least other (end_only command words other has)))

-- at an unknown option
given_unknown : (command : Command) (words : List (List ℕ)) (at : ℕ) → at < length words → role_at command words at ≡ roles.Unknown → Given command words at
given_unknown command words at within role =
    (Some faults.UnknownOption, ((within, role), λ other has. least other (unknown_only command words at within role other has))) where
      least : (other : Fault) → other ≡ faults.UnknownOption → 3 ≤ rank_of other
      least other same = rw same (omega arith)

-- at each index a fault is given or none
given_at : (command : Command) (words : List (List ℕ)) (at : ℕ) → Given command words at
given_at command words at = by_index (cases_lt at (length words)) (cases_lt (length words) at) where
  by_role : (role : Role) → role_at command words at ≡ role → at < length words → Given command words at
  by_role roles.Command same within = (None, command_free command words at within same)
  by_role (roles.Known name) same within = given_option command words at name within same
  by_role roles.Unknown same within = given_unknown command words at within same
  by_role (roles.Value name) same within = given_value command words at name within same
  by_role roles.Plain same within = given_plain command words at within same

  by_index : (at < length words) ⊎ (length words ≤ at) → (length words < at) ⊎ (at ≤ length words) → Given command words at
  by_index (inl within) past = by_role (role_at command words at) refl within
  by_index (inr outside) (inl past) = (None, λ fault has. let within = fault_within command words fault at has in omega arith)
  by_index (inr outside) (inr not_past) =
      let same : length words ≡ at = omega arith in
      subst (λ (k : ℕ). Given command words k) same (given_end command words)

-- below an index there is no fault, or one is given of all
found_below : (command : Command) (words : List (List ℕ)) (end : ℕ) → ((at : ℕ) → at < end → IsFreeAt command words at) ⊎ ((fault : Fault) × (at : ℕ) × IsFirst command words fault at)
found_below command words zero = inl (λ at below. absurd (omega arith))
found_below command words (suc end) = one_more (found_below command words end) (given_at command words end) where
  one_more : ((at : ℕ) → at < end → IsFreeAt command words at) ⊎ ((fault : Fault) × (at : ℕ) × IsFirst command words fault at) → Given command words end → ((at : ℕ) → at < suc end → IsFreeAt command words at) ⊎ ((fault : Fault) × (at : ℕ) × IsFirst command words fault at)
  one_more (inr found) here = inr found
  one_more (inl free) (Some fault, least) = inr (fault, end, (least, free))
  one_more (inl free) (None, none) = inl (λ at below. by_index at (cases_lt at end) (λ same. omega arith) below) where
    by_index : (at : ℕ) → (at < end) ⊎ (end ≤ at) → (end < at → at < suc end → ⊥) → at < suc end → IsFreeAt command words at
    by_index at (inl earlier) never below = free at earlier
    by_index at (inr last) never below =
        let same : end ≡ at = omega arith in
        subst (λ (k : ℕ). IsFreeAt command words k) same none

-- words after a command come to an answer
some_as : (command : Command) (words : List (List ℕ)) → (result : Result Order WordFault) × OrdersAs command words result
some_as command words = by_found (found_below command words (length words + 1)) where
  by_found : ((at : ℕ) → at < length words + 1 → IsFreeAt command words at) ⊎ ((fault : Fault) × (at : ℕ) × IsFirst command words fault at) → (result : Result Order WordFault) × OrdersAs command words result
  by_found (inr (fault, at, first)) = (Err (record { number = number_of fault; index = at }), (fault, at, first, refl))
  by_found (inl free) =
      (Ok (order_of command words), (λ at fault has. let within = fault_within command words fault at has in free at (omega arith) fault has, refl))

-- words come to an answer
pub some_answer : (words : List (List ℕ)) → (result : Result Order WordFault) × Orders words result
some_answer [] = (Err (record { number = 1; index = 0 }), refl)
some_answer (first ∷ later) = by_command (command_named first) where
  by_command : (command : Option Command) → (result : Result Order WordFault) × OrdersOf command (first ∷ later) result
  by_command (Some command) = some_as command (first ∷ later)
  by_command None = (Err (record { number = 2; index = 0 }), refl)
