use Rattle.std.proofs.Common.{◌≡◌, ℕ, zero, suc, ◌<◌, ◌≤◌, ◌+◌, arith, refl, ap, Bool, true, false, if◌then◌else◌, Option, Some, None, List, length, nat_eq, codes}
use Rattle.std.specs.List.{starts_with}
use Rattle.std.proofs.lemmas.Bool.{eq-eqb}
use Rattle.ci_words.specs.declared.command.Command.{Command}
use Rattle.ci_words.specs.declared.command.OptionName.{OptionName}
use Rattle.ci_words.specs.declared.command.OptionName.TheVariants as names
use Rattle.ci_words.specs.declared.role.Role.{Role}
use Rattle.ci_words.specs.declared.role.Role.TheVariants as roles
use Rattle.ci_words.specs.declared.fault.Fault.{Fault}
use Rattle.ci_words.specs.declared.fault.Fault.TheVariants as faults
use Rattle.ci_words.specs.Command.{takes_files, takes_value, option_named}
use Rattle.ci_words.specs.Role.{word_at, role_of_option, role_by_spelling, role_after, role_at, role_number, same_role, count_before}
use Rattle.ci_words.specs.Fault.{HasFault, IsFreeAt}
use Rattle.ci_words.proofs.Free.{same_role-true, count_at_most}

-- one for a word that has the role
abbrev one_if : Role → Role → ℕ
one_if current role = if same_role current role then 1 else 0

-- the sum over all options
abbrev sum_of : (OptionName → ℕ) → ℕ
sum_of f = f names.Script + f names.Slice + f names.Budget + f names.Workers + f names.Journal + f names.From

-- each word has one role
one_role : (role : Role) → one_if role roles.Command + one_if role roles.Unknown + one_if role roles.Plain + sum_of (λ name. one_if role (roles.Known name)) + sum_of (λ name. one_if role (roles.Value name)) ≡ 1
one_role roles.Command = refl
one_role roles.Unknown = refl
one_role roles.Plain = refl
one_role (roles.Known names.Script) = refl
one_role (roles.Known names.Slice) = refl
one_role (roles.Known names.Budget) = refl
one_role (roles.Known names.Workers) = refl
one_role (roles.Known names.Journal) = refl
one_role (roles.Known names.From) = refl
one_role (roles.Value names.Script) = refl
one_role (roles.Value names.Slice) = refl
one_role (roles.Value names.Budget) = refl
one_role (roles.Value names.Workers) = refl
one_role (roles.Value names.Journal) = refl
one_role (roles.Value names.From) = refl

-- the words of all roles are all words
all_counted : (command : Command) (words : List (List ℕ)) (end : ℕ) → count_before command words roles.Command end + count_before command words roles.Unknown end + count_before command words roles.Plain end + sum_of (λ name. count_before command words (roles.Known name) end) + sum_of (λ name. count_before command words (roles.Value name) end) ≡ end
all_counted command words zero = refl
all_counted command words (suc end) = omega (arith, all_counted command words end, one_role (role_at command words end))

-- a word is no value by its own spelling
spelled_no_value : (command : Command) (word : List ℕ) (name : OptionName) → role_by_spelling command word ≡ roles.Value name → ⊥
spelled_no_value command word name = by_test (starts_with nat_eq word (codes "--")) (option_named command word) where
  by_test : (dashes : Bool) (option : Option OptionName) → (if dashes then role_of_option option else roles.Plain) ≡ roles.Value name → ⊥
  by_test true (Some other) same = cc
  by_test true None same = cc
  by_test false option same = cc

-- a word is no command by its own spelling
spelled_no_command : (command : Command) (word : List ℕ) → role_by_spelling command word ≡ roles.Command → ⊥
spelled_no_command command word = by_test (starts_with nat_eq word (codes "--")) (option_named command word) where
  by_test : (dashes : Bool) (option : Option OptionName) → (if dashes then role_of_option option else roles.Plain) ≡ roles.Command → ⊥
  by_test true (Some other) same = cc
  by_test true None same = cc
  by_test false option same = cc

-- a value stands behind its option
value_behind : (command : Command) (before : Role) (word : List ℕ) (name : OptionName) → role_after command before word ≡ roles.Value name → before ≡ roles.Known name
value_behind command roles.Command word name same = absurd (spelled_no_value command word name same)
value_behind command roles.Unknown word name same = absurd (spelled_no_value command word name same)
value_behind command roles.Plain word name same = absurd (spelled_no_value command word name same)
value_behind command (roles.Value other) word name same = absurd (spelled_no_value command word name same)
value_behind command (roles.Known other) word name same = by_test (takes_value other) same where
  by_test : (takes : Bool) → (if takes then roles.Value other else role_by_spelling command word) ≡ roles.Value name → roles.Known other ≡ roles.Known name
  by_test true here = cc
  by_test false here = absurd (spelled_no_value command word name here)

-- no later word is the command
no_later_command : (command : Command) (before : Role) (word : List ℕ) → role_after command before word ≡ roles.Command → ⊥
no_later_command command roles.Command word same = spelled_no_command command word same
no_later_command command roles.Unknown word same = spelled_no_command command word same
no_later_command command roles.Plain word same = spelled_no_command command word same
no_later_command command (roles.Value other) word same = spelled_no_command command word same
no_later_command command (roles.Known other) word same = by_test (takes_value other) same where
  by_test : (takes : Bool) → (if takes then roles.Value other else role_by_spelling command word) ≡ roles.Command → ⊥
  by_test true here = cc
  by_test false here = spelled_no_command command word here

-- there is one command
one_command : (command : Command) (words : List (List ℕ)) (end : ℕ) → count_before command words roles.Command end ≤ 1
one_command command words end = count_at_most command words roles.Command 1 end (λ at below. never at) where
  never : (at : ℕ) → role_at command words at ≡ roles.Command → count_before command words roles.Command at ≡ 1 → ⊥
  never zero role counted = omega arith
  never (suc at) role counted = no_later_command command (role_at command words at) (word_at words (suc at)) role

-- there are at most as many values of an option as the option is given
values_behind : (command : Command) (words : List (List ℕ)) (name : OptionName) (end : ℕ) → count_before command words (roles.Value name) (suc end) ≤ count_before command words (roles.Known name) end
values_behind command words name zero = by_test (same_role roles.Command (roles.Value name)) refl where
  by_test : (answer : Bool) → same_role roles.Command (roles.Value name) ≡ answer → 0 + (if answer then 1 else 0) ≤ 0
  by_test true same = let equal = same_role-true roles.Command (roles.Value name) same in cc
  by_test false other = omega arith
values_behind command words name (suc end) =
    by_test (same_role (role_at command words (suc end)) (roles.Value name)) refl (values_behind command words name end) where
      by_test : (answer : Bool) → same_role (role_at command words (suc end)) (roles.Value name) ≡ answer → count_before command words (roles.Value name) (suc end) ≤ count_before command words (roles.Known name) end → count_before command words (roles.Value name) (suc end) + (if answer then 1 else 0) ≤ count_before command words (roles.Known name) end + one_if (role_at command words end) (roles.Known name)
      by_test true same earlier =
          let known : role_at command words end ≡ roles.Known name = value_behind command (role_at command words end) (word_at words (suc end)) name (same_role-true _ _ same) in
          let given : same_role (role_at command words end) (roles.Known name) ≡ true = eq-eqb (role_number (role_at command words end)) (role_number (roles.Known name)) (ap role_number known) in
          let one : one_if (role_at command words end) (roles.Known name) ≡ 1 = rw given refl in
          omega arith
      by_test false other earlier = omega arith

-- a word at which there is no fault and none before is one of the first 78
pub few_words : (command : Command) (words : List (List ℕ)) (end : ℕ) → end ≤ length words → ((at : ℕ) → at < end → IsFreeAt command words at) → end ≤ 77
few_words command words end within free =
    let commands = one_command command words end in
    let unknown : count_before command words roles.Unknown end ≤ 0 =
    count_at_most command words roles.Unknown 0 end (λ at below role counted. free at below faults.UnknownOption (omega arith, role)) in
    let plain : count_before command words roles.Plain end ≤ 64 = plain_words (takes_files command) refl in
    omega (
      arith,
      all_counted command words end,
      option_words names.Script,
      option_words names.Slice,
      option_words names.Budget,
      option_words names.Workers,
      option_words names.Journal,
      option_words names.From,
    ) where
      plain_words : (answer : Bool) → takes_files command ≡ answer → count_before command words roles.Plain end ≤ 64
      plain_words true takes =
          count_at_most command words roles.Plain 64 end (λ at below role counted. free at below faults.TooManyFiles ((omega arith, role), takes, counted))
      plain_words false takes =
          let one : count_before command words roles.Plain end ≤ 1 =
          count_at_most command words roles.Plain 1 end (λ at below role counted. free at below faults.WordTooMany ((omega arith, role), takes, omega arith)) in
          omega arith

      option_words : (name : OptionName) → count_before command words (roles.Known name) end + count_before command words (roles.Value name) end ≤ 2
      option_words name =
          let known : count_before command words (roles.Known name) end ≤ 1 =
          count_at_most command words (roles.Known name) 1 end (λ at below role counted. free at below faults.Repeated (name, (omega arith, role), omega arith)) in
          let values = values_behind command words name end in
          omega arith

-- a fault stands at a word, or at the number of words
pub fault_within : (command : Command) (words : List (List ℕ)) (fault : Fault) (at : ℕ) → HasFault command words fault at → at ≤ length words
fault_within command words faults.UnknownOption at has = omega arith
fault_within command words faults.ValueMissing at has = omega arith
fault_within command words faults.NumberMissing at has = omega arith
fault_within command words faults.FromMissing at has = omega arith
fault_within command words faults.NotANumber at has = omega arith
fault_within command words faults.OutOfRange at has = omega arith
fault_within command words faults.Repeated at has = omega arith
fault_within command words faults.NoFile at has = omega arith
fault_within command words faults.TooManyFiles at has = omega arith
fault_within command words faults.WordTooMany at has = omega arith
