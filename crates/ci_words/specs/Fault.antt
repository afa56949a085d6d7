use Rattle.std.specs.Prelude.{◌≡◌, ◌<◌, ◌≤◌, ℕ, ◌+◌, true, false, Option, Some, None, List, [], length, codes, ◌==◌, if◌then◌else◌}
use Rattle.ci_base.specs.declared.bounds.TheConstants.{MOST_FILES}
use Rattle.ci_words.specs.declared.command.Command.{Command}
use Rattle.ci_words.specs.declared.command.Command.TheVariants as commands
use Rattle.ci_words.specs.declared.command.OptionName.{OptionName}
use Rattle.ci_words.specs.declared.command.OptionName.TheVariants as names
use Rattle.ci_words.specs.declared.role.Role.{Role}
use Rattle.ci_words.specs.declared.role.Role.TheVariants as roles
use Rattle.ci_words.specs.declared.number.Bounds.{Bounds}
use Rattle.ci_words.specs.declared.fault.Fault.{Fault}
use Rattle.ci_words.specs.declared.fault.Fault.TheVariants as faults
use Rattle.ci_words.specs.declared.fault.Found.{Found}
use Rattle.ci_words.specs.Command.{takes_files, takes_value}
use Rattle.ci_words.specs.Role.{word_at, role_at, count_before}
use Rattle.ci_words.specs.Number.{is_number, value_of, bounds_for, IsOutside}

-- there is a word at this index, and it has the role
abbrev pub HasRole : Command → List (List ℕ) → ℕ → Role → Type 0
HasRole command words at role = (at < length words) × (role_at command words at ≡ role)

-- there is a word at this index, and it is to be a number within these bounds
abbrev pub IsToBe : Command → List (List ℕ) → ℕ → Bounds → Type 0
IsToBe command words at bounds =
    (at < length words)
    × (bounds_for command (role_at command words at) (count_before command words roles.Plain at) ≡ Some bounds)

-- The words, of which the first one is the command, have this fault at this index.
abbrev pub HasFault : Command → List (List ℕ) → Fault → ℕ → Type 0
HasFault command words faults.UnknownOption at = HasRole command words at roles.Unknown
HasFault command words faults.ValueMissing at =
    (name : OptionName) × HasRole command words at (roles.Known name) × (takes_value name ≡ true) × (at + 1 ≡ length words)
HasFault command words faults.NumberMissing at =
    (at ≡ length words) × (takes_files command ≡ false) × (count_before command words roles.Plain at ≡ 0)
HasFault command words faults.FromMissing at =
    (at ≡ length words) × (command ≡ commands.Replay) × (count_before command words (roles.Known names.From) at ≡ 0)
HasFault command words faults.NotANumber at =
    (bounds : Bounds) × IsToBe command words at bounds × (is_number (word_at words at) ≡ false)
HasFault command words faults.OutOfRange at =
    (bounds : Bounds) × IsToBe command words at bounds × (is_number (word_at words at) ≡ true) × IsOutside bounds (value_of (word_at words at))
HasFault command words faults.Repeated at =
    (name : OptionName) × HasRole command words at (roles.Known name) × (0 < count_before command words (roles.Known name) at)
HasFault command words faults.NoFile at =
    (at ≡ length words) × (takes_files command ≡ true) × (count_before command words roles.Plain at ≡ 0)
HasFault command words faults.TooManyFiles at =
    HasRole command words at roles.Plain × (takes_files command ≡ true) × (count_before command words roles.Plain at ≡ MOST_FILES)
HasFault command words faults.WordTooMany at =
    HasRole command words at roles.Plain × (takes_files command ≡ false) × (0 < count_before command words roles.Plain at)

-- the number of a fault
abbrev pub number_of : Fault → ℕ
number_of faults.UnknownOption = 3
number_of faults.ValueMissing = 4
number_of faults.NumberMissing = 4
number_of faults.FromMissing = 4
number_of faults.NotANumber = 5
number_of faults.OutOfRange = 6
number_of faults.Repeated = 7
number_of faults.NoFile = 8
number_of faults.TooManyFiles = 9
number_of faults.WordTooMany = 10

-- Which one of several faults at one index is given: the one of the least rank, which is its number. Only that the journal
-- of `replay` is missing comes after that there is no file.
abbrev pub rank_of : Fault → ℕ
rank_of faults.UnknownOption = 3
rank_of faults.ValueMissing = 4
rank_of faults.NumberMissing = 4
rank_of faults.FromMissing = 11
rank_of faults.NotANumber = 5
rank_of faults.OutOfRange = 6
rank_of faults.Repeated = 7
rank_of faults.NoFile = 8
rank_of faults.TooManyFiles = 9
rank_of faults.WordTooMany = 10

-- what a fault of this number is called
abbrev pub text_of : ℕ → List ℕ
text_of number =
    if number == 1 then codes "no command" else
    (if number == 2 then codes "unknown command" else
    (if number == 3 then codes "unknown option" else
    (if number == 4 then codes "value missing" else
    (if number == 5 then codes "not a number" else
    (if number == 6 then codes "out of range" else
    (if number == 7 then codes "repeated" else
    (if number == 8 then codes "no file" else
    (if number == 9 then codes "too many files" else
    (if number == 10 then codes "word too many" else [])))))))))

-- the words have no fault at this index
abbrev pub IsFreeAt : Command → List (List ℕ) → ℕ → Type 0
IsFreeAt command words at = (fault : Fault) → HasFault command words fault at → ⊥

-- the words have no fault
abbrev pub IsFree : Command → List (List ℕ) → Type 0
IsFree command words = (at : ℕ) → IsFreeAt command words at

-- the words have this fault at this index, and none of less rank there
abbrev pub IsLeast : Command → List (List ℕ) → Fault → ℕ → Type 0
IsLeast command words fault at =
    HasFault command words fault at × ((other : Fault) → HasFault command words other at → rank_of fault ≤ rank_of other)

-- the fault that is given of those at this index, if there are any
abbrev pub IsGivenAt : Command → List (List ℕ) → ℕ → Option Fault → Type 0
IsGivenAt command words at None = IsFreeAt command words at
IsGivenAt command words at (Some fault) = IsLeast command words fault at

-- this fault at this index is given of all that the words have: no index before has one, and none at the index has less rank
abbrev pub IsFirst : Command → List (List ℕ) → Fault → ℕ → Type 0
IsFirst command words fault at =
    IsLeast command words fault at × ((before : ℕ) → before < at → IsFreeAt command words before)

-- the fault that is given of all that the words have, if they have any
abbrev pub IsFound : Command → List (List ℕ) → Option Found → Type 0
IsFound command words None = IsFree command words
IsFound command words (Some found) = IsFirst command words found.fault found.at
