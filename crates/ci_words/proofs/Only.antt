use Rattle.std.proofs.Common.{◌≡◌, ℕ, zero, suc, ◌<◌, ◌+◌, arith, refl, subst, true, false, Some, None, List, length}
use Rattle.ci_words.specs.declared.command.Command.{Command}
use Rattle.ci_words.specs.declared.command.Command.TheVariants as commands
use Rattle.ci_words.specs.declared.command.OptionName.{OptionName}
use Rattle.ci_words.specs.declared.command.OptionName.TheVariants as names
use Rattle.ci_words.specs.declared.role.Role.{Role}
use Rattle.ci_words.specs.declared.role.Role.TheVariants as roles
use Rattle.ci_words.specs.declared.number.Bounds.{Bounds}
use Rattle.ci_words.specs.declared.fault.Fault.{Fault}
use Rattle.ci_words.specs.declared.fault.Fault.TheVariants as faults
use Rattle.ci_words.specs.Command.{takes_files, takes_value}
use Rattle.ci_words.specs.Role.{word_at, role_at, count_before}
use Rattle.ci_words.specs.Number.{is_number, value_of, bounds_of, bounds_of_plain, bounds_for, IsOutside}
use Rattle.ci_words.specs.Fault.{IsToBe, HasFault}

-- what a fault says of a word that is an option of the command
abbrev pub OptionFault : Command → List (List ℕ) → ℕ → OptionName → Fault → Type 0
OptionFault command words at name faults.ValueMissing = (takes_value name ≡ true) × (at + 1 ≡ length words)
OptionFault command words at name faults.Repeated = 0 < count_before command words (roles.Known name) at
OptionFault command words at name other = ⊥

-- what a fault says of a word that is to be a number
abbrev pub NumberFault : Bounds → List ℕ → Fault → Type 0
NumberFault bounds word faults.NotANumber = is_number word ≡ false
NumberFault bounds word faults.OutOfRange = (is_number word ≡ true) × IsOutside bounds (value_of word)
NumberFault bounds word other = ⊥

-- what a fault says of a plain word that needs to be no number
abbrev pub CountFault : Command → ℕ → Fault → Type 0
CountFault command before faults.TooManyFiles = (takes_files command ≡ true) × (before ≡ 64)
CountFault command before faults.WordTooMany = (takes_files command ≡ false) × (0 < before)
CountFault command before other = ⊥

-- what a fault says of the number of words
abbrev pub EndFault : Command → List (List ℕ) → Fault → Type 0
EndFault command words faults.NumberMissing = (takes_files command ≡ false) × (count_before command words roles.Plain (length words) ≡ 0)
EndFault command words faults.FromMissing = (command ≡ commands.Replay) × (count_before command words (roles.Known names.From) (length words) ≡ 0)
EndFault command words faults.NoFile = (takes_files command ≡ true) × (count_before command words roles.Plain (length words) ≡ 0)
EndFault command words other = ⊥

-- the faults at an option of the command
pub option_only : (command : Command) (words : List (List ℕ)) (at : ℕ) (name : OptionName) → at < length words → role_at command words at ≡ roles.Known name → (fault : Fault) → HasFault command words fault at → OptionFault command words at name fault
option_only command words at name within role faults.UnknownOption has = cc
option_only command words at name within role faults.ValueMissing has =
    let same : has.0 ≡ name = cc in
    let P : OptionName → Type 0 = λ n. takes_value n ≡ true in
    (subst P same has.2, has.3)
option_only command words at name within role faults.NumberMissing has = absurd (omega arith)
option_only command words at name within role faults.FromMissing has = absurd (omega arith)
option_only command words at name within role faults.NotANumber has = let none = rw role at has.1.1 in cc
option_only command words at name within role faults.OutOfRange has = let none = rw role at has.1.1 in cc
option_only command words at name within role faults.Repeated has =
    let same : has.0 ≡ name = cc in
    let P : OptionName → Type 0 = λ n. 0 < count_before command words (roles.Known n) at in
    subst P same has.2
option_only command words at name within role faults.NoFile has = absurd (omega arith)
option_only command words at name within role faults.TooManyFiles has = cc
option_only command words at name within role faults.WordTooMany has = cc

-- the faults at an unknown option
pub unknown_only : (command : Command) (words : List (List ℕ)) (at : ℕ) → at < length words → role_at command words at ≡ roles.Unknown → (fault : Fault) → HasFault command words fault at → fault ≡ faults.UnknownOption
unknown_only command words at within role faults.UnknownOption has = refl
unknown_only command words at within role faults.ValueMissing has = cc
unknown_only command words at within role faults.NumberMissing has = absurd (omega arith)
unknown_only command words at within role faults.FromMissing has = absurd (omega arith)
unknown_only command words at within role faults.NotANumber has = let none = rw role at has.1.1 in cc
unknown_only command words at within role faults.OutOfRange has = let none = rw role at has.1.1 in cc
unknown_only command words at within role faults.Repeated has = cc
unknown_only command words at within role faults.NoFile has = absurd (omega arith)
unknown_only command words at within role faults.TooManyFiles has = cc
unknown_only command words at within role faults.WordTooMany has = cc

-- the command has no faults
pub command_free : (command : Command) (words : List (List ℕ)) (at : ℕ) → at < length words → role_at command words at ≡ roles.Command → (fault : Fault) → HasFault command words fault at → ⊥
command_free command words at within role faults.UnknownOption has = cc
command_free command words at within role faults.ValueMissing has = cc
command_free command words at within role faults.NumberMissing has = omega arith
command_free command words at within role faults.FromMissing has = omega arith
command_free command words at within role faults.NotANumber has = let none = rw role at has.1.1 in cc
command_free command words at within role faults.OutOfRange has = let none = rw role at has.1.1 in cc
command_free command words at within role faults.Repeated has = cc
command_free command words at within role faults.NoFile has = omega arith
command_free command words at within role faults.TooManyFiles has = cc
command_free command words at within role faults.WordTooMany has = cc

-- a value that needs to be no number has no faults
pub value_free : (command : Command) (words : List (List ℕ)) (at : ℕ) (name : OptionName) → at < length words → role_at command words at ≡ roles.Value name → bounds_of name ≡ None → (fault : Fault) → HasFault command words fault at → ⊥
value_free command words at name within role unbound faults.UnknownOption has = cc
value_free command words at name within role unbound faults.ValueMissing has = cc
value_free command words at name within role unbound faults.NumberMissing has = omega arith
value_free command words at name within role unbound faults.FromMissing has = omega arith
value_free command words at name within role unbound faults.NotANumber has = let some = rw role at has.1.1 in cc
value_free command words at name within role unbound faults.OutOfRange has = let some = rw role at has.1.1 in cc
value_free command words at name within role unbound faults.Repeated has = cc
value_free command words at name within role unbound faults.NoFile has = omega arith
value_free command words at name within role unbound faults.TooManyFiles has = cc
value_free command words at name within role unbound faults.WordTooMany has = cc

-- the roles of numbers
abbrev pub NumberRole : Command → Role → ℕ → Type 0
NumberRole command roles.Command before = ⊥
NumberRole command roles.Unknown before = ⊥
NumberRole command (roles.Known name) before = ⊥
NumberRole command (roles.Value name) before = Unit {0}
NumberRole command roles.Plain before = (command ≡ commands.Make) × (before ≡ 0)

-- a number is the value of an option, or the first plain word of `make`
pub number_role : (command : Command) (role : Role) (before : ℕ) (bounds : Bounds) → bounds_for command role before ≡ Some bounds → NumberRole command role before
number_role command roles.Command before bounds to_be = cc
number_role command roles.Unknown before bounds to_be = cc
number_role command (roles.Known name) before bounds to_be = cc
number_role command (roles.Value name) before bounds to_be = tt
number_role commands.Run roles.Plain before bounds to_be = cc
number_role commands.Check roles.Plain before bounds to_be = cc
number_role commands.List roles.Plain before bounds to_be = cc
number_role commands.Replay roles.Plain before bounds to_be = cc
number_role commands.Make roles.Plain zero bounds to_be = (refl, refl)
number_role commands.Make roles.Plain (suc before) bounds to_be = cc

-- the faults at a word that is to be a number
pub number_only : (command : Command) (words : List (List ℕ)) (at : ℕ) (bounds : Bounds) → IsToBe command words at bounds → (fault : Fault) → HasFault command words fault at → NumberFault bounds (word_at words at) fault
number_only command words at bounds to_be faults.UnknownOption has =
    rw has.1 at (number_role command (role_at command words at) (count_before command words roles.Plain at) bounds to_be.1)
number_only command words at bounds to_be faults.ValueMissing has =
    rw has.1.1 at (number_role command (role_at command words at) (count_before command words roles.Plain at) bounds to_be.1)
number_only command words at bounds to_be faults.NumberMissing has = absurd (omega arith)
number_only command words at bounds to_be faults.FromMissing has = absurd (omega arith)
number_only command words at bounds to_be faults.NotANumber has = has.2
number_only command words at bounds to_be faults.OutOfRange has =
    let same : has.0 ≡ bounds = cc in
    let P : Bounds → Type 0 = λ b. IsOutside b (value_of (word_at words at)) in
    (has.2, subst P same has.3)
number_only command words at bounds to_be faults.Repeated has =
    rw has.1.1 at (number_role command (role_at command words at) (count_before command words roles.Plain at) bounds to_be.1)
number_only command words at bounds to_be faults.NoFile has = absurd (omega arith)
number_only command words at bounds to_be faults.TooManyFiles has =
    let role = rw has.0.1 at (number_role command (role_at command words at) (count_before command words roles.Plain at) bounds to_be.1) in
    let make = rw role.0 at has.1 in cc
number_only command words at bounds to_be faults.WordTooMany has =
    let role = rw has.0.1 at (number_role command (role_at command words at) (count_before command words roles.Plain at) bounds to_be.1) in
    absurd (omega arith)

-- the faults at a plain word that needs to be no number
pub count_only : (command : Command) (words : List (List ℕ)) (at : ℕ) → at < length words → role_at command words at ≡ roles.Plain → bounds_of_plain command (count_before command words roles.Plain at) ≡ None → (fault : Fault) → HasFault command words fault at → CountFault command (count_before command words roles.Plain at) fault
count_only command words at within role unbound faults.UnknownOption has = cc
count_only command words at within role unbound faults.ValueMissing has = cc
count_only command words at within role unbound faults.NumberMissing has = absurd (omega arith)
count_only command words at within role unbound faults.FromMissing has = absurd (omega arith)
count_only command words at within role unbound faults.NotANumber has = let some = rw role at has.1.1 in cc
count_only command words at within role unbound faults.OutOfRange has = let some = rw role at has.1.1 in cc
count_only command words at within role unbound faults.Repeated has = cc
count_only command words at within role unbound faults.NoFile has = absurd (omega arith)
count_only command words at within role unbound faults.TooManyFiles has = (has.1, has.2)
count_only command words at within role unbound faults.WordTooMany has = (has.1, has.2)

-- the faults at the number of words
pub end_only : (command : Command) (words : List (List ℕ)) (fault : Fault) → HasFault command words fault (length words) → EndFault command words fault
end_only command words faults.UnknownOption has = absurd (omega arith)
end_only command words faults.ValueMissing has = absurd (omega arith)
end_only command words faults.NumberMissing has = (has.1, has.2)
end_only command words faults.FromMissing has = (has.1, has.2)
end_only command words faults.NotANumber has = absurd (omega arith)
end_only command words faults.OutOfRange has = absurd (omega arith)
end_only command words faults.Repeated has = absurd (omega arith)
end_only command words faults.NoFile has = (has.1, has.2)
end_only command words faults.TooManyFiles has = absurd (omega arith)
end_only command words faults.WordTooMany has = absurd (omega arith)
