use Rattle.std.specs.Prelude.{ℕ, zero, suc, ◌+◌, ◌==◌, Bool, if◌then◌else◌, Option, Some, None, unwrap_or, List, [], ◌∷◌, ◌++◌, codes, nat_eq, slice_get}
use Rattle.std.specs.List.{starts_with}
use Rattle.ci_words.specs.declared.command.Command.{Command}
use Rattle.ci_words.specs.declared.command.OptionName.{OptionName}
use Rattle.ci_words.specs.declared.command.OptionName.TheVariants as names
use Rattle.ci_words.specs.declared.role.Role.{Role}
use Rattle.ci_words.specs.declared.role.Role.TheVariants as roles
use Rattle.ci_words.specs.Command.{takes_value, option_named}

-- the word at this index
abbrev pub word_at : List (List ℕ) → ℕ → List ℕ
word_at words at = unwrap_or (slice_get words at) []

-- an option of the command, or an unknown one
abbrev pub role_of_option : Option OptionName → Role
role_of_option (Some name) = roles.Known name
role_of_option None = roles.Unknown

-- what a word is by its own spelling: an option where it begins with two dashes, otherwise a plain word
abbrev pub role_by_spelling : Command → List ℕ → Role
role_by_spelling command word =
    if starts_with nat_eq word (codes "--") then role_of_option (option_named command word) else roles.Plain

-- What a word is after one of this role: the value of the option before it, whatever it is, where that takes one;
-- otherwise what it is by its own spelling.
abbrev pub role_after : Command → Role → List ℕ → Role
role_after command (roles.Known name) word =
    if takes_value name then roles.Value name else role_by_spelling command word
role_after command roles.Command word = role_by_spelling command word
role_after command roles.Unknown word = role_by_spelling command word
role_after command (roles.Value name) word = role_by_spelling command word
role_after command roles.Plain word = role_by_spelling command word

-- what the word at this index is: the first one is the command
abbrev pub role_at : Command → List (List ℕ) → ℕ → Role
role_at command words zero = roles.Command
role_at command words (suc before) = role_after command (role_at command words before) (word_at words (suc before))

-- the number of an option, by which options are told apart
abbrev pub name_number : OptionName → ℕ
name_number names.Script = 0
name_number names.Slice = 1
name_number names.Budget = 2
name_number names.Workers = 3
name_number names.Journal = 4
name_number names.From = 5

-- the number of a role, by which roles are told apart
abbrev pub role_number : Role → ℕ
role_number roles.Command = 0
role_number roles.Unknown = 1
role_number roles.Plain = 2
role_number (roles.Known name) = 3 + name_number name
role_number (roles.Value name) = 9 + name_number name

-- whether two roles are the same
abbrev pub same_role : Role → Role → Bool
same_role role other = role_number role == role_number other

-- how many words before this index have the role
abbrev pub count_before : Command → List (List ℕ) → Role → ℕ → ℕ
count_before command words role zero = 0
count_before command words role (suc at) =
    count_before command words role at + (if same_role (role_at command words at) role then 1 else 0)

-- the index of the word before this one that has the role; the last one where there are several
abbrev pub index_before : Command → List (List ℕ) → Role → ℕ → Option ℕ
index_before command words role zero = None
index_before command words role (suc at) =
    if same_role (role_at command words at) role then Some at else index_before command words role at

-- the indexes of all words before this one that have the role, in order
abbrev pub indexes_before : Command → List (List ℕ) → Role → ℕ → List ℕ
indexes_before command words role zero = []
indexes_before command words role (suc at) =
    indexes_before command words role at ++ (if same_role (role_at command words at) role then at ∷ [] else [])
